-- The number has the three slots' distances from the least ones as its parts.
use Rattle.std.proofs.Common.{◌≡◌, ◌∙◌, ◌+◌, ◌-◌, ◌*◌, ◌^◌, ◌<◌, ◌≤◌, ap, arith}
use Rattle.packed_keys.specs.Frames.{IsIn, key_at}
use Rattle.packed_keys.proofs.Numbers.{is_in, key_back}
use Rattle.packed_keys.proofs.frame.Frame.number.Goals as goal

both : (c : goal.In_ok-number) → (key_at c.args.self.now c.in_ok-number.number ≡ c.args.key) × IsIn c.args.self.now c.in_ok-number.number
both c =
    let f = c.args.self.now in
    let key = c.args.key in
    let p : (f.least.first ≤ key.first) × (c.in_ok-checked_sub.field-0 ≡ key.first - f.least.first) = c.in_ok-checked_sub.ensures in
    let q : (f.least.second ≤ key.second) × (c.in_ok-checked_sub-2.field-0 ≡ key.second - f.least.second) = c.in_ok-checked_sub-2.ensures in
    let r : (f.least.third ≤ key.third) × (c.in_ok-checked_sub-3.field-0 ≡ key.third - f.least.third) = c.in_ok-checked_sub-3.ensures in
    let ea : f.least.first + c.from-first.result ≡ key.first = omega (arith, c.from-first.ensures) in
    let eb : f.least.second + c.from-second.result ≡ key.second = omega (arith, c.from-second.ensures) in
    let ec : f.least.third + c.from-third.result ≡ key.third = omega (arith, c.from-third.ensures) in
    let ha : key.first < 2 ^ 32 = omega arith in
    let hb : key.second < 2 ^ 32 = omega arith in
    let hc : key.third < 2 ^ 32 = omega arith in
    let lb : c.from-second.result < 2 ^ f.second = omega (arith, c.power.ensures, c.if-second-power.false) in
    let lc : c.from-third.result < 2 ^ f.third = omega (arith, c.power-else-second-power.ensures, c.if-third-power.false) in
    let eh : c.in_ok-high.high ≡ c.from-first.result * 2 ^ f.second + c.from-second.result = c.in_ok-high.ensures ∙ ap (λ m. c.from-first.result * m + c.from-second.result) c.power-2.ensures in
    let en : c.in_ok-number.number ≡ c.in_ok-high.high * 2 ^ f.third + c.from-third.result = c.in_ok-number.ensures ∙ ap (λ m. c.in_ok-high.high * m + c.from-third.result) c.power-3.ensures in
    (key_back f c.from-first.result c.from-second.result c.from-third.result c.in_ok-high.high c.in_ok-number.number lb lc eh en key ea eb ec ha hb hc, is_in f c.from-first.result c.from-second.result c.from-third.result c.in_ok-high.high c.in_ok-number.number lb lc eh en key ea eb ec ha hb hc)

pub returns-clause-stands : goal.returns-clause-stands
returns-clause-stands c = (both c).0

pub returns-clause-inside : goal.returns-clause-inside
returns-clause-inside c = (both c).1
