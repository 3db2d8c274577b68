-- 0 is the one number that is written as one digit 0.
use Rattle.std.proofs.Common.{◌≡◌, true, false, sym, ap, ◌∙◌, Some, codes, true≢false}
use Rattle.std.specs.Str.{bytes_eq}
use Rattle.std.proofs.lemmas.Slice.Eq.{bytes_eq-Decides}
use Rattle.digits.proofs.Decimals.{zero_written}
use Rattle.arguments.proofs.Written.{above_zero, zero_alone}
use Rattle.arguments.proofs.numbers.written_number.Goals as goal

pub returns-then-eq-clause-sound : goal.returns-then-eq-clause-sound
returns-then-eq-clause-sound c =
    let same : bytes_eq c.args.digits.now (codes "0") ≡ true = cc in
    let is : c.args.digits.now ≡ codes "0" = (bytes_eq-Decides c.args.digits.now (codes "0")).0 same in
    zero_written ∙ sym is

pub returns-then-eq-clause-complete : goal.returns-then-eq-clause-complete
returns-then-eq-clause-complete c = λ n low written.
    let same : bytes_eq c.args.digits.now (codes "0") ≡ true = cc in
    let is : c.args.digits.now ≡ codes "0" = (bytes_eq-Decides c.args.digits.now (codes "0")).0 same in
    ap Some (sym (zero_alone n c.args.digits.now low written is))

pub returns-else-eq-clause-complete : goal.returns-else-eq-clause-complete
returns-else-eq-clause-complete c = λ n low written.
    let other : bytes_eq c.args.digits.now (codes "0") ≡ false = cc in
    c.positive_number.ensures.complete n
    (above_zero n c.args.digits.now written (λ is. true≢false (sym ((bytes_eq-Decides c.args.digits.now (codes "0")).1 is) ∙ other)))
    low written
