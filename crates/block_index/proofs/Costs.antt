-- A binary search over n places takes no more steps than n has binary digits.
use Rattle.std.proofs.Common.{◌≡◌, ℕ, zero, suc, ◌+◌, ◌-◌, ◌*◌, ◌^◌, ◌<◌, ◌≤◌, sym, subst, arith, ⊎_elim}
use Rattle.std.proofs.lemmas.Bool.{cases_lt}
use Rattle.std.proofs.Math.Nat.{pow-suc}
use Rattle.comparison_steps.specs.Steps.{WithinSteps, Left}

-- half of a gap below 2 ^ e is below 2 ^ (e - 1)
halved : (e gap next : ℕ) → 0 < gap → next + next ≤ gap → gap < 2 ^ e → (0 < e) × (next < 2 ^ (e - 1))
halved zero gap next some half below = let one : gap < 1 = below in absurd (omega arith)
halved (suc e) gap next some half below =
    let doubled : 2 ^ suc e ≡ 2 ^ e * 2 = pow-suc 2 e in
    let less : next < 2 ^ e = omega arith in
    let same : suc e - 1 ≡ e = omega arith in
    (omega arith, subst (λ n. next < 2 ^ n) (sym same) less)

-- a step, counted or not, that halves the gap
pub left_step : (n start now then gap next : ℕ) → 0 < gap → next + next ≤ gap → now ≤ then → then ≤ now + 1 → Left n start now gap → Left n start then next
left_step n start now then gap next some half forward step left = (
  let went = left.0 in omega arith,
  λ d below.
      let so_far = left.1 d below in
      let smaller = halved (d + start - now) gap next some half so_far.1 in
      let some_left : 0 < d + start - now = smaller.0 in
      let less : next < 2 ^ (d + start - now) = omega (arith, so_far.1) in (
        omega arith,
        ⊎_elim
            (λ more. let same : d + start - now - 1 ≡ d + start - then = omega arith in subst (λ e. next < 2 ^ e) same smaller.1)
            (λ none. let same : d + start - now ≡ d + start - then = omega arith in subst (λ e. next < 2 ^ e) same less)
            (cases_lt now then),
      ),
)

-- a search of the blocks, and one of a block's keys after it
pub both : (blocks keys all before between after : ℕ) → blocks ≤ all → keys ≤ 128 → WithinSteps blocks 0 before between → WithinSteps keys 0 between after → WithinSteps all 8 before after
both blocks keys all before between after few small first second = (
  let a = first.0 in let b = second.0 in omega arith,
  λ d below.
      let a = first.1 d (omega arith) in
      let b = second.1 8 (omega arith) in
      omega arith,
)

pub one : (blocks all before after : ℕ) → blocks ≤ all → WithinSteps blocks 0 before after → WithinSteps all 8 before after
one blocks all before after few first = (first.0, λ d below. let a = first.1 d (omega arith) in omega arith)

-- a search of a group's blocks from the second on, and one of a block's keys from the second on after it
pub in_group : (blocks keys before between after : ℕ) → keys ≤ 128 → WithinSteps (blocks - 1) 0 before between → WithinSteps (keys - 1) 0 between after → WithinSteps (blocks - 1) 7 before after
in_group blocks keys before between after small first second = (
  let a = first.0 in let b = second.0 in omega arith,
  λ d below.
      let a = first.1 d below in
      let b = second.1 7 (omega arith) in
      omega arith,
)

pub in_block : (blocks before after : ℕ) → WithinSteps (blocks - 1) 0 before after → WithinSteps (blocks - 1) 7 before after
in_block blocks before after first = (first.0, λ d below. let a = first.1 d below in omega arith)

-- 64 times a number below 2 ^ d is below 2 ^ (d - 6)
sixth : (d g : ℕ) → 0 < g → 64 * g < 2 ^ d → (6 ≤ d) × (g < 2 ^ (d - 6))
sixth d g some below =
    let a = halved d (64 * g) (32 * g) (omega arith) (omega arith) below in
    let b = halved (d - 1) (32 * g) (16 * g) (omega arith) (omega arith) a.1 in
    let c = halved (d - 1 - 1) (16 * g) (8 * g) (omega arith) (omega arith) b.1 in
    let e = halved (d - 1 - 1 - 1) (8 * g) (4 * g) (omega arith) (omega arith) c.1 in
    let f = halved (d - 1 - 1 - 1 - 1) (4 * g) (2 * g) (omega arith) (omega arith) e.1 in
    let h = halved (d - 1 - 1 - 1 - 1 - 1) (2 * g) g (omega arith) (omega arith) f.1 in
    let a0 = a.0 in let b0 = b.0 in let c0 = c.0 in let e0 = e.0 in let f0 = f.0 in let h0 = h.0 in
    let same : d - 1 - 1 - 1 - 1 - 1 - 1 ≡ d - 6 = omega arith in
    (omega arith, subst (λ n. g < 2 ^ n) same h.1)

-- a search of the groups, and one in a group after it
pub by_groups : (groups blocks all before between after : ℕ) → (1 < groups → 64 * groups ≤ all) → blocks ≤ all → blocks ≤ 128 → WithinSteps groups 0 before between → WithinSteps (blocks - 1) 7 between after → WithinSteps all 8 before after
by_groups groups blocks all before between after many few small first second = (
  let a = first.0 in let b = second.0 in omega arith,
  λ d below. ⊎_elim
      (λ several.
      let full = many several in
      let six = sixth d groups (omega arith) (omega arith) in
      let least = six.0 in
      let a = first.1 (d - 6) six.1 in
      let b = second.1 7 (omega arith) in
      omega arith)
      (λ lone.
      let a = first.1 1 (omega arith) in
      let b = second.1 d (omega arith) in
      omega arith)
      (cases_lt 1 groups),
)
