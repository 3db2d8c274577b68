-- A binary search over n places takes no more steps than n has binary digits.
use Rattle.std.proofs.Common.{◌≡◌, ℕ, zero, suc, ◌+◌, ◌-◌, ◌*◌, ◌/◌, ◌^◌, ◌<◌, ◌≤◌, sym, subst, arith, ⊎_elim}
use Rattle.std.proofs.lemmas.Bool.{cases_lt}
use Rattle.std.proofs.Math.Nat.{pow-suc}
use Rattle.comparison_steps.specs.Steps.{Left}

-- half of a gap below 2 ^ e is below 2 ^ (e - 1)
halved : (e gap next : ℕ) → 0 < gap → next + next ≤ gap → gap < 2 ^ e → (0 < e) × (next < 2 ^ (e - 1))
halved zero gap next some half below = let one : gap < 1 = below in absurd (omega arith)
halved (suc e) gap next some half below =
    let doubled : 2 ^ suc e ≡ 2 ^ e * 2 = pow-suc 2 e in
    let less : next < 2 ^ e = omega arith in
    let same : suc e - 1 ≡ e = omega arith in
    (omega arith, subst (λ n. next < 2 ^ n) (sym same) less)

-- a step, counted or not, that halves the gap
left_step : (n start now then gap next : ℕ) → 0 < gap → next + next ≤ gap → now ≤ then → then ≤ now + 1 → Left n start now gap → Left n start then next
left_step n start now then gap next some half forward step left = (
  let went = left.0 in omega arith,
  λ d below.
      let so_far = left.1 d below in
      let smaller = halved (d + start - now) gap next some half so_far.1 in
      let some_left : 0 < d + start - now = smaller.0 in
      let less : next < 2 ^ (d + start - now) = omega (arith, so_far.1) in (
        omega arith,
        ⊎_elim
            (λ more. let same : d + start - now - 1 ≡ d + start - then = omega arith in subst (λ e. next < 2 ^ e) same smaller.1)
            (λ none. let same : d + start - now ≡ d + start - then = omega arith in subst (λ e. next < 2 ^ e) same less)
            (cases_lt now then),
      ),
)

-- the gap of a search after a step down or up from its middle
pub left_down : (n start now then low high : ℕ) → low < high → now ≤ then → then ≤ now + 1 → Left n start now (high - low) → Left n start then (low + (high - low) / 2 - low)
left_down n start now then low high some forward step left = left_step n start now then (high - low) _ (omega arith) (omega arith) forward step left

pub left_up : (n start now then low high : ℕ) → low < high → now ≤ then → then ≤ now + 1 → Left n start now (high - low) → Left n start then (high - (low + (high - low) / 2 + 1))
left_up n start now then low high some forward step left = left_step n start now then (high - low) _ (omega arith) (omega arith) forward step left
