-- The costs of calls, in steps.
use Rattle.std.specs.Prelude.{ℕ, ◌+◌, ◌-◌, ◌^◌, ◌<◌, ◌≤◌}

-- from `before` to `after` at most as many steps pass as n has binary digits, and some more: each d with n < 2 ^ d bounds the digits
abbrev pub WithinSteps : ℕ → ℕ → ℕ → ℕ → Type 0
WithinSteps n more before after = (before ≤ after) × ((d : ℕ) → n < 2 ^ d → after ≤ before + d + more)

-- what is left of a binary search over n places that began at `start`: after the steps so far the gap is below 2 to the number of steps
-- that are left
abbrev pub Left : ℕ → ℕ → ℕ → ℕ → Type 0
Left n start now gap = (start ≤ now) × ((d : ℕ) → n < 2 ^ d → (now ≤ start + d) × (gap < 2 ^ (d + start - now)))
