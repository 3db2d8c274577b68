-- What changes of a store cost, in steps.
use Rattle.std.specs.Prelude.{ℕ, ◌+◌, ◌*◌, ◌^◌, ◌<◌, ◌≤◌}

-- n triples were stored before and m after; at most so many came and went; the count of steps was `before` and is `after`. A triple that
-- comes takes at most 5 (d + 8) steps, one that goes 3 (d + 8), where d is the number of binary digits of n + comes: each d with n + comes
-- < 2 ^ d bounds them.
pub record Costs (n m comes goes before after : ℕ) : Type 0 where
  pub forward : before ≤ after
  pub grown : m ≤ n + comes
  pub within : (d : ℕ) → n + comes < 2 ^ d → after ≤ before + (5 * comes + 3 * goes) * (d + 8)
