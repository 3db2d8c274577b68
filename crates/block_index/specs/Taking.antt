-- The keys up to an end.
use Rattle.std.specs.Prelude.{◌≡◌, ℕ, ◌+◌, ◌≤◌, Bool, cond, List, [], ◌∷◌, ◌++◌, length, Result, Ok, Err}
use Rattle.std.specs.declared.cmp.Ordering.{Ordering}
use Rattle.std.specs.Ordering.{is_le}
use Rattle.base.specs.declared.memory.OutOfMemory.{OutOfMemory}

module _ {K : Type 0} (R : K → K → Ordering) (to : K) where
  -- the keys before the first above `to`
  abbrev pub up_to : List K → List K
  up_to [] = []
  up_to (x ∷ xs) = cond (is_le (R x to)) (x ∷ up_to xs) []

  -- whatever comes after the keys: they were taken up to `to`, and `more` says whether what comes after is still to be taken
  abbrev pub Takes : List K → List K → List K → Bool → Type 0
  Takes keys before after more = (rest : List K) → before ++ up_to (keys ++ rest) ≡ after ++ cond more (up_to rest) []

  -- the keys were taken for one step each, and one for the first above `to`, if it came; or memory was refused before it came
  abbrev pub Took : (keys before after : List K) (old new : ℕ) → Result Bool OutOfMemory → Type 0
  Took keys before after old new (Ok more) = Takes keys before after more × (new + length before ≤ old + length after + cond more 0 1) × (old ≤ new)
  Took keys before after old new (Err refused) = (new ≤ old + length (up_to keys)) × (old ≤ new)
