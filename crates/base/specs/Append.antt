-- What a step that appends bytes leaves.
use Rattle.std.specs.Prelude.{◌≡◌, ℕ, List, ◌++◌, length, take, Result, MatchResult}
use Rattle.base.specs.declared.memory.OutOfMemory.{OutOfMemory}

-- on success the bytes stand behind the old ones; after a refusal the old ones are still in front
abbrev pub Appends : List ℕ → List ℕ → List ℕ → Result (Unit {0}) OutOfMemory → Type 0
Appends old new added result = MatchResult result (λ _. new ≡ old ++ added) (λ _. take (length old) new ≡ old)
