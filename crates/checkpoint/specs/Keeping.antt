-- The bytes of snapshots that are kept, one behind the other.
use Rattle.std.specs.Prelude.{ℕ, List, [], ◌∷◌, ◌++◌, Option, option_map, option_and_then}
use Rattle.wq_io.specs.Failing.{Counting}

-- snapshots in memory: the bytes of each that was kept, those of the one that is being written, and the calls
pub record InMemory : Type 0 where
  pub kept : List (List ℕ)
  pub written : List ℕ
  pub calls : Counting

-- no byte, where those that are kept are told
abbrev pub nothing_written : Option (List (List ℕ)) → Option (List ℕ)
nothing_written kept = option_map (λ _. []) kept

-- with one more snapshot behind the others, where they are told
abbrev pub with_snapshot : Option (List (List ℕ)) → List ℕ → Option (List (List ℕ))
with_snapshot kept bytes = option_map (λ snapshots. snapshots ++ bytes ∷ []) kept

-- with the one that was written, where its bytes are told
abbrev pub with_written : Option (List (List ℕ)) → Option (List ℕ) → Option (List (List ℕ))
with_written kept written = option_and_then (with_snapshot kept) written
