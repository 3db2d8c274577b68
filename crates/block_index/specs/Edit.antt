-- What a change at one block leaves.
use Rattle.std.specs.Prelude.{◌≡◌, ℕ, suc, ◌≤◌, List, ◌++◌, length, take, drop}
use Rattle.block_index.specs.Blocks.{keys_of, AreFilled}

-- in the place of block i stand at most two others, which have the given keys
pub record Edits {K : Type 0} (old new : List (List K)) (i : ℕ) (keys : List K) : Type 0 where
  pub mid : List (List K)
  pub few : length mid ≤ 2
  pub new_is : new ≡ take i old ++ (mid ++ drop (suc i) old)
  pub keys_are : keys_of mid ≡ keys
  pub filled : AreFilled mid
