-- Blocks of keys, and the list of keys that they make.
use Rattle.std.specs.Prelude.{◌≡◌, ℕ, ◌<◌, ◌≤◌, ◌&&◌, List, [], ◌∷◌, ◌++◌, length, filter, slice_index_or}
use Rattle.std.specs.declared.cmp.Ordering.{Ordering}
use Rattle.std.specs.Ordering.{is_le}
use Rattle.sorted_sets.specs.Rising.{IsRising}

module _ {K : Type 0} where
  -- the blocks' keys, one block after the other
  abbrev pub keys_of : List (List K) → List K
  keys_of [] = []
  keys_of (b ∷ bs) = b ++ keys_of bs

  -- a block's keys begin with this one
  abbrev pub IsFirst : K → List K → Type 0
  IsFirst first b = (d : K) → slice_index_or b 0 d ≡ first

  -- a block has 1 to 128 keys
  abbrev pub IsFilled : List K → Type 0
  IsFilled b = (0 < length b) × (length b ≤ 128)

  -- each block has
  abbrev pub AreFilled : List (List K) → Type 0
  AreFilled [] = Unit {0}
  AreFilled (b ∷ bs) = IsFilled b × AreFilled bs

  -- all blocks stay, in their order, but for at most two neighbouring ones, in whose place at most two stand
  pub record ChangesTwo (old new : List (List K)) : Type 0 where
    pub before : List (List K)
    pub was : List (List K)
    pub is : List (List K)
    pub after : List (List K)
    pub few_were : length was ≤ 2
    pub few_are : length is ≤ 2
    pub old_is : old ≡ before ++ (was ++ after)
    pub new_is : new ≡ before ++ (is ++ after)

module _ {K : Type 0} (R : K → K → Ordering) where
  -- the keys from one to another, both included
  abbrev pub keys_between : K → K → List K → List K
  keys_between from to keys = filter (λ key. is_le (R from key) && is_le (R key to)) keys

  -- an index: filled blocks, whose keys rise, and their number
  pub record IsIndex (blocks : List (List K)) (count : ℕ) : Type 0 where
    pub filled : AreFilled blocks
    pub rising : IsRising R (keys_of blocks)
    pub counted : count ≡ length (keys_of blocks)
