-- Groups of blocks, and the list of blocks that they make: the groups' blocks one after the other are `keys_of` of the groups.
use Rattle.std.specs.Prelude.{◌≡◌, ℕ, ◌+◌, ◌<◌, ◌≤◌, ◌⊎◌, List, [], ◌∷◌, ◌++◌, length, take, slice_index_or, nat_lt, if◌then◌else◌}
use Rattle.std.specs.declared.cmp.Ordering.{Ordering}
use Rattle.block_index.specs.Blocks.{keys_of, IsIndex}

-- how many blocks each of n groups has at least: a lone one may have fewer than half of the most
abbrev pub least : ℕ → ℕ
least n = if nat_lt 1 n then 64 else 1

module _ {K : Type 0} where
  -- a group has so many blocks or more, and 128 at most
  abbrev pub IsSized : ℕ → List (List K) → Type 0
  IsSized few group = (few ≤ length group) × (length group ≤ 128)

  -- each group has
  abbrev pub AreSized : ℕ → List (List (List K)) → Type 0
  AreSized few [] = Unit {0}
  AreSized few (g ∷ gs) = IsSized few g × AreSized few gs

  -- groups of an index
  abbrev pub AreGroups : List (List (List K)) → Type 0
  AreGroups groups = AreSized (least (length groups)) groups

  -- the number of blocks before a group
  abbrev pub blocks_before : List (List (List K)) → ℕ → ℕ
  blocks_before groups g = length (keys_of (take g groups))

  -- where the block b of the group g is among all blocks
  abbrev pub index_of : List (List (List K)) → ℕ → ℕ → ℕ
  index_of groups g b = blocks_before groups g + b

  -- the group g is there, and its block b
  abbrev pub IsInside : List (List (List K)) → ℕ → ℕ → Type 0
  IsInside groups g b = (g < length groups) × (b < length (slice_index_or groups g []))

  -- two groups have the blocks of two others, and are sized, or the first has them all
  pub record AreEvened (low high new_low new_high : List (List K)) : Type 0 where
    pub same : new_low ++ new_high ≡ low ++ high
    pub sized : IsSized 64 new_low
    pub rest : (new_high ≡ []) ⊎ IsSized 64 new_high

  -- the group g has room for one more block, and its block b is the block i of all
  pub record HasRoomAt (groups : List (List (List K))) (g b i : ℕ) : Type 0 where
    pub inside : IsInside groups g b
    pub room : length (slice_index_or groups g []) < 128
    pub is : index_of groups g b ≡ i

  -- all groups but g are sized, and g has half of the most at best, and a block too few at worst
  pub record IsShortAt (groups : List (List (List K))) (g : ℕ) : Type 0 where
    pub inside : g < length groups
    pub others : (j : ℕ) → j < length groups → (j < g) ⊎ (g < j) → IsSized (least (length groups)) (slice_index_or groups j [])
    pub few : least (length groups) ≤ length (slice_index_or groups g []) + 1
    pub short : length (slice_index_or groups g []) < 64

-- an index in groups: its blocks, and their sizes
pub record IsGroupedIndex {K : Type 0} (R : K → K → Ordering) (groups : List (List (List K))) (count : ℕ) : Type 0 where
  pub index : IsIndex R (keys_of groups) count
  pub sized : AreGroups groups
