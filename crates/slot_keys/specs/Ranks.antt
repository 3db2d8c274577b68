-- The ranks of terms, the indices in a list of them, in the place of their slots.
use Rattle.std.specs.Prelude.{◌≡◌, ℕ, ◌<◌, List, length, slice_index_or}
use Rattle.slot_keys.specs.declared.key.Key.{Key}
use Rattle.slot_keys.specs.declared.ranking.SlotText.{SlotText}

-- the rank that is told for a slot
abbrev pub rank_of : List ℕ → ℕ → ℕ
rank_of ranks slot = slice_index_or ranks slot 0

abbrev pub rank_key : List ℕ → Key → Key
rank_key ranks key = record { first = rank_of ranks key.first; second = rank_of ranks key.second; third = rank_of ranks key.third }

-- the term with the rank that is told for a slot has this slot
pub record IsRankOf (terms : List SlotText) (ranks : List ℕ) (slot : ℕ) : Type 0 where
  pub within : rank_of ranks slot < length terms
  pub is : (d : SlotText) → (slice_index_or terms (rank_of ranks slot) d).slot ≡ slot

pub record IsRanked (terms : List SlotText) (ranks : List ℕ) (key : Key) : Type 0 where
  pub first : IsRankOf terms ranks key.first
  pub second : IsRankOf terms ranks key.second
  pub third : IsRankOf terms ranks key.third
