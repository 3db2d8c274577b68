-- Where a search ends.
use Rattle.std.specs.Prelude.{◌≡◌, ℕ, ◌-◌, ◌<◌, ◌≤◌, List, length, slice_index_or, Result, Ok, Err}
use Rattle.std.specs.declared.cmp.Ordering.{Ordering}
use Rattle.std.specs.declared.cmp.Ordering.TheVariants.{Less, Equal, Greater}

-- `rank` says how what is looked for stands to an element
module _ {K : Type 0} (rank : K → Ordering) where
  -- it is above the element before a place, if there is one, and below the element at a place, if there is one
  abbrev pub IsAfter : List K → ℕ → Type 0
  IsAfter xs low = (d : K) → 0 < low → rank (slice_index_or xs (low - 1) d) ≡ Greater

  abbrev pub IsBefore : List K → ℕ → Type 0
  IsBefore xs high = (d : K) → high < length xs → rank (slice_index_or xs high d) ≡ Less

  -- a search from the place `low` on ends at an element that ties with it, or between two neighbours, one below it and one above it
  abbrev pub EndsAt : List K → ℕ → Result ℕ ℕ → Type 0
  EndsAt xs low (Ok i) = (i < length xs) × ((d : K) → rank (slice_index_or xs i d) ≡ Equal)
  EndsAt xs low (Err i) = (low ≤ i) × (i ≤ length xs) × IsAfter xs i × IsBefore xs i
