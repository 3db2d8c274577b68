-- Where a search for a key ends.
use Rattle.std.specs.Prelude.{◌≡◌, ℕ, suc, ◌-◌, ◌<◌, ◌≤◌, Bool, true, false, List, [], ◌∷◌, ◌++◌, length, take, drop, slice_index_or, Result, Ok, Err}
use Rattle.std.specs.declared.cmp.Ordering.{Ordering}
use Rattle.std.specs.declared.cmp.Ordering.TheVariants.{Less, Equal, Greater}
use Rattle.sorted_sets.specs.Rising.{Above}
use Rattle.block_index.specs.Blocks.{keys_of}

module _ {K : Type 0} where
  -- the first key of the block at a place
  abbrev pub first_at : List (List K) → ℕ → K → K
  first_at bs i d = slice_index_or (slice_index_or bs i []) 0 d

  -- the keys before a position, and those from it on
  abbrev pub keys_before : List (List K) → ℕ → ℕ → List K
  keys_before bs i at = keys_of (take i bs) ++ take at (slice_index_or bs i [])

  abbrev pub keys_from : List (List K) → ℕ → ℕ → List K
  keys_from bs i at = drop at (slice_index_or bs i []) ++ keys_of (drop (suc i) bs)

module _ {K : Type 0} (R : K → K → Ordering) (k : K) where
  -- each key is below k
  abbrev pub Below : List K → Type 0
  Below [] = Unit {0}
  Below (x ∷ xs) = (R x k ≡ Less) × Below xs

  -- the list begins with a key that ties with k if it is found, and all are above k otherwise
  abbrev pub Begins : Bool → List K → Type 0
  Begins true [] = ⊥
  Begins true (x ∷ xs) = R k x ≡ Equal
  Begins false xs = Above R k xs

  -- k is above the key before a place, if there is one, and below the key at a place, if there is one
  abbrev pub IsAfter : List K → ℕ → Type 0
  IsAfter xs low = (d : K) → 0 < low → R k (slice_index_or xs (low - 1) d) ≡ Greater

  abbrev pub IsBefore : List K → ℕ → Type 0
  IsBefore xs high = (d : K) → high < length xs → R k (slice_index_or xs high d) ≡ Less

  -- a search of keys from the place `low` on ends at a key that ties with k, or between two neighbours, one below k and one above it
  abbrev pub EndsAt : List K → ℕ → Result ℕ ℕ → Type 0
  EndsAt xs low (Ok i) = (i < length xs) × ((d : K) → R k (slice_index_or xs i d) ≡ Equal)
  EndsAt xs low (Err i) = (low ≤ i) × (i ≤ length xs) × IsAfter xs i × IsBefore xs i

  -- the same of the blocks' first keys
  abbrev pub IsAfterBlock : List (List K) → ℕ → Type 0
  IsAfterBlock bs low = (d : K) → 0 < low → R k (first_at bs (low - 1) d) ≡ Greater

  abbrev pub IsBeforeBlock : List (List K) → ℕ → Type 0
  IsBeforeBlock bs high = (d : K) → high < length bs → R k (first_at bs high d) ≡ Less

  abbrev pub EndsAtBlock : List (List K) → ℕ → Result ℕ ℕ → Type 0
  EndsAtBlock bs low (Ok i) = (i < length bs) × ((d : K) → R k (first_at bs i d) ≡ Equal)
  EndsAtBlock bs low (Err i) = (low ≤ i) × (i ≤ length bs) × IsAfterBlock bs i × IsBeforeBlock bs i

  -- k's position in the blocks: before it all keys are below k, and from it on they begin with k or are above it
  pub record Stands (bs : List (List K)) (i at : ℕ) (found : Bool) : Type 0 where
    pub start : i ≤ length bs
    pub inside : 0 < length bs → i < length bs
    pub within : at ≤ length (slice_index_or bs i [])
    pub here : found ≡ true → (i < length bs) × (at < length (slice_index_or bs i []))
    pub below : Below (keys_before bs i at)
    pub begins : Begins found (keys_from bs i at)
