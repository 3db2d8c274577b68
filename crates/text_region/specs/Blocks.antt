-- The blocks of one class.
use Rattle.std.specs.Prelude.{◌≡◌, ◌≢◌, ℕ, ◌+◌, ◌==◌, if◌then◌else◌, List, [], ◌∷◌, length, take, drop, Option, Some, None, is_some, count_by, slice_index_or, refl}
use Rattle.std.specs.Coded.{Coded, code_by, coded×, coded_ℕ, coded_list, coded_option}

-- the blocks of one class in order: the text that lies in each, or none
abbrev pub Blocks : Type 0
Blocks = List (Option (List ℕ))

-- the text in a block
abbrev pub block_at : Blocks → ℕ → Option (List ℕ)
block_at blocks number = slice_index_or blocks number None

-- how many bytes each block has, and the blocks
pub record Shelf : Type 0 where
  pub size : ℕ
  pub blocks : Blocks

-- a shelf is stored as the pair of its fields
abbrev pub shelf_code : Coded Shelf
shelf_code =
    code_by
    (ℕ × Blocks)
    (coded× coded_ℕ (coded_list (coded_option (coded_list coded_ℕ))))
    (λ s. (s.size, s.blocks))
    (λ p. record { size = p.0; blocks = p.1 })
    (λ _. refl)

-- the blocks that lie one after the other in the data, each with the length of its text
abbrev pub blocks_in : ℕ → List ℕ → List (Option ℕ) → Blocks
blocks_in size bytes [] = []
blocks_in size bytes (None ∷ lengths) = None ∷ blocks_in size (drop size bytes) lengths
blocks_in size bytes (Some len ∷ lengths) = Some (take len bytes) ∷ blocks_in size (drop size bytes) lengths

-- a block in no use, or a new one where all were in use, has this text now, and the others are as they were
pub record HasPut (old new : Blocks) (number : ℕ) (text : List ℕ) : Type 0 where
  pub vacant : block_at old number ≡ None
  pub there : block_at new number ≡ Some text
  pub others : (other : ℕ) → other ≢ number → block_at new other ≡ block_at old other
  pub one_more : count_by is_some new ≡ count_by is_some old + 1
  pub one_made : length new ≡ length old + (if count_by is_some old == length old then 1 else 0)

-- a block in use has no text now, and the others are as they were
pub record HasFreed (old new : Blocks) (number : ℕ) : Type 0 where
  pub gone : block_at new number ≡ None
  pub others : (other : ℕ) → other ≢ number → block_at new other ≡ block_at old other
  pub one_less : count_by is_some new + 1 ≡ count_by is_some old
  pub as_many : length new ≡ length old
