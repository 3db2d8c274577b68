-- What is true of the fields of a shelf.
use Rattle.std.specs.Prelude.{◌≡◌, ℕ, ◌*◌, ◌+◌, ◌<◌, ◌≤◌, ◌^◌, List, length, Option, Some, None, is_some, count_by, slice_index_or}

-- each block lies whole in the data, a text is no longer than its block, and the blocks in no use are just the spare
-- ones, each named once; there is room to name every block as spare
pub record IsShelf (size : ℕ) (bytes : List ℕ) (lengths : List (Option ℕ)) (spare : List ℕ) (capacity : ℕ) : Type 0 where
  pub small : size ≤ 33554432
  pub whole : length bytes ≡ length lengths * size
  pub fits : (number len : ℕ) → slice_index_or lengths number None ≡ Some len → len ≤ size
  pub free : (index : ℕ) → index < length spare → (d : ℕ) → (slice_index_or spare index d < length lengths) × (slice_index_or lengths (slice_index_or spare index d) None ≡ None)
  pub once : (index other : ℕ) → index < length spare → other < length spare → (d : ℕ) → slice_index_or spare index d ≡ slice_index_or spare other d → index ≡ other
  pub counted : count_by is_some lengths + length spare ≡ length lengths
  pub few : length lengths ≤ 2 ^ 32
  pub room : length lengths ≤ capacity
