-- What is true of the shelves of a region.
use Rattle.std.specs.Prelude.{◌≡◌, ℕ, ◌<◌, List, length, map, slice_index_or}
use Rattle.text_region.specs.Class.{size_of}
use Rattle.text_region.specs.Blocks.{Shelf}
use Rattle.text_region.specs.Region.{AreInTheirClass}

-- there is one for each of the 85 classes, with blocks of its size, and each text lies in a block of its class
pub record AreShelves (shelves : List Shelf) : Type 0 where
  pub all : length shelves ≡ 85
  pub sizes : (class : ℕ) (d : Shelf) → class < 85 → (slice_index_or shelves class d).size ≡ size_of class
  pub classes : AreInTheirClass (map (λ s. s.blocks) shelves)
