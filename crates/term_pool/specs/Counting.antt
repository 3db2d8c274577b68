-- Another count in a slot.
use Rattle.std.specs.Prelude.{◌≡◌, ◌≢◌, ℕ, Some}
use Rattle.slab.specs.Slab.{Slab, get, slab_len}
use Rattle.term_pool.specs.declared.slots.Entry.{Entry}

-- the slot has the same piece with this count, and the others are as they were
pub record Recounts (old new : Slab Entry) (slot count : ℕ) : Type 0 where
  pub was : Entry
  pub there : get old slot ≡ Some was
  pub is : get new slot ≡ Some (record { piece = was.piece; count = count })
  pub others : (other : ℕ) → other ≢ slot → get new other ≡ get old other
  pub as_many : slab_len new ≡ slab_len old
