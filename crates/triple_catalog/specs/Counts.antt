-- The stored triples, with the number of entities that own each.
use Rattle.std.specs.Prelude.{◌≡◌, ℕ, ◌+◌, List}
use Rattle.std.specs.FinMap as map
use Rattle.sorted_sets.specs.Rising.{has}
use Rattle.rdf_term.specs.{declared.triple.Triple.Triple, Order.triple_cmp}
use Rattle.term_pool.specs.Pool.{one_if}
pub use Rattle.slot_index.specs.Counts.{count_of, with_count, raised, lowered, HaveOwners}

-- the count of each stored triple
abbrev pub Counts : Type 0
Counts = map.FinMap triple_cmp ℕ

-- one owner more of each triple that came and one less of each that is gone: what is in both, or in neither, has as many as before
pub record Exchanges (old new : Counts) (gone came : List Triple) : Type 0 where
  pub counts : (t : Triple) → count_of new t + one_if (has triple_cmp t gone) ≡ count_of old t + one_if (has triple_cmp t came)
