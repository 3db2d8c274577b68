-- When what is held is in step with the store of the triples that two pages may share, where each page means what a function says.
use Rattle.std.specs.Prelude.{◌≡◌, List}
use Rattle.std.specs.FinMap as map
use Rattle.rdf_term.specs.declared.triple.Triple.{Triple}
use Rattle.entity_model.specs.{declared.id.EntityId.EntityId, EntityId.entity_cmp}
use Rattle.text_region.specs.Region.{Texts, bytes_of}
use Rattle.triple_store.specs.StoreState.{AreKeysOf, IsSound, StoreState, counts_in}
use Rattle.replay_model.specs.Union.{Meaning, owners}
use Rattle.shared_triples.specs.Lean.{IsLean, count_in, stored_of, strangers, triples_of}
use Rattle.entity_counts.specs.Naming.{Naming, pages_naming}
use Rattle.holders.specs.Pieces.{IsHeld}
use Rattle.lean_holdings.specs.Kept.{KeptRecords, kept_of, keys_held, piece_at, seen}

-- the entities that are counted
abbrev pub counted_by : Naming → List EntityId
counted_by names = map.keys names

-- the other entities that a page names, as what it means
abbrev pub strangers_on : Meaning Triple → Meaning EntityId
strangers_on m y rev bytes = strangers y (m y rev bytes)

-- the store counts the pages that have each triple that does not stand in one page alone, and it is known how many pages name each entity; each
-- page has a piece, and its keys are those of its stored triples
pub record IsKept (m : Meaning Triple) (store : StoreState) (pages : Texts) (names : Naming) (kept : KeptRecords) : Type 0 where
  pub sound : IsSound store
  pub lean : IsLean m (counted_by names) (count_in (counts_in store)) (seen pages kept)
  pub named : (x : EntityId) → pages_naming names x ≡ owners entity_cmp (strangers_on m) (seen pages kept) x
  pub pieces : IsHeld (bytes_of pages) (piece_at kept)
  pub keyed : (x : EntityId) → AreKeysOf store (keys_held (kept_of kept x).held) (triples_of (stored_of (counted_by names) m) (seen pages kept) x)
