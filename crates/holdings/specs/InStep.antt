-- The store in step with what is kept of the entities, where each document means what a function says.
use Rattle.std.specs.Prelude.{List}
use Rattle.rdf_term.specs.declared.triple.Triple.{Triple}
use Rattle.entity_model.specs.declared.id.EntityId.{EntityId}
use Rattle.triple_store.specs.StoreState.{AreKeysOf, IsSound, StoreState, beside, counts_in}
use Rattle.replay_model.specs.{Union.Meaning, Union.triples_held, Versions.meaning_by}
use Rattle.holders.specs.{Counted.CountsOwners, Holders.AreBy, Holders.ByVersion, Pieces.IsHeld, Pieces.PieceTexts}
use Rattle.holdings.specs.Keeping.{KeptRecords, held_with, holds_in, kept_of, keys_held, piece_at, seen}
use Rattle.holdings.specs.Timed.{AreTimed}
use Rattle.fetched_pages.specs.Meaning.{meaning}

-- the triples of what an entity holds
abbrev pub triples_kept : Meaning Triple → PieceTexts → KeptRecords → EntityId → List Triple
triples_kept m text kept x = triples_held m x (held_with text (kept_of kept x).held)

-- the store counts the entities that hold each triple, has beside its terms' texts a piece for each held page and no other, and the keys
-- of each held page are those of its triples
pub record IsKept (m : Meaning Triple) (store : StoreState) (kept : KeptRecords) : Type 0 where
  pub sound : IsSound store
  pub counted : CountsOwners m (counts_in store) (seen store kept)
  pub held : IsHeld (beside store) (piece_at kept)
  pub keyed : (x : EntityId) → AreKeysOf store (keys_held (kept_of kept x).held) (triples_kept m (beside store) kept x)

-- the same where each document means what it means by the version that its entity is named by; what is known of how often its triples
-- come is so
pub record AreInStep (store : StoreState) (ids : ByVersion) (entities : KeptRecords) : Type 0 where
  pub kept : IsKept (meaning_by meaning ids.by_two) store entities
  pub by : AreBy ids (holds_in entities)
  pub timed : AreTimed store ids.by_two entities
