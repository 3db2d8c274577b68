-- What a step changes of the triples that all held pages mean, and how much room it needs.
use Rattle.std.specs.Prelude.{ℕ, List, ◌++◌, Option, None, Some}
use Rattle.sorted_sets.specs.Rising.{difference}
use Rattle.rdf_term.specs.{declared.triple.Triple.Triple, Order.triple_cmp}
use Rattle.entity_model.specs.{declared.id.EntityId.EntityId, declared.mapping.MappingVersion.MappingVersion}
use Rattle.entity_model.specs.declared.mapping.MappingVersion.TheVariants.{One}
use Rattle.entity_state.specs.declared.record.Held.{Held}
use Rattle.entity_model.specs.EntityId.{entity_cmp}
use Rattle.replay_model.specs.{Records.Bytes, Records.Records, Union.Meaning, Union.triples_held, Union.union, Versions.meaning_by}
use Rattle.replay_model.specs.{Versions.with_version}
use Rattle.fetched_pages.specs.Meaning.{meaning}
use Rattle.shared_triples.specs.Lean.{stored_of, strangers}
use Rattle.parts_exchange.specs.{declared.exchanging.PartsChange.PartsChange, Exchanged.AreMerged, Merging.AreOrderedLines}
use Rattle.holders.specs.Roomed.{room_with}
use Rattle.lean_holdings.specs.{Holding.counted_by, Holding.strangers_on, InStep.LeanState}

-- the triples of all that is held, each page mapped by its version
abbrev pub held_triples : LeanState → List Triple
held_triples h = union triple_cmp (meaning_by meaning h.by_two) h.records

-- the entities that the pages of others name
abbrev pub named_by : Meaning Triple → Records → List EntityId
named_by m records = union entity_cmp (strangers_on m) records

-- what is stored of each page where these records are held: what two pages may share
abbrev pub shared_by : Meaning Triple → Records → Meaning Triple
shared_by m records = stored_of (named_by m records) m

-- the lines of the triples that pages mean after a step and meant not before it, in two texts to be merged, and of those that they meant before
-- it and mean not after it; the lines of each text are in order
pub record IsChangeOf (before after : List Triple) (change : PartsChange) : Type 0 where
  pub came : AreMerged change.own.came change.stored.came (difference triple_cmp after before)
  pub gone : AreMerged change.own.gone change.stored.gone (difference triple_cmp before after)
  pub came_own : AreOrderedLines came.some
  pub came_stored : AreOrderedLines came.others
  pub gone_own : AreOrderedLines gone.some
  pub gone_stored : AreOrderedLines gone.others

-- the entities that are counted once a page of x means these triples: those that were, and those that it names
abbrev pub counted_with : List EntityId → EntityId → List Triple → List EntityId
counted_with counted x triples = strangers x triples ++ counted

-- how many distinct terms the stored triples have, where these entities are counted, with those that are to be stored of what x is to hold,
-- which means this by another function, once all that it names are counted too
abbrev pub needs_where : List EntityId → Meaning Triple → Meaning Triple → Records → EntityId → Option (Held Bytes) → ℕ
needs_where counted m n records x held =
    room_with (stored_of (counted_with counted x (triples_held n x held)) m) records
    (triples_held (stored_of (counted_with counted x (triples_held n x held)) n) x held)

-- the same where those are counted that the pages of others name
abbrev pub needs_of : Meaning Triple → Meaning Triple → Records → EntityId → Option (Held Bytes) → ℕ
needs_of m n records x held = needs_where (named_by m records) m n records x held

-- and where those are counted that are counted in this state
abbrev pub needs : LeanState → MappingVersion → EntityId → Option (Held Bytes) → ℕ
needs h version x held = needs_where (counted_by h.names) (meaning_by meaning h.by_two) (meaning version) h.records x held

-- the entities that hold by version Two once the record of x is put in, where what it holds is mapped by this version
abbrev pub by_two_with : MappingVersion → EntityId → Option (Held Bytes) → List EntityId → List EntityId
by_two_with version x None by_two = with_version One x by_two
by_two_with version x (Some held) by_two = with_version version x by_two
