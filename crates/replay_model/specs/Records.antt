-- What is kept of each entity.
use Rattle.std.specs.Prelude.{ℕ, Bool, List, Option, is_none, unwrap_or}
use Rattle.std.specs.FinMap as map
use Rattle.entity_model.specs.declared.id.EntityId.{EntityId}
use Rattle.entity_model.specs.EntityId.{entity_cmp}
use Rattle.entity_state.specs.declared.state.Mode.{Mode}
use Rattle.entity_state.specs.declared.state.Mode.TheVariants.{Unknown, Kept, Deleted}
use Rattle.entity_state.specs.declared.record.Record.{Record}
use Rattle.entity_state.specs.Record.{blank, held_revision, is_held}

-- the bytes of a document
abbrev pub Bytes : Type 0
Bytes = List ℕ

-- the records of the entities, each with the bytes that its entity holds
abbrev pub Records : Type 0
Records = map.FinMap entity_cmp (Record Bytes)

-- the record of an entity, blank where there is none
abbrev pub record_of : Records → EntityId → Record Bytes
record_of records x = unwrap_or (map.get records x) blank

-- whether what is held is what a state of this mode and revision wants: the revision of a page that is kept, and nothing otherwise
abbrev pub settles_at : Mode → ℕ → Option ℕ → Bool
settles_at Unknown r held = is_none held
settles_at Kept r held = is_held r held
settles_at Deleted r held = is_none held

-- whether the entity holds what its state wants
abbrev pub is_settled : Record Bytes → Bool
is_settled r = settles_at r.state.mode r.state.rev (held_revision r.held)
