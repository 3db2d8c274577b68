-- When an application, or a record that is put back, may be refused memory.
use Rattle.std.specs.Prelude.{◌≡◌, Bool, true, false, Option, Some, is_some, ◌⊎◌}
use Rattle.std.specs.FinMap as map
use Rattle.entity_model.specs.{declared.id.EntityId.EntityId, declared.event.Event.Event}
use Rattle.entity_state.specs.{declared.record.Held.Held, declared.record.Record.Record, declared.state.Mode.Mode, Standing.standing_after, Standing.standing_of, Standing.standing_wants}
use Rattle.entity_state.specs.State.{is_deleted, state_after}
use Rattle.reorder_buffer.specs.Buffered.{first_due}
use Rattle.replay_model.specs.{Play.Played, Records.Bytes, Records.Records, Records.record_of, Versions.is_holder}
use Rattle.triple_store.specs.{declared.telling.Telling.Telling, declared.telling.Telling.TheVariants.Change as TheChange}
use Rattle.world.specs.{Restoring.is_accounted_for, WorldState.WorldState}

-- the triples of a page that is dropped are told, or the world is lean, where they are found by mapping the page
pub record TellsDropped (telling : Telling) (lean : Bool) (mode : Mode) : Type 0 where
  pub told : (telling ≡ TheChange) ⊎ (lean ≡ true)
  pub dropped : is_deleted mode ≡ true

-- an application takes memory only where its event wants a fetch, or its entity has no record, or it tells what it drops, or drops it in a
-- lean world
abbrev pub TakesMemory : Telling → Bool → Records → Event → Type 0
TakesMemory telling lean records e =
    (standing_wants (standing_after (standing_of (record_of records e.entity)) e) ≡ true)
    ⊎ ((map.contains_key records e.entity ≡ false) ⊎ TellsDropped telling lean (state_after (record_of records e.entity).state e).mode)

-- the application of the least due event takes memory
pub record MayBeRefused (telling : Telling) (old : WorldState) : Type 0 where
  pub event : Event
  pub due : first_due old.replay.buffer ≡ Some event
  pub takes : TakesMemory telling old.limit.lean old.replay.played.records event

-- a record of x holds a page, or is the first of x, or comes in a lean world in the place of one that holds a page
abbrev pub HoldsOrIsFirst : Bool → Records → EntityId → Option (Held Bytes) → Type 0
HoldsOrIsFirst lean records x held = (is_some held ≡ true) ⊎ ((map.contains_key records x ≡ false) ⊎ ((lean ≡ true) × (is_holder records x ≡ true)))

-- putting back a record of x takes memory only where the side output tells of what isn't held, and the record holds a page, or is the first of x,
-- or comes in a lean world in the place of one that holds a page
pub record MayRefuseRecord (lean : Bool) (old : Played) (x : EntityId) (r : Record Bytes) : Type 0 where
  pub accounted : is_accounted_for old.side x r ≡ true
  pub takes : HoldsOrIsFirst lean old.records x r.held
