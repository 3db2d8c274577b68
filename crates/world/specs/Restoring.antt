-- A record that is put back as it was saved.
use Rattle.std.specs.Prelude.{◌≡◌, Bool, false, cond, not, ◌&&◌, ◌||◌, List, Option, None, Some, is_none}
use Rattle.std.specs.FinMap as map
use Rattle.std.specs.List.{list_any}
use Rattle.entity_model.specs.{declared.id.EntityId.EntityId, declared.mapping.MappingVersion.MappingVersion}
use Rattle.entity_model.specs.declared.mapping.MappingVersion.TheVariants.{One}
use Rattle.entity_state.specs.{declared.record.Held.Held, declared.record.Record.Record, State.is_kept}
use Rattle.entity_state.specs.Record.{held_revision, is_held}
use Rattle.entity_json.specs.Document.{unfit_of}
use Rattle.entity_state.specs.declared.entry.Entry.{Entry}
use Rattle.replay_model.specs.{Entries.is_of_revision, Entries.is_open_by, Entries.is_revision_of, Records.Bytes, Records.is_settled}
use Rattle.replay_model.specs.{Replies.HoldsDocument, Versions.with_version}
use Rattle.lean_holdings.specs.declared.restoring.RestoreFault.{RestoreFault as LeanFault}
use Rattle.lean_holdings.specs.declared.restoring.RestoreFault.TheVariants.{Full as LeanFull, OutOfMemory as LeanOutOfMemory, Unsound as LeanUnsound}
use Rattle.world.specs.WorldState.{WorldState}
use Rattle.world.specs.declared.restoring.RestoreFault.{RestoreFault}
use Rattle.world.specs.declared.restoring.RestoreFault.TheVariants.{Full, OutOfMemory, Unsound}

-- whether nothing is held of a page that isn't kept, and the side output tells of the revision that is wanted, unless it is held
abbrev pub is_accounted_for : List Entry → EntityId → Record Bytes → Bool
is_accounted_for side x r =
    cond (is_kept r.state.mode) (is_held r.state.rev (held_revision r.held) || list_any (is_of_revision x r.state.rev) side) (is_none r.held)

-- a world with this side output may have this record of x: x holds what its state wants exactly where no revision entry of it is open,
-- nothing of a page that isn't kept, and a document of x or nothing
pub record MayStand (side : List Entry) (x : EntityId) (r : Record Bytes) : Type 0 where
  pub settled : is_settled r ≡ not (list_any (λ entry. is_revision_of x entry && is_open_by r entry) side)
  pub empty : is_kept r.state.mode ≡ false → r.held ≡ None
  pub document : HoldsDocument unfit_of x r.held

-- the entities that hold by version Two once the record of x is put in, where what it holds is mapped by this version
abbrev pub by_two_with : MappingVersion → EntityId → Option (Held Bytes) → List EntityId → List EntityId
by_two_with version x None by_two = with_version One x by_two
by_two_with version x (Some held) by_two = with_version version x by_two

-- what a fault of lean holdings is to a world
abbrev pub restore_fault_of : LeanFault → RestoreFault
restore_fault_of LeanUnsound = Unsound
restore_fault_of LeanFull = Full
restore_fault_of LeanOutOfMemory = OutOfMemory

-- the world with the record of x, where what it holds is mapped by the version in force
abbrev pub restored : WorldState → EntityId → Record Bytes → WorldState
restored w x r = record w {
  replay = record w.replay { played = record w.replay.played { records = map.insert w.replay.played.records x r } };
  by_two = by_two_with w.mapping x r.held w.by_two;
}
