-- Which entries of the side output are open.
use Rattle.std.specs.Prelude.{◌≡◌, ℕ, Bool, false, not, ◌&&◌, ◌==◌, List, Option, None, Some, filter_map}
use Rattle.std.specs.List.{list_any}
use Rattle.std.specs.Ordering.{is_lt}
use Rattle.entity_model.specs.declared.id.EntityId.{EntityId}
use Rattle.entity_model.specs.declared.event.Event.{Event}
use Rattle.entity_model.specs.Event.{event_cmp}
use Rattle.entity_state.specs.declared.record.Record.{Record}
use Rattle.entity_state.specs.Record.{held_revision}
use Rattle.entity_state.specs.State.{is_kept}
use Rattle.entity_state.specs.declared.entry.Entry.{Entry}
use Rattle.entity_state.specs.declared.entry.Entry.TheVariants.{Late, Revision}
use Rattle.entity_state.specs.Entry.{entity_of, is_open}
use Rattle.replay_model.specs.Fate.{is_of}
use Rattle.replay_model.specs.Records.{Bytes, Records, is_settled, record_of}
use Rattle.replay_model.specs.Play.{Played}
use Rattle.entity_state.specs.Standing.{is_reconciliation}

-- the event of a late entry
abbrev pub late_event : Entry → Option Event
late_event (Late e) = Some e
late_event (Revision e r cause) = None

-- the events of the late entries
abbrev pub late_events : List Entry → List Event
late_events side = filter_map late_event side

-- whether the event r is a reconciliation after e in the order of events
abbrev pub is_later : Event → Event → Bool
is_later e r = is_reconciliation r.kind && is_lt (event_cmp e r)

-- whether the event r is a reconciliation of the entity of e, later than e in the order of events
abbrev pub settles : Event → Event → Bool
settles e r = is_of e.entity r && is_later e r

-- whether a late event is open: none of the due events is a reconciliation of its entity, later than it in the order of events
abbrev pub is_open_late : List Event → Event → Bool
is_open_late due e = not (list_any (settles e) due)

-- whether an entry is open, by the record of its entity
abbrev pub is_open_by : Record Bytes → Entry → Bool
is_open_by r entry = is_open entry r.state (held_revision r.held) r.reconciled

-- whether an entry is open, by the record of its entity among these
abbrev pub is_open_in : Records → Entry → Bool
is_open_in records entry = is_open_by (record_of records (entity_of entry)) entry

-- whether an entry tells of a revision of the entity x
abbrev pub is_revision_of : EntityId → Entry → Bool
is_revision_of x (Late e) = false
is_revision_of x (Revision e r cause) = is_of x e

-- whether an entry tells of this revision of the entity x
abbrev pub is_of_revision : EntityId → ℕ → Entry → Bool
is_of_revision x rev (Late e) = false
is_of_revision x rev (Revision e r cause) = is_of x e && r == rev

-- whether the side output has an open revision entry of the entity x
abbrev pub has_open_revision : Records → List Entry → EntityId → Bool
has_open_revision records side x = list_any (λ entry. is_revision_of x entry && is_open_by (record_of records x) entry) side

-- each entity holds what its state wants exactly where no revision entry of it is open, and nothing of a page that isn't kept
pub record HoldsUnlessOpen (p : Played) : Type 0 where
  pub settled : (x : EntityId) → is_settled (record_of p.records x) ≡ not (has_open_revision p.records p.side x)
  pub empty : (x : EntityId) → is_kept (record_of p.records x).state.mode ≡ false → (record_of p.records x).held ≡ None
