-- What is read of a record where an event is applied, and the reconciliation that a record remembers.
use Rattle.std.specs.Prelude.{Bool, true, false, ◌&&◌, cond, Option, None, Some}
use Rattle.std.specs.Ordering.{is_lt}
use Rattle.entity_model.specs.declared.event.Event.{Event}
use Rattle.entity_model.specs.declared.event.Kind.{Kind}
use Rattle.entity_model.specs.declared.event.Kind.TheVariants.{Edit, Delete, Undelete, ReconcileDeleted, ReconcileKept}
use Rattle.entity_model.specs.Event.{event_cmp}
use Rattle.entity_state.specs.declared.record.Record.{Record}
use Rattle.entity_state.specs.declared.standing.Standing.{Standing}
use Rattle.entity_state.specs.Record.{held_revision, wants}
use Rattle.entity_state.specs.State.{state_after}

-- whether the event says what the wiki has
abbrev pub is_reconciliation : Kind → Bool
is_reconciliation Edit = false
is_reconciliation Delete = false
is_reconciliation Undelete = false
is_reconciliation ReconcileDeleted = true
is_reconciliation ReconcileKept = true

-- the greatest reconciliation so far and an event
abbrev pub reconciled_after : Option Event → Event → Option Event
reconciled_after None e = cond (is_reconciliation e.kind) (Some e) None
reconciled_after (Some r) e = cond (is_reconciliation e.kind && is_lt (event_cmp r e)) (Some e) (Some r)

-- what is read of a record: its state, the number of the revision that it holds, and its last reconciliation
abbrev pub standing_of : {H : Type 0} → Record H → Standing
standing_of r = record { state = r.state; held = held_revision r.held; reconciled = r.reconciled }

-- the same after an event, before anything is fetched
abbrev pub standing_after : Standing → Event → Standing
standing_after s e = record { state = state_after s.state e; held = s.held; reconciled = reconciled_after s.reconciled e }

-- whether it wants a fetch
abbrev pub standing_wants : Standing → Bool
standing_wants s = wants s.state s.held
