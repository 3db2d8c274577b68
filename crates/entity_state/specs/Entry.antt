-- Which entries of the side output still matter.
use Rattle.std.specs.Prelude.{ℕ, Bool, false, Option, None, Some, not}
use Rattle.std.specs.Ordering.{is_lt}
use Rattle.entity_model.specs.declared.id.EntityId.{EntityId}
use Rattle.entity_model.specs.declared.event.Event.{Event}
use Rattle.entity_model.specs.Event.{event_cmp}
use Rattle.entity_state.specs.declared.state.State.{State}
use Rattle.entity_state.specs.Record.{lacks}
use Rattle.entity_state.specs.declared.entry.Entry.{Entry}
use Rattle.entity_state.specs.declared.entry.Entry.TheVariants.{Late, Revision}

-- the entity of an entry's event
abbrev pub entity_of : Entry → EntityId
entity_of (Late e) = e.entity
entity_of (Revision e r cause) = e.entity

-- whether there is such an event, and e is before it
abbrev pub is_before : Event → Option Event → Bool
is_before e None = false
is_before e (Some other) = is_lt (event_cmp e other)

-- whether an entry still matters, by its entity's state, the revision that it holds and its last applied reconciliation
abbrev pub is_open : Entry → State → Option ℕ → Option Event → Bool
is_open (Late e) s held reconciled = not (is_before e reconciled)
is_open (Revision e r cause) s held reconciled = lacks r s held
