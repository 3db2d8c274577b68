-- The state that a list of events gives an entity.
use Rattle.std.specs.Prelude.{Bool, List, fold, filter}
use Rattle.std.specs.Ordering.{eq_by_cmp}
use Rattle.sorted_sets.specs.Rising.{sorted}
use Rattle.entity_model.specs.declared.id.EntityId.{EntityId}
use Rattle.entity_model.specs.declared.event.Event.{Event}
use Rattle.entity_model.specs.EntityId.{entity_cmp}
use Rattle.entity_model.specs.Event.{event_cmp}
use Rattle.entity_state.specs.declared.state.State.{State}
use Rattle.entity_state.specs.State.{unknown, state_after}

-- the state after the events, one after the other
abbrev pub fate : List Event → State
fate es = fold state_after unknown es

-- whether the event is one of the entity x
abbrev pub is_of : EntityId → Event → Bool
is_of x e = eq_by_cmp entity_cmp x e.entity

-- the events of the entity x
abbrev pub events_of : EntityId → List Event → List Event
events_of x es = filter (is_of x) es

-- the distinct events in the order in which they are applied
abbrev pub in_order : List Event → List Event
in_order es = sorted event_cmp es
