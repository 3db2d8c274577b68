-- What each call makes of the records of all entities.
use Rattle.std.specs.Prelude.{Bool, cond, ◌||◌, [], ◌∷◌, ◌++◌, Option, None, Some}
use Rattle.std.specs.Ordering.{eq_by_cmp}
use Rattle.std.specs.FinMap as map
use Rattle.std.specs.List.{list_any}
use Rattle.std.specs.BTreeSet.{insert_key}
use Rattle.std.specs.Set.{remove_key}
use Rattle.entity_model.specs.declared.id.EntityId.{EntityId}
use Rattle.entity_model.specs.declared.event.Event.{Event}
use Rattle.entity_model.specs.EntityId.{entity_cmp}
use Rattle.entity_state.specs.declared.record.Record.{Record}
use Rattle.entity_state.specs.declared.state.State.{State}
use Rattle.entity_state.specs.Record.{with_state}
use Rattle.entity_state.specs.Tabled.{Tabled}

module _ {H : Type 0} where
  -- the table without records
  abbrev pub no_records : Tabled H
  no_records = record { records = map.empty; places = []; room = [] }

  -- whether an id is there
  abbrev pub is_there : Tabled H → EntityId → Bool
  is_there t id = map.contains_key t.records id

  -- whether an id is there or has room
  abbrev pub has_room : Tabled H → EntityId → Bool
  has_room t id = is_there t id || list_any (eq_by_cmp entity_cmp id) t.room

  -- with room for an id
  abbrev pub with_room : Tabled H → EntityId → Tabled H
  with_room t id = record t { room = cond (is_there t id) t.room (insert_key entity_cmp t.room id) }

  -- with a record for an id: a new id stands after the others
  abbrev pub after_putting : Tabled H → EntityId → Record H → Tabled H
  after_putting t id r = record {
    records = map.insert t.records id r;
    places = cond (is_there t id) t.places (t.places ++ id ∷ []);
    room = cond (is_there t id) t.room (remove_key (eq_by_cmp entity_cmp id) t.room);
  }

  -- the records with another state and another last reconciliation in one of them
  abbrev pub records_setting : map.FinMap entity_cmp (Record H) → Option (Record H) → EntityId → State → Option Event → map.FinMap entity_cmp (Record H)
  records_setting m None id s reconciled = m
  records_setting m (Some r) id s reconciled = map.insert m id (with_state r s reconciled)

  -- the table with another state and another last reconciliation in one record
  abbrev pub after_setting : Tabled H → EntityId → State → Option Event → Tabled H
  after_setting t id s reconciled = record t { records = records_setting t.records (map.get t.records id) id s reconciled }
