-- The records of all entities as a value.
use Rattle.std.specs.Prelude.{ℕ, List, Option, refl}
use Rattle.std.specs.Coded.{Coded, code_by, coded×, coded_ℕ, coded_list, coded_option}
use Rattle.std.specs.FinMap as map
use Rattle.entity_model.specs.declared.id.EntityId.{EntityId}
use Rattle.entity_model.specs.declared.event.Event.{Event}
use Rattle.entity_model.specs.contracts.id.EntityId as entity_id
use Rattle.entity_model.specs.contracts.event.Event as event
use Rattle.entity_model.specs.EntityId.{entity_cmp}
use Rattle.entity_state.specs.declared.state.State.{State}
use Rattle.entity_state.specs.declared.record.Held.{Held}
use Rattle.entity_state.specs.declared.record.Record.{Record}
use Rattle.entity_state.specs.contracts.state.State as state

-- the records by id; the ids in the order of their places; and the ids that only have room
pub record Tabled (H : Type 0) : Type 0 where
  pub records : map.FinMap entity_cmp (Record H)
  pub places : List EntityId
  pub room : List EntityId

-- records in the order of their places, as a map by id
abbrev pub records_of : {H : Type 0} → List (EntityId × Record H) → map.FinMap entity_cmp (Record H)
records_of es = map.from_entries es

module _ {H : Type 0} (content : Coded H) where
  -- how what is held is stored as a value
  abbrev pub held_code : Coded (Held H)
  held_code = code_by (ℕ × H) (coded× coded_ℕ content) (λ h. (h.revision, h.content)) (λ p. record { revision = p.0; content = p.1 }) (λ _. refl)

  -- how a record is stored as a value
  abbrev pub record_code : Coded (Record H)
  record_code =
      code_by (State × (Option (Held H) × Option Event))
      (coded× (state.the_row).coded (coded× (coded_option held_code) (coded_option (event.the_row).coded)))
      (λ r. (r.state, (r.held, r.reconciled)))
      (λ p. record { state = p.0; held = p.1.0; reconciled = p.1.1 })
      (λ _. refl)

  -- how the records of all entities are stored as a value
  abbrev pub tabled_code : Coded (Tabled H)
  tabled_code =
      code_by (map.FinMap entity_cmp (Record H) × (List EntityId × List EntityId))
      (coded× (map.code (entity_id.the_row).coded record_code) (coded× (coded_list (entity_id.the_row).coded) (coded_list (entity_id.the_row).coded)))
      (λ t. (t.records, (t.places, t.room)))
      (λ p. record { records = p.0; places = p.1.0; room = p.1.1 })
      (λ _. refl)
