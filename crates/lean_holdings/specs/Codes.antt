-- How what is held is stored as a value, so that contracts can tell it apart.
use Rattle.std.specs.Prelude.{ℕ, List, refl}
use Rattle.std.specs.Coded.{Coded, code_by, coded×, coded_ℕ, coded_list}
use Rattle.std.specs.FinMap as map
use Rattle.entity_model.specs.declared.id.EntityId.{EntityId}
use Rattle.entity_model.specs.contracts.id.EntityId as entity_id
use Rattle.entity_state.specs.Tabled.{record_code}
use Rattle.replay_model.specs.Records.{Records}
use Rattle.entity_counts.specs.Naming.{Naming, naming_code}
use Rattle.lean_holdings.specs.InStep.{LeanState}

abbrev records_code : Coded Records
records_code = map.code (entity_id.the_row).coded (record_code (coded_list coded_ℕ))

abbrev pub lean_code : Coded LeanState
lean_code =
    code_by (Records × (ℕ × (List EntityId × Naming))) (coded× records_code (coded× coded_ℕ (coded× (coded_list (entity_id.the_row).coded) naming_code)))
    (λ h. (h.records, (h.limit, (h.by_two, h.names)))) (λ c. record { records = c.0; limit = c.1.0; by_two = c.1.1.0; names = c.1.1.1 }) (λ _. refl)
