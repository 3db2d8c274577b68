-- How the values of a replay are stored, so that contracts can tell them apart.
use Rattle.std.specs.Prelude.{ℤ, ℕ, Bool, List, Option, refl}
use Rattle.std.specs.Coded.{Coded, code_by, coded×, coded_ℕ, coded_ℤ, coded_bool, coded_list, coded_option}
use Rattle.std.specs.FinMap as map
use Rattle.entity_model.specs.{declared.id.EntityId.EntityId, declared.mapping.MappingVersion.MappingVersion, declared.event.Event.Event}
use Rattle.entity_model.specs.contracts.id.EntityId as entity_id
use Rattle.entity_model.specs.contracts.mapping.MappingVersion as mapping_version
use Rattle.entity_state.specs.Tabled.{record_code}
use Rattle.entity_state.specs.declared.entry.Entry.{Entry}
use Rattle.entity_state.specs.contracts.entry.Entry as entry
use Rattle.replay_model.specs.{Records.Records, Play.Played, ReplayState.ReplayState}
use Rattle.reorder_buffer.specs.Buffered.{Buffered}
use Rattle.world.specs.{Limit.Limit, WorldState.WorldState}
use Rattle.entity_model.specs.contracts.event.Event as event

-- records and side output
abbrev pub played_code : Coded Played
played_code =
    code_by (Records × List Entry) (coded× (map.code (entity_id.the_row).coded (record_code (coded_list coded_ℕ))) (coded_list (entry.the_row).coded))
    (λ p. (p.records, p.side)) (λ c. record { records = c.0; side = c.1 }) (λ _. refl)

-- a buffer
abbrev pub buffered_code : Coded Buffered
buffered_code =
    code_by (List Event × (List Event × (Option ℤ × (Option ℕ × Bool))))
    (coded× (coded_list (event.the_row).coded) (coded× (coded_list (event.the_row).coded) (coded× (coded_option coded_ℤ) (coded× (coded_option coded_ℕ) coded_bool))))
    (λ b. (b.kept, (b.waiting, (b.mark, (b.horizon, b.closed))))) (λ c. record { kept = c.0; waiting = c.1.0; mark = c.1.1.0; horizon = c.1.1.1.0; closed = c.1.1.1.1 }) (λ _. refl)

-- the state of a replay
abbrev pub state_code : Coded ReplayState
state_code = code_by (Buffered × Played) (coded× buffered_code played_code) (λ s. (s.buffer, s.played)) (λ c. record { buffer = c.0; played = c.1 }) (λ _. refl)

-- how many terms there may be, and of which triples
abbrev pub limit_code : Coded Limit
limit_code = code_by (ℕ × Bool) (coded× coded_ℕ coded_bool) (λ l. (l.terms, l.lean)) (λ c. record { terms = c.0; lean = c.1 }) (λ _. refl)

-- that, and the versions of the mapping
abbrev pub terms_code : Coded (Limit × (MappingVersion × List EntityId))
terms_code = coded× limit_code (coded× (mapping_version.the_row).coded (coded_list (entity_id.the_row).coded))

-- all of it
abbrev pub world_code : Coded WorldState
world_code =
    code_by (ReplayState × (Limit × (MappingVersion × List EntityId))) (coded× state_code terms_code)
    (λ w. (w.replay, (w.limit, (w.mapping, w.by_two)))) (λ c. record { replay = c.0; limit = c.1.0; mapping = c.1.1.0; by_two = c.1.1.1 }) (λ _. refl)
