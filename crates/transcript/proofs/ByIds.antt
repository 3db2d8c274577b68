-- The lines of the states, by the ids of the records.
use Rattle.std.proofs.Common.{◌≡◌, flat_map}
use Rattle.std.specs.FinMap as map
use Rattle.std.specs.Option.{unwrap_or}
use Rattle.entity_state.specs.Record.{blank}
use Rattle.replay_model.specs.{Records.Records, Records.record_of, Transcript.state_line, Transcript.state_section}
use Rattle.world.proofs.Entries.{over_ids}

pub states_over_ids : (records : Records) → flat_map (λ x. state_line x (record_of records x).state) (map.keys records) ≡ state_section records
states_over_ids records = over_ids (λ x r. state_line x (unwrap_or r blank).state) records
