-- The records depend on the set of accepted events alone.
use Rattle.replay_model.proofs.Confluence.{records-confluent}
use Rattle.replay_model.proofs.laws.same_events_give_same_records.Goals as goal

pub returns : goal.returns
returns c = records-confluent
