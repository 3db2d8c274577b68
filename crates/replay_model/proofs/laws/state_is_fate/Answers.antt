-- The state of an entity is the fold of its due events.
use Rattle.replay_model.proofs.RecordOf.{state-played}
use Rattle.replay_model.proofs.laws.state_is_fate.Goals as goal

pub returns : goal.returns
returns c = state-played
