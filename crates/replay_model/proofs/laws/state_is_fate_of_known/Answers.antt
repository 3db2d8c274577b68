-- The fate over known events is that over due events.
use Rattle.std.proofs.Common.{◌∙◌}
use Rattle.replay_model.proofs.RecordOf.{state-played}
use Rattle.replay_model.proofs.Known.{fate-known}
use Rattle.replay_model.proofs.laws.state_is_fate_of_known.Goals as goal

pub returns : goal.returns
returns c h closed replies ds x none = state-played h closed replies ds x ∙ fate-known h closed ds x none
