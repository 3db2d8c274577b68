use Rattle.drill_replay.proofs.Lengths.{drill_length}
use Rattle.drill_replay.proofs.laws.drill_has_this_length.Goals as goal

pub returns : goal.returns
returns c = drill_length
