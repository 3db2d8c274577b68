-- By the terms of the pages of each item.
use Rattle.drill_replay.proofs.Roomy.{roomy}
use Rattle.drill_replay.proofs.laws.drill_has_room.Goals as goal

pub returns : goal.returns
returns c = roomy
