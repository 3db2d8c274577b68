-- A drill brings no version of the mapping.
use Rattle.drill_replay.proofs.Versions.{drill_by_first, part_by_first}
use Rattle.drill_replay.proofs.laws.drill_is_by_the_first_version.Goals as goal

pub returns-clause-whole : goal.returns-clause-whole
returns-clause-whole c size = drill_by_first size

pub returns-clause-part : goal.returns-clause-part
returns-clause-part c size before after is = part_by_first size before after is
