-- A side without lines has no triples, and lists with the same triples are the same.
use Rattle.holders.proofs.Changing.{lines_tell}
use Rattle.world.proofs.laws.changes_have_lines.Goals as goal

pub returns : goal.returns
returns c = lines_tell
