-- By the lemma.
use Rattle.replica.proofs.Determined.{reads_one_way}
use Rattle.replica.proofs.laws.lines_are_read_in_one_way.Goals as goal

pub returns : goal.returns
returns c = reads_one_way
