-- By the lemma.
use Rattle.replica.proofs.ReadLines.{reads_their_lines}
use Rattle.replica.proofs.laws.lines_are_read_as_their_records.Goals as goal

pub returns : goal.returns
returns c = reads_their_lines
