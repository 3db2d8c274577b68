-- By the lemma.
use Rattle.replica.proofs.ReadLines.{reads_records}
use Rattle.replica.proofs.laws.records_are_read_from_their_lines.Goals as goal

pub returns : goal.returns
returns c = reads_records
