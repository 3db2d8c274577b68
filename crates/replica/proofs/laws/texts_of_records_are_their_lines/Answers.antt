-- By the lemma.
use Rattle.replica.proofs.LineFeeds.{splits_into_lines}
use Rattle.replica.proofs.laws.texts_of_records_are_their_lines.Goals as goal

pub returns : goal.returns
returns c = splits_into_lines
