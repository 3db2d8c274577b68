-- By the lemma.
use Rattle.written_laws.proofs.Bounds.{numbers_fit}
use Rattle.written_laws.proofs.streams.numbers_of_records_fit.Goals as goal

pub returns : goal.returns
returns c = numbers_fit
