-- Each term is that of its text.
use Rattle.triple_catalog.proofs.reading.read_row.Goals as goal

pub returns : goal.returns
returns c = λ i. record { subject = c.in_ok-subject.ensures i; predicate = c.in-Ok.ensures i; object = c.in-Ok-read_back.ensures i }
