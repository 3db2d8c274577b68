-- By the lemma.
use Rattle.replica.proofs.Producers.{after_is}
use Rattle.replica.proofs.laws.records_lead_to_their_producer.Goals as goal

pub returns : goal.returns
returns c = after_is
