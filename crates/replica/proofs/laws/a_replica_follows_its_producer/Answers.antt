-- By the lemma.
use Rattle.replica.proofs.Producers.{follows_its_producer}
use Rattle.replica.proofs.laws.a_replica_follows_its_producer.Goals as goal

pub returns : goal.returns
returns c = follows_its_producer
