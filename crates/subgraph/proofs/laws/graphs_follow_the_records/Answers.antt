-- The lemma says it.
use Rattle.subgraph.proofs.Routed.{follow_the_records}
use Rattle.subgraph.proofs.laws.graphs_follow_the_records.Goals as goal

pub returns : goal.returns
returns c = follow_the_records
