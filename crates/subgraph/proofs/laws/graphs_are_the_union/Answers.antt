-- The lemma says it.
use Rattle.subgraph.proofs.Routed.{are_the_union}
use Rattle.subgraph.proofs.laws.graphs_are_the_union.Goals as goal

pub returns : goal.returns
returns c = are_the_union
