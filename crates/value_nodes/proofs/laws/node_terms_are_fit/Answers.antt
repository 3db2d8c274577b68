-- By the cases of values.
use Rattle.value_nodes.proofs.NodesFit.{node_triples_fit}
use Rattle.value_nodes.proofs.laws.node_terms_are_fit.Goals as goal

pub returns : goal.returns
returns c = node_triples_fit
