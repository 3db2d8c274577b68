-- The stored triples are those of the entities together.
use Rattle.std.proofs.Common.{◌≡◌, List, IfOk, subst}
use Rattle.rdf_term.specs.{declared.triple.Triple.Triple, Pattern.rows}
use Rattle.subgraph.proofs.Stored.{stored_union}
use Rattle.subgraph.proofs.graph.Graph.matching.Goals as goal

pub returns : goal.returns
returns c = rw (← c.self.view_is)
    (subst (λ (ts : List Triple). IfOk c.matching.result (λ found. found ≡ rows ts c.args.pattern.now)) (stored_union c.self.inside.store c.self.inside.owned.entries c.self.invariant) c.matching.ensures.rows)
