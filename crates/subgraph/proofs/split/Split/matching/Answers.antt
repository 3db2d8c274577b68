-- The triples of a graph are those of its entities together.
use Rattle.std.proofs.Common.{◌≡◌, Some, List, IfOk, length, slice_get, refl, sym, subst}
use Rattle.std.proofs.lemmas.Option.{slice_get_read}
use Rattle.rdf_term.specs.{declared.triple.Triple.Triple, Pattern.rows}
use Rattle.subgraph.proofs.Placed.{graph_is}
use Rattle.subgraph.proofs.split.Split.matching.Goals as goal

pub returns : goal.returns
returns c =
    let low = rw (← c.self.view_is) at c.requires in
    let at : slice_get c.self.inside.graphs.items c.args.graph ≡ Some c.index.result.now = slice_get_read c.self.inside.graphs.items (length c.self.inside.graphs.items) c.args.graph c.index.result.now refl low c.index.ensures in
    rw (← c.self.view_is) (subst (λ (ts : List Triple). IfOk c.matching.result (λ found. found ≡ rows ts c.args.pattern.now)) (sym (graph_is c.self.inside.graphs.items c.args.graph c.index.result.now c.self.invariant.0 at)) c.matching.ensures)
