-- The entity was in this graph, or in another, which has it no longer.
use Rattle.std.proofs.Common.{◌≡◌, true, is_some, subst}
use Rattle.sorted_sets.specs.Rising.{sorted}
use Rattle.rdf_term.specs.Order.{triple_cmp}
use Rattle.subgraph.specs.Placing.{set_at}
use Rattle.subgraph.proofs.Placed.{placed_again, placed_moved}
use Rattle.subgraph.proofs.placing.set_in.Goals as goal

pub returns-then-before-graph-clause-ok : goal.returns-then-before-graph-clause-ok
returns-then-before-graph-clause-ok c =
    let found = rw c.deref.ensures.value at c.in-Some.ensures.found in
    placed_again c.args.graphs.now.items c.set_at.new.graphs.items c.args.graph c.args.id (sorted triple_cmp c.args.new.now) c.in-Ok.ensures.ok c.requires.apart
    (subst (λ i. is_some (set_at c.args.graphs.now.items i c.args.id) ≡ true) c.if-before-graph.true found.1)

pub returns-clause-ok : goal.returns-clause-ok
returns-clause-ok c =
    let found = rw c.deref.ensures.value at c.in-Some.ensures.found in
    placed_moved c.args.graphs.now.items c.set_at.new.graphs.items c.clear_at.new.graphs.items c.args.graph c.in-Some.before c.args.id (sorted triple_cmp c.args.new.now) c.in-Ok.ensures.ok c.clear_at.ensures
    c.requires.apart found.1 c.if-before-graph.false
