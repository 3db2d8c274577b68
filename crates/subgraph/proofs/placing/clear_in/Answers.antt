-- The graph that had the entity has it no longer.
use Rattle.subgraph.proofs.Placed.{placed_out}
use Rattle.subgraph.proofs.placing.clear_in.Goals as goal

pub returns-in-Some : goal.returns-in-Some
returns-in-Some c =
    let found = rw c.deref.ensures.value at c.in-Some.ensures.found in
    placed_out c.args.graphs.now.items c.clear_at.new.graphs.items c.in-Some.graph c.args.id c.clear_at.ensures c.requires found.1
