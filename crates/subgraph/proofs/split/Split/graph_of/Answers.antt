-- The graph that has it is that of its entry.
use Rattle.std.proofs.Common.{◌<◌, ◌≡◌, ℕ, List, Option, None, Some, IfSome, true, is_some, length}
use Rattle.entity_model.specs.declared.id.EntityId.{EntityId}
use Rattle.subgraph.specs.{Entries.GraphState, Placing.set_at}
use Rattle.subgraph.proofs.Placed.{graph_told}
use Rattle.subgraph.proofs.split.Split.graph_of.Goals as goal

within : (graphs : List GraphState) (x : EntityId) (found : Option ℕ) → IfSome found (λ i. (i < length graphs) × (is_some (set_at graphs i x) ≡ true)) → IfSome found (λ i. i < length graphs)
within graphs x None is = tt
within graphs x (Some i) is = is.0

pub returns-clause-graph : goal.returns-clause-graph
returns-clause-graph c =
    let found = rw c.deref.ensures.value at c.graph_with.ensures.found in
    let nowhere = rw c.deref.ensures.value at c.graph_with.ensures.nowhere in
    rw (← c.self.view_is) (graph_told c.self.inside.graphs.items c.args.id c.graph_with.result c.self.invariant.0 found nowhere)

pub returns-clause-bound : goal.returns-clause-bound
returns-clause-bound c =
    let found = rw c.deref.ensures.value at c.graph_with.ensures.found in
    rw (← c.self.view_is) (within c.self.inside.graphs.items c.args.id c.graph_with.result found)
