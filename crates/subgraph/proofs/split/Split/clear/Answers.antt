-- The entity is in no graph.
use Rattle.std.proofs.Common.{None, refl}
use Rattle.subgraph.proofs.Placed.{entries_without, placed_apart}
use Rattle.subgraph.proofs.split.Split.clear.Goals as goal

pub invariant_of-self : goal.invariant_of-self
invariant_of-self c = placed_apart c.self.inside.graphs.items c.clear_in.new.graphs.items c.args.id None c.self.inside.limit c.self.invariant c.clear_in.ensures

pub returns : goal.returns
returns c = rw (← c.self.view_is) (λ i. record {
  entries = entries_without c.self.inside.graphs.items c.clear_in.new.graphs.items c.args.id None c.self.invariant.0 c.clear_in.ensures refl i;
  graphs = c.clear_in.ensures.long i;
  limit = c.self.inside.limit;
})
