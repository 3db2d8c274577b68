-- An entity with keys has a set.
use Rattle.std.proofs.Common.{◌∙◌}
use Rattle.subgraph.proofs.Stored.{has_set}
use Rattle.subgraph.proofs.graph.Graph.has.Goals as goal

pub returns : goal.returns
returns c = rw (← c.self.view_is) (c.contains_key.ensures ∙ has_set c.self.inside.store c.self.inside.owned.entries c.args.id)
