-- There are no entities.
use Rattle.std.proofs.Common.{sym, subst}
use Rattle.subgraph.specs.Graph.{IsInStep, sets_in}
use Rattle.subgraph.proofs.Stored.{in_step_first}
use Rattle.subgraph.proofs.graph.Graph.new.Goals as goal

pub invariant_of-result : goal.invariant_of-result
invariant_of-result c =
    subst (IsInStep c.in_ok-store.store) (sym c.with_hasher.ensures.empty) (in_step_first c.in_ok-store.store c.in_ok-store.ensures.sound c.in_ok-store.ensures.counts)

pub returns : goal.returns
returns c = λ i. record { sets = sets_in c.in_ok-store.store (c.with_hasher.ensures.empty i); limit = c.in_ok-store.ensures.limit i }
