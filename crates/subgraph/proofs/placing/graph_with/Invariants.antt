-- No graph so far has it.
use Rattle.std.proofs.Common.{◌≡◌, ℕ, ◌<◌, false, is_some}
use Rattle.subgraph.specs.Placing.{set_at}
use Rattle.subgraph.proofs.placing.graph_with.Given as goal

abbrev pub invariant-loop-index : goal.invariant-loop-index
invariant-loop-index l = (i : ℕ) → i < l.index → is_some (set_at l.graphs i l.id) ≡ false
