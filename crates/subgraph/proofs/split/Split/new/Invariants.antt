-- The graphs so far have no entities.
use Rattle.std.proofs.Common.{◌≡◌, length}
use Rattle.std.specs.List.{AllByRecursion}
use Rattle.subgraph.proofs.Placed.{blank_graph}
use Rattle.subgraph.proofs.split.Split.new.Given as goal

abbrev pub invariant-loop : goal.invariant-loop
invariant-loop l = (length l.made.items ≡ l.counter) × AllByRecursion (λ g. g ≡ blank_graph l.limit) l.made.items
