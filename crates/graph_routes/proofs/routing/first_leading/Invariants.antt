-- No route so far leads there.
use Rattle.std.proofs.Common.{◌≡◌, take}
use Rattle.std.specs.List.{position_or_len}
use Rattle.graph_routes.specs.Routing.{leads}
use Rattle.graph_routes.proofs.routing.first_leading.Given as goal

abbrev pub invariant-loop-index : goal.invariant-loop-index
invariant-loop-index l = position_or_len (leads l.classes) (take l.index l.routes) ≡ l.index
