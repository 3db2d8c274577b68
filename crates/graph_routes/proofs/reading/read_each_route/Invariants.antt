-- What was read is that of the pieces so far.
use Rattle.std.proofs.Common.{◌≡◌, Some, take}
use Rattle.graph_routes.specs.Reading.{route_in, read_each}
use Rattle.graph_routes.proofs.reading.read_each_route.Given as goal

abbrev pub invariant-loop-piece : goal.invariant-loop-piece
invariant-loop-piece l = read_each route_in (take l.piece-index l.pieces) ≡ Some l.routes
