-- What was read is that of the pieces so far.
use Rattle.std.proofs.Common.{◌≡◌, Some, take}
use Rattle.graph_routes.specs.Reading.{item_of, read_each}
use Rattle.graph_routes.proofs.reading.read_each_item.Given as goal

abbrev pub invariant-loop-piece : goal.invariant-loop-piece
invariant-loop-piece l = read_each item_of (take l.piece-index l.pieces) ≡ Some l.classes
