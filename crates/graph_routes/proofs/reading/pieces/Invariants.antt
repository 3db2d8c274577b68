-- What was found are the first pieces, and those of the rest come after them.
use Rattle.std.proofs.Common.{◌≡◌, ◌++◌, length}
use Rattle.std.specs.Str.{IsUtf8}
use Rattle.graph_routes.specs.Reading.{pieces}
use Rattle.graph_routes.proofs.reading.pieces.Given as goal

abbrev pub invariant-loop-piece : goal.invariant-loop-piece
invariant-loop-piece l = (l.found ++ pieces l.separator l.rest ≡ pieces l.separator l.text) × IsUtf8 l.rest

abbrev pub decreases-loop-piece : goal.decreases-loop-piece
decreases-loop-piece l = length l.rest
