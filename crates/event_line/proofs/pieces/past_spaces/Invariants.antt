-- What stands behind the spaces of the rest stands behind those of all.
use Rattle.std.proofs.Common.{◌≡◌, length}
use Rattle.event_line.specs.Pieces.{past_spaces}
use Rattle.event_line.proofs.pieces.past_spaces.Given as goal

abbrev pub invariant-loop-rest : goal.invariant-loop-rest
invariant-loop-rest l = past_spaces l.rest ≡ past_spaces l.bytes

abbrev pub decreases-loop-rest : goal.decreases-loop-rest
decreases-loop-rest l = length l.rest
