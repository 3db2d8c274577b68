-- The members from the end of those left were passed, and no name of them comes twice.
use Rattle.std.proofs.Common.{length}
use Rattle.json_differing.proofs.Apart.{Passed}
use Rattle.json_differing.proofs.own.many_are_apart.Given as goal

abbrev pub invariant-loop-rest : goal.invariant-loop-rest
invariant-loop-rest l = Passed l.members l.rest l.seen

abbrev pub decreases-loop-rest : goal.decreases-loop-rest
decreases-loop-rest l = length l.rest
