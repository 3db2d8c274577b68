-- The members from the end of those left were passed.
use Rattle.std.proofs.Common.{length}
use Rattle.entity_json.proofs.LastMembers.{Passed}
use Rattle.entity_json.proofs.map.last_flags.Given as goal

abbrev pub invariant-loop-rest : goal.invariant-loop-rest
invariant-loop-rest l = Passed l.members l.rest l.flags.items l.seen

abbrev pub decreases-loop-rest : goal.decreases-loop-rest
decreases-loop-rest l = length l.rest
