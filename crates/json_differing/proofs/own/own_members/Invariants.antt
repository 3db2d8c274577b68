-- What is gone and what came so far.
use Rattle.json_differing.proofs.Owning.{Owns}
use Rattle.json_differing.proofs.own.own_members.Given as goal

abbrev pub invariant-loop-at : goal.invariant-loop-at
invariant-loop-at l = Owns l.olds l.news l.gone.items l.come.items l.first l.at
