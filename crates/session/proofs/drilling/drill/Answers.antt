-- Nothing is held at the start; and how the drill ended.
use Rattle.std.proofs.Common.{◌∙◌, ap}
use Rattle.std.specs.FinMap.{len-empty}
use Rattle.world.specs.Limit.{Limit}
use Rattle.session.proofs.drilling.drill.Goals as goal

pub set_limit-requires : goal.set_limit-requires
set_limit-requires g c = record { records = rw c.begin_by_first.ensures.replay (len-empty _ _); all = ap (λ (l : Limit). l.lean) c.begin_by_first.ensures.limit ∙ c.requires.lean }
