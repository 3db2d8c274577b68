-- The items are those that are matched.
use Rattle.std.proofs.Common.{refl}
use Rattle.arguments.proofs.items.Request.matched.Goals as goal

pub returns : goal.returns
returns c = λ are. (refl, c.in_ok-matches.ensures.items are)
