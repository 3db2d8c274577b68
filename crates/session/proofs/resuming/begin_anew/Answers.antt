-- Graphs without entities follow the world at the start.
use Rattle.std.proofs.Common.{arith}
use Rattle.splitting.proofs.Fresh.{fresh_may_follow}
use Rattle.session.proofs.resuming.begin_anew.Goals as goal

pub invariant_of-result : goal.invariant_of-result
invariant_of-result c = (rw c.requires.world (fresh_may_follow c.in-Ok.graphs _ _ _ c.in-Ok.ensures.fresh), record { asks = omega arith; matches = omega arith; patches = omega arith; lines = omega arith })
