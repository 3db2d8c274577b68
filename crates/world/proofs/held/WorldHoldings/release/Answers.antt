-- Each kind tells its change.
use Rattle.world.proofs.held.WorldHoldings.release.Goals as goal

pub returns-in-Ok-clause-change : goal.returns-in-Ok-clause-change
returns-in-Ok-clause-change c = rw c.in-All.is c.in-Ok.ensures.change
