-- Each kind says it in its own words.
use Rattle.std.proofs.Common.{Err, ap}
use Rattle.world.proofs.DueEvent.{restore_full}
use Rattle.world.proofs.held.WorldHoldings.restore.Goals as goal

pub returns-in-All-clause-full : goal.returns-in-All-clause-full
returns-in-All-clause-full c = rw c.in-All.is c.restore.ensures.full

pub returns-in-Ok-clause-within : goal.returns-in-Ok-clause-within
returns-in-Ok-clause-within c = rw c.in-Lean.is c.in-Ok.ensures.within

pub returns-in-Err-clause-full : goal.returns-in-Err-clause-full
returns-in-Err-clause-full c = rw c.in-Lean.is (λ is. c.in-Err.ensures.full (ap (λ f. Err f) (restore_full c.in-Err.fault _ (ap (λ e. Err e) c.from.ensures) is)))
