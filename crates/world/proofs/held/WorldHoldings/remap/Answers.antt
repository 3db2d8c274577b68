-- Each kind says it in its own words.
use Rattle.std.proofs.Common.{Err, refl}
use Rattle.term_pool.specs.declared.fault.PoolFault.TheVariants.{Full}
use Rattle.world.proofs.DueEvent.{alike_err}
use Rattle.world.proofs.held.WorldHoldings.remap.Goals as goal

pub returns-in-Ok-clause-change : goal.returns-in-Ok-clause-change
returns-in-Ok-clause-change c = rw c.in-All.is c.in-Ok.ensures.change

pub returns-in-Ok-clause-within : goal.returns-in-Ok-clause-within
returns-in-Ok-clause-within c = rw c.in-All.is c.in-Ok.ensures.within

pub returns-in-Ok-remap-clause-within : goal.returns-in-Ok-remap-clause-within
returns-in-Ok-remap-clause-within c = rw c.in-Lean.is c.in-Ok-remap.ensures.within

pub returns-in-Err-remap-clause-full : goal.returns-in-Err-remap-clause-full
returns-in-Err-remap-clause-full c = rw c.in-Lean.is (λ is. c.in-Err-remap.ensures.full (alike_err c.in-Err-remap.fault Full _ (Err c.in-Err-remap.fault) refl refl is))
