-- Each kind says it in its own words.
use Rattle.std.proofs.Common.{Err, refl}
use Rattle.term_pool.specs.declared.fault.PoolFault.TheVariants.{Full}
use Rattle.lean_holdings.proofs.Short.{document_short}
use Rattle.world.proofs.DueEvent.{alike_err}
use Rattle.world.proofs.held.WorldHoldings.hold.Goals as goal

pub hold-requires-in-Lean : goal.hold-requires-in-Lean
hold-requires-in-Lean c = record { fetched = rw c.in-Lean.is at c.requires.fetched; short = document_short _ _ c.requires.document }

pub returns-in-Ok-clause-change : goal.returns-in-Ok-clause-change
returns-in-Ok-clause-change c = rw c.in-All.is c.in-Ok.ensures.change

pub returns-in-Ok-clause-within : goal.returns-in-Ok-clause-within
returns-in-Ok-clause-within c = rw c.in-All.is c.in-Ok.ensures.within

pub returns-in-Ok-hold-clause-within : goal.returns-in-Ok-hold-clause-within
returns-in-Ok-hold-clause-within c = rw c.in-Lean.is c.in-Ok-hold.ensures.within

pub returns-in-Err-hold-clause-full : goal.returns-in-Err-hold-clause-full
returns-in-Err-hold-clause-full c = rw c.in-Lean.is (λ is. c.in-Err-hold.ensures.full (alike_err c.in-Err-hold.fault Full _ (Err c.in-Err-hold.fault) refl refl is))
