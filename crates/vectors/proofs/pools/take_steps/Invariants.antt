use Rattle.term_pool.specs.Pool.{LiesIn}
use Rattle.vectors.proofs.pools.take_steps.Given as goal

abbrev pub invariant-loop-step : goal.invariant-loop-step
invariant-loop-step l = LiesIn l.pool l.region
