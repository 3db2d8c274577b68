-- Each step halves the gap.
use Rattle.std.proofs.Common.{◌+◌, ◌-◌, ◌/◌, length, sym, subst, arith}
use Rattle.comparison_steps.specs.Steps.{Left}
use Rattle.block_index.proofs.Searching.{left_down, left_up, before_here, after_here}
use Rattle.block_index.proofs.search.search.Goals as goal

pub loop-low-preserved-in-Less : goal.loop-low-preserved-in-Less
loop-low-preserved-in-Less g c =
    let inv = c.loop-low.invariant in
    let within = inv.2 in
    let some = c.loop-low-test.true in (
      inv.0,
      omega arith,
      omega arith,
      inv.3,
      before_here g.K.Ranked.cmp c.args.key.now c.args.keys.now (c.loop-low.low + (c.loop-low.high - c.loop-low.low) / 2) c.index-keys-middle.result (omega arith) c.index-keys-middle.is (sym c.in-Less.ensures.value),
      left_down (length c.args.keys.now - c.args.start) (g.C.StepCounter.total c.args.steps.now) (g.C.StepCounter.total c.loop-low.steps) (g.C.StepCounter.total c.rank.new.steps) c.loop-low.low c.loop-low.high some c.rank.ensures.forward c.rank.ensures.step inv.5,
    )

pub loop-low-preserved : goal.loop-low-preserved
loop-low-preserved g c =
    let inv = c.loop-low.invariant in
    let started = inv.0 in
    let within = inv.2 in
    let some = c.loop-low-test.true in (
      omega arith,
      omega arith,
      inv.2,
      after_here g.K.Ranked.cmp c.args.key.now c.args.keys.now (c.loop-low.low + (c.loop-low.high - c.loop-low.low) / 2) c.index-keys-middle.result (omega arith) c.index-keys-middle.is (sym c.in-Greater.ensures.value),
      inv.4,
      left_up (length c.args.keys.now - c.args.start) (g.C.StepCounter.total c.args.steps.now) (g.C.StepCounter.total c.loop-low.steps) (g.C.StepCounter.total c.rank.new.steps) c.loop-low.low c.loop-low.high some c.rank.ensures.forward c.rank.ensures.step inv.5,
    )
