-- Each step halves the gap.
use Rattle.std.proofs.Common.{◌+◌, ◌-◌, ◌/◌, length, sym, arith}
use Rattle.slot_keys.specs.Keys.{key_cmp}
use Rattle.packed_keys.specs.Rows.{keys_of}
use Rattle.packed_keys.proofs.Halving.{left_down, left_up}
use Rattle.packed_keys.proofs.Searching.{after_here, before_here}
use Rattle.packed_keys.proofs.rows.Rows.search_keys.Goals as goal

pub loop-low-preserved-in-Less : goal.loop-low-preserved-in-Less
loop-low-preserved-in-Less g c =
    let inv = c.loop-low.invariant in
    let within = inv.2 in
    let some = c.loop-low-test.true in (
      inv.0,
      omega arith,
      omega arith,
      inv.3,
      before_here (key_cmp c.args.key.now) (keys_of c.args.self.now) (c.loop-low.low + (c.loop-low.high - c.loop-low.low) / 2) c.key-here.result c.key-here.ensures (sym c.in-Less.ensures.value),
      left_down (length (keys_of c.args.self.now) - c.args.start) (g.S.StepCounter.total c.args.steps.now) (g.S.StepCounter.total c.loop-low.steps) (g.S.StepCounter.total c.rank.new.steps) c.loop-low.low c.loop-low.high some c.rank.ensures.forward c.rank.ensures.step inv.5,
    )

pub loop-low-preserved : goal.loop-low-preserved
loop-low-preserved g c =
    let inv = c.loop-low.invariant in
    let started = inv.0 in
    let within = inv.2 in
    let some = c.loop-low-test.true in (
      omega arith,
      omega arith,
      inv.2,
      after_here (key_cmp c.args.key.now) (keys_of c.args.self.now) (c.loop-low.low + (c.loop-low.high - c.loop-low.low) / 2) c.key-here.result c.key-here.ensures (sym c.in-Greater.ensures.value),
      inv.4,
      left_up (length (keys_of c.args.self.now) - c.args.start) (g.S.StepCounter.total c.args.steps.now) (g.S.StepCounter.total c.loop-low.steps) (g.S.StepCounter.total c.rank.new.steps) c.loop-low.low c.loop-low.high some c.rank.ensures.forward c.rank.ensures.step inv.5,
    )
