-- Each step halves the gap.
use Rattle.std.proofs.Common.{◌∙◌, ◌+◌, ◌-◌, ◌/◌, length, nat_cmp, ap, sym, arith}
use Rattle.std.proofs.lemmas.List.{get_or_read}
use Rattle.packed_keys.proofs.Halving.{left_down, left_up}
use Rattle.packed_keys.proofs.Searching.{before_here, after_here}
use Rattle.packed_keys.proofs.search.search_cells.Goals as goal

pub loop-low-preserved-in-Less : goal.loop-low-preserved-in-Less
loop-low-preserved-in-Less g c =
    let inv = c.loop-low.invariant in
    let within = inv.2 in
    let some = c.loop-low-test.true in (
      inv.0,
      omega arith,
      omega arith,
      inv.3,
      before_here (λ cell. nat_cmp c.args.number (g.C.Cell.number cell)) c.args.cells.now (c.loop-low.low + (c.loop-low.high - c.loop-low.low) / 2) c.index-cells-middle.result (get_or_read c.args.cells.now (c.loop-low.low + (c.loop-low.high - c.loop-low.low) / 2) c.index-cells-middle.result (omega arith) c.index-cells-middle.is) (ap (nat_cmp c.args.number) (sym c.number-here.ensures) ∙ sym c.in-Less.ensures),
      left_down (length c.args.cells.now - c.args.start) (g.S.StepCounter.total c.args.steps.now) (g.S.StepCounter.total c.loop-low.steps) (g.S.StepCounter.total c.tick.new.self) c.loop-low.low c.loop-low.high some c.tick.ensures.forward c.tick.ensures.step inv.5,
    )

pub loop-low-preserved : goal.loop-low-preserved
loop-low-preserved g c =
    let inv = c.loop-low.invariant in
    let started = inv.0 in
    let within = inv.2 in
    let some = c.loop-low-test.true in (
      omega arith,
      omega arith,
      inv.2,
      after_here (λ cell. nat_cmp c.args.number (g.C.Cell.number cell)) c.args.cells.now (c.loop-low.low + (c.loop-low.high - c.loop-low.low) / 2) c.index-cells-middle.result (get_or_read c.args.cells.now (c.loop-low.low + (c.loop-low.high - c.loop-low.low) / 2) c.index-cells-middle.result (omega arith) c.index-cells-middle.is) (ap (nat_cmp c.args.number) (sym c.number-here.ensures) ∙ sym c.in-Greater.ensures),
      inv.4,
      left_up (length c.args.cells.now - c.args.start) (g.S.StepCounter.total c.args.steps.now) (g.S.StepCounter.total c.loop-low.steps) (g.S.StepCounter.total c.tick.new.self) c.loop-low.low c.loop-low.high some c.tick.ensures.forward c.tick.ensures.step inv.5,
    )
