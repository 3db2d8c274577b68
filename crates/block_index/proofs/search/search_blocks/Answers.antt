-- Each step halves the gap.
use Rattle.std.proofs.Common.{◌+◌, ◌-◌, ◌/◌, ◌<◌, [], length, sym, subst, arith}
use Rattle.std.proofs.lemmas.List.{get_or_read}
use Rattle.comparison_steps.specs.Steps.{Left}
use Rattle.block_index.proofs.Parts.{filled_at}
use Rattle.block_index.proofs.Searching.{left_down, left_up, before_block, after_block}
use Rattle.block_index.proofs.search.search_blocks.Goals as goal

pub first-requires : goal.first-requires
first-requires g c =
    let within = c.loop-low.invariant.2 in
    let some = c.loop-low-test.true in
    let l : c.loop-low.low + (c.loop-low.high - c.loop-low.low) / 2 < length c.args.blocks.now = omega arith in
    subst (λ b. 0 < length b) (sym (get_or_read c.args.blocks.now (c.loop-low.low + (c.loop-low.high - c.loop-low.low) / 2) c.index-blocks-middle.result l c.index-blocks-middle.is [])) (filled_at c.args.blocks.now (c.loop-low.low + (c.loop-low.high - c.loop-low.low) / 2) l c.requires.filled).0

pub loop-low-preserved-in-Less : goal.loop-low-preserved-in-Less
loop-low-preserved-in-Less g c =
    let inv = c.loop-low.invariant in
    let within = inv.2 in
    let some = c.loop-low-test.true in (
      inv.0,
      omega arith,
      omega arith,
      inv.3,
      before_block g.K.Ranked.cmp c.args.key.now c.args.blocks.now (c.loop-low.low + (c.loop-low.high - c.loop-low.low) / 2) c.index-blocks-middle.result c.first.result.now (omega arith) c.index-blocks-middle.is c.first.ensures (sym c.in-Less.ensures.value),
      left_down (length c.args.blocks.now - c.args.start) (g.C.StepCounter.total c.args.steps.now) (g.C.StepCounter.total c.loop-low.steps) (g.C.StepCounter.total c.rank.new.steps) c.loop-low.low c.loop-low.high some c.rank.ensures.forward c.rank.ensures.step inv.5,
    )

pub loop-low-preserved : goal.loop-low-preserved
loop-low-preserved g c =
    let inv = c.loop-low.invariant in
    let started = inv.0 in
    let within = inv.2 in
    let some = c.loop-low-test.true in (
      omega arith,
      omega arith,
      inv.2,
      after_block g.K.Ranked.cmp c.args.key.now c.args.blocks.now (c.loop-low.low + (c.loop-low.high - c.loop-low.low) / 2) c.index-blocks-middle.result c.first.result.now (omega arith) c.index-blocks-middle.is c.first.ensures (sym c.in-Greater.ensures.value),
      inv.4,
      left_up (length c.args.blocks.now - c.args.start) (g.C.StepCounter.total c.args.steps.now) (g.C.StepCounter.total c.loop-low.steps) (g.C.StepCounter.total c.rank.new.steps) c.loop-low.low c.loop-low.high some c.rank.ensures.forward c.rank.ensures.step inv.5,
    )
