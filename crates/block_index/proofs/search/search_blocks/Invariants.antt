use Rattle.std.proofs.Common.{◌-◌, ◌≤◌, length}
use Rattle.block_index.specs.Search.{IsAfterBlock, IsBeforeBlock}
use Rattle.comparison_steps.specs.Steps.{Left}
use Rattle.block_index.proofs.search.search_blocks.Given as goal

abbrev pub invariant-loop-low : goal.invariant-loop-low
invariant-loop-low g l =
    (l.fn.start ≤ l.low) × (l.low ≤ l.high) × (l.high ≤ length l.blocks)
    × IsAfterBlock g.K.Ranked.cmp l.key l.blocks l.low
    × IsBeforeBlock g.K.Ranked.cmp l.key l.blocks l.high
    × Left (length l.blocks - l.fn.start) (g.C.StepCounter.total l.initial.steps) (g.C.StepCounter.total l.steps) (l.high - l.low)

abbrev pub decreases-loop-low : goal.decreases-loop-low
decreases-loop-low g l = l.high - l.low
