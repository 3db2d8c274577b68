use Rattle.std.proofs.Common.{◌-◌, ◌≤◌, length, map}
use Rattle.block_index.specs.Blocks.{keys_of}
use Rattle.block_index.specs.Search.{IsAfterBlock, IsBeforeBlock}
use Rattle.comparison_steps.specs.Steps.{Left}
use Rattle.block_index.proofs.search.search_groups.Given as goal

abbrev pub invariant-loop-low : goal.invariant-loop-low
invariant-loop-low g l =
    (l.low ≤ l.high) × (l.high ≤ length l.groups)
    × IsAfterBlock g.K.Ranked.cmp l.key (map keys_of l.groups) l.low
    × IsBeforeBlock g.K.Ranked.cmp l.key (map keys_of l.groups) l.high
    × Left (length l.groups) (g.C.StepCounter.total l.initial.steps) (g.C.StepCounter.total l.steps) (l.high - l.low)

abbrev pub decreases-loop-low : goal.decreases-loop-low
decreases-loop-low g l = l.high - l.low
