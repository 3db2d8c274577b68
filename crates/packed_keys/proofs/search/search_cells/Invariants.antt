use Rattle.std.proofs.Common.{◌-◌, ◌≤◌, length, nat_cmp}
use Rattle.comparison_steps.specs.Steps.{Left}
use Rattle.packed_keys.specs.Search.{IsAfter, IsBefore}
use Rattle.packed_keys.proofs.search.search_cells.Given as goal

abbrev pub invariant-loop-low : goal.invariant-loop-low
invariant-loop-low g l =
    (l.fn.start ≤ l.low) × (l.low ≤ l.high) × (l.high ≤ length l.cells)
    × IsAfter (λ cell. nat_cmp l.number (g.C.Cell.number cell)) l.cells l.low
    × IsBefore (λ cell. nat_cmp l.number (g.C.Cell.number cell)) l.cells l.high
    × Left (length l.cells - l.fn.start) (g.S.StepCounter.total l.initial.steps) (g.S.StepCounter.total l.steps) (l.high - l.low)

abbrev pub decreases-loop-low : goal.decreases-loop-low
decreases-loop-low g l = l.high - l.low
