use Rattle.std.proofs.Common.{◌-◌, ◌≤◌, length}
use Rattle.comparison_steps.specs.Steps.{Left}
use Rattle.slot_keys.specs.Keys.{key_cmp}
use Rattle.packed_keys.specs.{Rows.keys_of, Search.IsAfter, Search.IsBefore}
use Rattle.packed_keys.proofs.rows.Rows.search_keys.Given as goal

abbrev pub invariant-loop-low : goal.invariant-loop-low
invariant-loop-low g l =
    (l.fn.start ≤ l.low) × (l.low ≤ l.high) × (l.high ≤ length (keys_of l.self))
    × IsAfter (key_cmp l.key) (keys_of l.self) l.low
    × IsBefore (key_cmp l.key) (keys_of l.self) l.high
    × Left (length (keys_of l.self) - l.fn.start) (g.S.StepCounter.total l.initial.steps) (g.S.StepCounter.total l.steps) (l.high - l.low)

abbrev pub decreases-loop-low : goal.decreases-loop-low
decreases-loop-low g l = l.high - l.low
