-- The texts are alike so far.
use Rattle.std.proofs.Common.{◌-◌, ◌≤◌}
use Rattle.std.specs.Slice.Scan.{HoldsNowhere, differ}
use Rattle.triple_catalog.proofs.comparing.first_difference.Given as goal

abbrev pub invariant-loop-from : goal.invariant-loop-from
invariant-loop-from l = (l.from ≤ l.both) × HoldsNowhere (differ l.a l.b) 0 l.from

abbrev pub decreases-loop-from : goal.decreases-loop-from
decreases-loop-from l = l.both - l.from
