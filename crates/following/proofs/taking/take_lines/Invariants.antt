-- The lines so far were read, and the replica took their records.
use Rattle.std.proofs.Common.{◌≡◌, ◌-◌}
use Rattle.following.specs.Input.{input}
use Rattle.following.proofs.Taken.{Progress}
use Rattle.following.proofs.taking.take_lines.Given as goal

abbrev pub invariant-loop-number : goal.invariant-loop-number
invariant-loop-number g l =
    Progress l.max_bytes (input g.S.Source l.fn.events) (input g.S.Source l.events) l.lines l.reader l.replica l.given
    × (l.replica.limit ≡ l.fn.replica.limit)
    × (g.S.Source.most_faults l.events ≡ g.S.Source.most_faults l.fn.events)

abbrev pub decreases-loop-number : goal.decreases-loop-number
decreases-loop-number g l = l.lines.max_bytes - l.lines.given
