-- The lines so far were read and went into the world.
use Rattle.std.proofs.Common.{◌≡◌, ◌-◌, ◌≤◌}
use Rattle.world_snapshots.proofs.UnderWay.{UnderWay}
use Rattle.world_snapshots.proofs.loading.load_lines.Given as goal

abbrev pub invariant-loop-number : goal.invariant-loop-number
invariant-loop-number g l =
    UnderWay l.fn.loader.world.limit (g.S.Source.left l.fn.file) l.lines (g.S.Source.left l.file) l.loader.world l.loader.stage l.given l.length
    × (g.S.Source.faults l.fn.file ≤ g.S.Source.faults l.file)
    × (g.S.Source.most_faults l.file ≡ g.S.Source.most_faults l.fn.file)

abbrev pub decreases-loop-number : goal.decreases-loop-number
decreases-loop-number g l = l.lines.max_bytes - l.lines.given
