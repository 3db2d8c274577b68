-- The lines so far were read, the world has taken them, what was printed of them has been handed on, and the snapshots behind them are kept.
use Rattle.std.proofs.Common.{◌≡◌, ◌-◌, None}
use Rattle.run_model.specs.{Moment.HaveGoneOn, Moment.moment, Moved.run_in, Moved.GoesOn}
use Rattle.run_model.proofs.Progress.{Counted}
use Rattle.session.proofs.taking.take_lines.Given as goal

abbrev pub invariant-loop-line : goal.invariant-loop-line
invariant-loop-line g l =
    Counted (run_in l.fn.replay l.task.report (g.R.Revisions.contents l.fn.ports.revisions) l.task.options.now)
    (moment g.S.Source g.R.Revisions g.K.Sink g.F.Snapshots l.fn.ports l.fn.replay.world)
    (moment g.S.Source g.R.Revisions g.K.Sink g.F.Snapshots l.ports l.replay.world) l.lines l.taken
    × HaveGoneOn g.S.Source g.R.Revisions g.K.Sink g.F.Snapshots l.fn.ports l.ports
    × GoesOn l.fn.replay l.replay
    × (l.task.options.now.every ≡ None → l.ports.snapshot ≡ l.fn.ports.snapshot)
    × (l.ports.resumed ≡ l.fn.ports.resumed)

abbrev pub decreases-loop-line : goal.decreases-loop-line
decreases-loop-line g l = l.lines.max_bytes - l.lines.given
