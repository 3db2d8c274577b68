-- The line so far and what is unread are what was unread at the start.
use Rattle.std.proofs.Common.{◌+◌, ◌-◌, ◌*◌, length}
use Rattle.wq_io.specs.Lines.{taken}
use Rattle.wq_io.proofs.NextLine.{Going}
use Rattle.wq_io.proofs.lines.Lines.next.Given as goal

abbrev pub invariant-loop-self : goal.invariant-loop-self
invariant-loop-self g l =
    Going l.fn.self l.self (g.S.Source.left l.fn.source) (g.S.Source.left l.source) l.line.items (g.S.Source.faults l.fn.source) (g.S.Source.faults l.source)
    (g.S.Source.most_faults l.fn.source) (g.S.Source.most_faults l.source) (g.S.Source.last l.fn.source) (g.S.Source.last l.source)

abbrev pub decreases-loop-self : goal.decreases-loop-self
decreases-loop-self g l = length l.self.held + 2 * (l.self.max_bytes + 1 - taken l.self)
