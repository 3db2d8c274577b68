-- The first waiting event is the first due one, or none is due.
use Rattle.std.proofs.Common.{sym, ◌∙◌}
use Rattle.reorder_buffer.proofs.Due.{find_first, none_due}
use Rattle.reorder_buffer.proofs.buffer.Buffer.least_due.Goals as goal

pub returns-then-is_due-clause-due : goal.returns-then-is_due-clause-due
returns-then-is_due-clause-due c =
    let due = rw (← c.self.view_is) at (sym c.is_due.ensures ∙ c.if-is_due.true) in
    rw (← c.self.view_is) (find_first _ _ _ c.in_ok-first.ensures.first due)

pub returns-else-is_due-clause-due : goal.returns-else-is_due-clause-due
returns-else-is_due-clause-due c =
    let waits = rw (← c.self.view_is) at (sym c.is_due.ensures ∙ c.if-is_due.false) in
    rw (← c.self.view_is) (none_due _ _ _ _ c.in_ok-first.ensures.all_from waits)
