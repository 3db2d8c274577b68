-- What waits at the end is applied.
use Rattle.session.proofs.delivering.take_end.Goals as goal

pub returns-clause-ok : goal.returns-clause-ok
returns-clause-ok g c = rw c.close.ensures at c.apply_due.ensures.ok

pub returns-clause-err : goal.returns-clause-err
returns-clause-err g c = rw c.close.ensures at c.apply_due.ensures.err

pub returns-clause-held_up : goal.returns-clause-held_up
returns-clause-held_up g c = rw c.close.ensures at c.apply_due.ensures.held_up

pub returns-clause-versions : goal.returns-clause-versions
returns-clause-versions g c = rw c.close.ensures at c.apply_due.ensures.versions
