use Rattle.std.proofs.Common.{sym}
use Rattle.term_reading.proofs.Contents.{with_front-nil, at_close, at_refuse, at_go, at_keep, at_put, at_end}
use Rattle.term_reading.proofs.content.content.Goals as goal

pub loop-c-init : goal.loop-c-init
loop-c-init c = rw (c.in_ok-out.ensures.bytes, c.chars-left.ensures.rest) (sym (with_front-nil _))

pub returns-in-Close : goal.returns-in-Close
returns-in-Close c = rw (c.from_string.ensures, c.as_str.ensures) (at_close _ _ _ _ _ _ _ c.in-Some.ensures.steps.0 c.loop-c.invariant c.in-Close.ensures)

pub returns-in-Refuse : goal.returns-in-Refuse
returns-in-Refuse c = at_refuse _ _ _ _ _ _ _ c.in-Some.ensures.steps.0 c.loop-c.invariant c.in-Refuse.ensures

pub loop-c-preserved-in-Go : goal.loop-c-preserved-in-Go
loop-c-preserved-in-Go c = at_go _ _ _ _ _ _ _ c.in-Some.ensures.steps.0 c.loop-c.invariant _ c.in-Go.ensures

pub loop-c-preserved-in-Keep : goal.loop-c-preserved-in-Keep
loop-c-preserved-in-Keep c = rw c.in_ok-push-in-Keep.ensures.bytes (at_keep _ _ _ _ _ _ _ c.in-Some.ensures.steps.0 c.loop-c.invariant c.in-Keep.ensures)

pub loop-c-preserved : goal.loop-c-preserved
loop-c-preserved c = rw c.in_ok-push-in-Put.ensures.bytes (at_put _ _ _ _ _ _ _ c.in-Some.ensures.steps.0 c.loop-c.invariant _ c.in-Put.ensures)

pub returns : goal.returns
returns c = at_end _ _ _ _ _ c.in_default.ensures.steps.0.0 c.loop-c.invariant
