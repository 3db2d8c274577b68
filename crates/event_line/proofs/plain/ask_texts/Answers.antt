-- The line has the value of its texts.
use Rattle.event_line.proofs.PlainLines.{ask_value}
use Rattle.event_line.proofs.plain.ask_texts.Goals as goal

pub returns-then-closes : goal.returns-then-closes
returns-then-closes c =
    ask_value c.args.line.now c.in_ok-subject.subject.text.now c.in_ok-predicate.predicate.text.now c.in_ok-object.object.text.now
    c.in_ok-list.list.now c.in_ok-behind.field-0.now c.in_ok-subject.subject.rest.now c.in_ok-predicate.predicate.rest.now c.in_ok-object.object.rest.now c.in_ok-behind-2.field-0.now
    c.in_ok-list.ensures c.in_ok-behind.ensures c.in_ok-subject.ensures c.in_ok-predicate.ensures c.in_ok-object.ensures c.in_ok-behind-2.ensures (c.closes.ensures c.if-closes.true)
