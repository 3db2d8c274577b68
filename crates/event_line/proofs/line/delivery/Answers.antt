-- A question in plain form that is refused.
use Rattle.event_line.proofs.PlainLines.{ask_refused}
use Rattle.event_line.proofs.line.delivery.Goals as goal

pub returns-in-Err : goal.returns-in-Err
returns-in-Err c =
    let texts = c.in-Some-ask_texts.texts in
    ask_refused c.args.line.now texts.subject.now texts.predicate.now texts.object.now c.in-Err.fault c.in-Some-ask_texts.ensures c.in-Err.ensures
