-- The line has the value of its members, and they deliver the event.
use Rattle.std.proofs.Common.{◌∙◌}
use Rattle.std.proofs.lemmas.Option.{IfSome_then}
use Rattle.event_line.proofs.PlainLines.{delivers, event_value}
use Rattle.event_line.proofs.plain.plain_event.Goals as goal

pub returns-then-closes : goal.returns-then-closes
returns-then-closes c =
    let value = event_value c.args.line.now c.in_ok-kind.kind.text.now c.in_ok-entity.entity.text.now c.in_ok-rev.rev.number c.in_ok-time.time.text.now
    c.in_ok-kind.kind.rest.now c.in_ok-entity.entity.rest.now c.in_ok-rev.rev.rest.now c.in_ok-time.time.rest.now
    c.in_ok-kind.ensures c.in_ok-entity.ensures c.in_ok-rev.ensures c.in_ok-time.ensures (c.closes.ensures c.if-closes.true) in
    IfSome_then c.event.result c.event.ensures (λ event is. delivers c.args.line.now _ value ∙ is)
