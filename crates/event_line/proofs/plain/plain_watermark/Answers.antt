-- The line has the value of its time.
use Rattle.std.proofs.Common.{ap, ◌∙◌}
use Rattle.event_line.specs.Time.{time_of}
use Rattle.event_line.proofs.PlainLines.{watermark_delivers, watermark_value}
use Rattle.event_line.proofs.plain.plain_watermark.Goals as goal

pub returns-then-closes : goal.returns-then-closes
returns-then-closes c =
    let time = c.in_ok-time.time.text.now in
    let value = watermark_value c.args.line.now time c.in_ok-time.time.rest.now c.in_ok-time.ensures (c.closes.ensures c.if-closes.true) in
    watermark_delivers c.args.line.now time c.microseconds.result value (c.microseconds.ensures.value ∙ ap time_of c.as_bytes.ensures.value)
