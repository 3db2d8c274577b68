-- The members of the line are those of the event.
use Rattle.std.proofs.Common.{sym, ap, ◌∙◌, arith, w64}
use Rattle.std.proofs.lemmas.Int.{to_z-of_z, ints}
use Rattle.event_line.specs.Time.{time_of}
use Rattle.event_line.proofs.PlainLines.{event_delivers}
use Rattle.event_line.proofs.plain.event.Goals as goal

pub returns : goal.returns
returns c =
    rw (to_z-of_z w64 c.in_ok-time.time (omega (arith, ints)))
    (event_delivers c.args.kind.now c.args.entity.now c.args.time.now c.args.rev c.in_ok-kind_named.field-0 c.in_ok-entity.entity c.in_ok-time.time c.in_ok-kind.kind
    (sym c.in_ok-kind_named.ensures) (sym c.in_ok-entity.ensures.value) c.requires (ap time_of (sym c.as_bytes.ensures.value) ∙ sym c.in_ok-time.ensures.value) c.in_ok-kind.ensures)
