-- Nothing stands behind the brace.
use Rattle.std.proofs.Common.{sym, ◌∙◌}
use Rattle.event_line.proofs.PlainLines.{closes_at}
use Rattle.event_line.proofs.pieces.closes.Goals as goal

pub returns-in-Some : goal.returns-in-Some
returns-in-Some c = λ empty. closes_at c.args.bytes.now c.in-Some.rest.now c.in-Some.ensures (sym c.is_empty.ensures ∙ empty)
