-- The text stands behind the comma.
use Rattle.std.proofs.lemmas.Option.{IfSome_then}
use Rattle.event_line.proofs.plain.next_text.Goals as goal

pub returns : goal.returns
returns c = IfSome_then c.text.result c.text.ensures (λ piece has. record { inner = c.in_ok-behind_mark.field-0.now; is = c.in_ok-behind_mark.ensures; text_is = has })
