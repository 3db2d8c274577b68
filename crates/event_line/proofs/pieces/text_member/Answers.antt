use Rattle.std.proofs.lemmas.Option.{IfSome_then}
use Rattle.event_line.proofs.pieces.text_member.Goals as goal

pub returns : goal.returns
returns c = IfSome_then c.text.result c.text.ensures (λ piece has. record { value = c.in_ok-value.value.now; key_is = c.in_ok-value.ensures; text_is = has })
