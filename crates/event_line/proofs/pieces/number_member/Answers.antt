use Rattle.std.proofs.lemmas.Option.{IfSome_then}
use Rattle.event_line.proofs.pieces.number_member.Goals as goal

pub returns : goal.returns
returns c = IfSome_then c.number.result c.number.ensures (λ piece has. record { value = c.in_ok-value.value.now; key_is = c.in_ok-value.ensures; number_is = has })
