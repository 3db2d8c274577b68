-- The key stands behind the mark.
use Rattle.std.proofs.lemmas.Option.{IfSome_then}
use Rattle.event_line.proofs.pieces.behind_key.Goals as goal

pub returns : goal.returns
returns c = IfSome_then c.behind.result c.behind.ensures (λ rest has. record { inner = c.in_ok-behind_mark.field-0.now; is = c.in_ok-behind_mark.ensures; key_is = has })
