-- What holds whatever a call answered holds where it was refused.
use Rattle.std.proofs.Common.{Result, Ok, Err, IfErr}

pub holds_where_refused : {A E P : Type 0} (Q : E → Type 0) (r : Result A E) → P → IfErr r (λ e. Q e → P)
holds_where_refused Q (Ok a) p = tt
holds_where_refused Q (Err e) p = λ _. p
