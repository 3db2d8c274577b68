-- Each other status has a cause that is ruled out.
use Rattle.std.proofs.Common.{⊎_elim}
use Rattle.session_laws.proofs.Complete.{ends_well}
use Rattle.session_laws.proofs.laws.good_input_is_replayed.Goals as goal

pub returns : goal.returns
returns c = λ run before now status bytes ds understood stopped known are reads writes saves room stale_room. ends_well run before now bytes ds known are reads writes saves (λ full. ⊎_elim (λ due. room due.0) (λ stale. stale_room stale.0) full) status understood stopped
