-- What is held and what comes has no other terms than what is told.
use Rattle.session_laws.proofs.Fitting.{never_store_full}
use Rattle.session_laws.proofs.laws.told_pages_have_room.Goals as goal

pub returns : goal.returns
returns c = λ run before now contents bytes ds first stopped left are known enough. never_store_full run before now bytes ds contents left are known first enough stopped
