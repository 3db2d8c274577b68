-- Each other status has a cause that is ruled out, and there is room.
use Rattle.session_laws.proofs.{Complete.ends_well, Fitting.never_store_full}
use Rattle.session_laws.proofs.laws.fitting_input_is_replayed.Goals as goal

pub returns : goal.returns
returns c = λ run before now status contents bytes ds first understood stopped left are reads writes saves known enough.
    ends_well run before now bytes ds left are reads writes saves (never_store_full run before now bytes ds contents left are known first enough) status understood stopped
