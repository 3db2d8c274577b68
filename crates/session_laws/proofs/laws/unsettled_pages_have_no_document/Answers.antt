-- An entry of it is open, and says what is there.
use Rattle.session_laws.proofs.Complete.{unsettled}
use Rattle.session_laws.proofs.laws.unsettled_pages_have_no_document.Goals as goal

pub returns : goal.returns
returns c = λ run before now contents first ending known. unsettled run before now contents first ending known
