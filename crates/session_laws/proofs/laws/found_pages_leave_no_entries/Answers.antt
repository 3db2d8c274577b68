-- The play of these replies names nothing.
use Rattle.session_laws.proofs.Complete.{nothing_named}
use Rattle.session_laws.proofs.laws.found_pages_leave_no_entries.Goals as goal

pub returns : goal.returns
returns c = λ run before now contents first ending known. nothing_named run before now contents first ending known
