-- Each entity holds what is there.
use Rattle.session_laws.proofs.Complete.{settled_union}
use Rattle.session_laws.proofs.laws.settled_pages_are_the_union.Goals as goal

pub returns : goal.returns
returns c = λ run before now contents first ending known. settled_union run before now contents first ending known
