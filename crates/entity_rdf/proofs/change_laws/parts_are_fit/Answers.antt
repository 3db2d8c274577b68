-- Each of them is kept of the whole.
use Rattle.entity_rdf.proofs.PartFit.{come_fit}
use Rattle.entity_rdf.proofs.change_laws.parts_are_fit.Goals as goal

pub returns : goal.returns
returns c = come_fit
