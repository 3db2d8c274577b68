-- List by list.
use Rattle.entity_rdf.proofs.Counting.{counts_change}
use Rattle.entity_rdf.proofs.change_laws.counts_change.Goals as goal

pub returns : goal.returns
returns c = counts_change
