-- By the parts of the statement.
use Rattle.statement_rdf.proofs.Fit.{statement_triples_fit}
use Rattle.statement_rdf.proofs.laws.statement_terms_are_fit.Goals as goal

pub returns : goal.returns
returns c = statement_triples_fit
