-- So it is for any fit and short subject.
use Rattle.statement_rdf.proofs.Fit.{statement_triples_fit}
use Rattle.mapping_triples.proofs.statements.statement_triples_at.Goals as goal

pub returns-clause-fit : goal.returns-clause-fit
returns-clause-fit c = statement_triples_fit c.args.setting.version c.args.subject.now c.args.statement.now c.args.best
