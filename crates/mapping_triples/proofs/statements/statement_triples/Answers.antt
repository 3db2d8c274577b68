-- The term of an entity is fit and short.
use Rattle.mapping_triples.proofs.Fronts.{entity_statement_fit}
use Rattle.mapping_triples.proofs.statements.statement_triples.Goals as goal

pub returns-clause-fit : goal.returns-clause-fit
returns-clause-fit c = entity_statement_fit c.args.setting.version c.args.entity c.args.statement.now c.args.best
