-- By the cases of the rules and of the lists.
use Rattle.statement_rdf.proofs.Given.{statement_rules}
use Rattle.statement_rdf.proofs.laws.statement_triples_are_given.Goals as goal

pub returns : goal.returns
returns c = statement_rules
