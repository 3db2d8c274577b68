-- By the lemma on each triple.
use Rattle.entity_rdf.proofs.LexemeGiven.{lexdump_rules}
use Rattle.entity_rdf.proofs.lexeme_laws.lexeme_triples_are_given.Goals as goal

pub returns : goal.returns
returns c = lexdump_rules
