-- By the lemma on each triple.
use Rattle.entity_rdf.proofs.LexemeKept.{kept_rules}
use Rattle.entity_rdf.proofs.lexeme_laws.kept_lexeme_triples_are_left_of_given_ones.Goals as goal

pub returns : goal.returns
returns c = kept_rules
