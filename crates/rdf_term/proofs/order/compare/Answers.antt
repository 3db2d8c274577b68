use Rattle.rdf_term.proofs.Texts.{tied_triples}
use Rattle.rdf_term.proofs.order.compare.Goals as goal

pub returns-in-Equal-clause-equal : goal.returns-in-Equal-clause-equal
returns-in-Equal-clause-equal c = λ e. tied_triples _ _ _ _ c.compare_terms.ensures c.in-Equal.is c.compare_rest.ensures e
