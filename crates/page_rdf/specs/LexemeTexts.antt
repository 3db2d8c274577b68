-- The texts of lexemes, forms and senses.
use Rattle.std.specs.Prelude.{List, [], ◌∷◌}
use Rattle.rdf_term.specs.declared.term.Term.{Term}
use Rattle.rdf_term.specs.declared.triple.Triple.{Triple}
use Rattle.entity_model.specs.declared.value.Tagged.{Tagged}
use Rattle.rdf_vocabulary.specs.declared.predicate.Predicate.{Predicate}
use Rattle.rdf_vocabulary.specs.declared.predicate.Predicate.TheVariants.{Label}
use Rattle.rdf_vocabulary.specs.Predicate.{about}
use Rattle.page_rdf.specs.Texts.{tagged_term}

-- a text of a node, by the predicate and as a label
abbrev pub text_triples : Predicate → Term → Tagged → List Triple
text_triples predicate node text = about node predicate (tagged_term text) ∷ about node Label (tagged_term text) ∷ []
