-- Texts in their languages.
use Rattle.rdf_term.specs.declared.term.Term.{Term}
use Rattle.rdf_term.specs.Grammar.{tagged_of}
use Rattle.entity_model.specs.declared.value.Tagged.{Tagged}

-- a text in its language
abbrev pub tagged_term : Tagged → Term
tagged_term t = tagged_of t.text t.language
