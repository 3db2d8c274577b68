-- The terms that borrowed ones stand for.
use Rattle.rdf_term.specs.declared.term.Term.{Term}
use Rattle.rdf_term.specs.declared.term.Term.TheVariants as T
use Rattle.rdf_term.specs.declared.triple.Triple.{Triple}
use Rattle.rdf_vocabulary.specs.Predicate.{predicate_term}
use Rattle.rdf_vocabulary.specs.Prefix.{id_term, prefixed}
use Rattle.rdf_vocabulary.specs.Resource.{resource_term}
use Rattle.triple_sink.specs.declared.term_ref.TermRef.{TermRef}
use Rattle.triple_sink.specs.declared.term_ref.TermRef.TheVariants.{Predicate, Resource, Named, Id, Iri, Blank, Plain, Lang, Typed}

-- the term
abbrev pub meant : TermRef → Term
meant (Predicate word) = predicate_term word
meant (Resource word) = resource_term word
meant (Named prefix name) = prefixed prefix name.now
meant (Id prefix id) = id_term prefix id
meant (Iri iri) = T.Iri iri.now
meant (Blank label) = T.Blank label.now
meant (Plain text) = T.Plain text.now
meant (Lang text tag) = T.Lang text.now tag.now
meant (Typed text datatype) = T.Typed text.now datatype.now

-- the triple of three terms
abbrev pub meant_triple : TermRef → TermRef → TermRef → Triple
meant_triple subject predicate object = record { subject = meant subject; predicate = meant predicate; object = meant object }
