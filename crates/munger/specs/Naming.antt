-- IRIs for blank nodes.
use Rattle.rdf_term.specs.declared.term.Term.{Term}
use Rattle.rdf_term.specs.declared.term.Term.TheVariants.{Iri, Blank, Plain, Lang, Typed}
use Rattle.rdf_term.specs.declared.triple.Triple.{Triple}
use Rattle.rdf_vocabulary.specs.declared.prefix.Prefix.TheVariants.{Genid}
use Rattle.rdf_vocabulary.specs.Prefix.{prefixed}

-- a blank node's IRI, by its label; every other term stays
abbrev pub named : Term → Term
named (Blank label) = prefixed Genid label
named (Iri iri) = Iri iri
named (Plain text) = Plain text
named (Lang text tag) = Lang text tag
named (Typed text datatype) = Typed text datatype

-- the triple with its blank nodes named
abbrev pub named_triple : Triple → Triple
named_triple triple = record { subject = named triple.subject; predicate = named triple.predicate; object = named triple.object }
