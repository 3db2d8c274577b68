-- Triples of RDF, made of their terms.
use Rattle.rdf_term.specs.declared.term.Term.{Term}
use Rattle.rdf_term.specs.declared.triple.Triple.{Triple}

-- the triple of a subject, a predicate and an object
abbrev pub triple : Term → Term → Term → Triple
triple subject predicate object = record { subject = subject; predicate = predicate; object = object }
