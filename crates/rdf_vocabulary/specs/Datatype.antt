-- The datatypes of the dump's literals.
use Rattle.std.specs.Prelude.{ℕ, List, codes}
use Rattle.rdf_term.specs.declared.term.Term.{Term}
use Rattle.rdf_term.specs.declared.term.Term.TheVariants.{Typed}
use Rattle.rdf_vocabulary.specs.declared.datatype.Datatype.{Datatype}
use Rattle.rdf_vocabulary.specs.declared.datatype.Datatype.TheVariants.{Integer, Decimal, Double, DateTime, WktLiteral}

-- the text of a datatype's IRI
unfoldable pub datatype_text : Datatype → List ℕ
datatype_text Integer = codes "http://www.w3.org/2001/XMLSchema#integer"
datatype_text Decimal = codes "http://www.w3.org/2001/XMLSchema#decimal"
datatype_text Double = codes "http://www.w3.org/2001/XMLSchema#double"
datatype_text DateTime = codes "http://www.w3.org/2001/XMLSchema#dateTime"
datatype_text WktLiteral = codes "http://www.opengis.net/ont/geosparql#wktLiteral"

-- the literal of a text in a datatype
abbrev pub typed : List ℕ → Datatype → Term
typed text datatype = Typed text (datatype_text datatype)
