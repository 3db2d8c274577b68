-- Triples whose object may be missing.
use Rattle.std.specs.Prelude.{List, [], ◌∷◌, Option, Some, None}
use Rattle.rdf_term.specs.declared.term.Term.{Term}
use Rattle.rdf_term.specs.declared.triple.Triple.{Triple}
pub use Rattle.rdf_term.specs.Triple.{triple}

-- the triple with this object, where it is there
abbrev pub object_triples : Term → Term → Option Term → List Triple
object_triples subject predicate None = []
object_triples subject predicate (Some object) = triple subject predicate object ∷ []
