-- Triples that are marked, since only one of two lists has them, and a sink that keeps no others.
use Rattle.std.specs.Prelude.{Bool, cond, filter, List, [], ◌∷◌, map}
use Rattle.rdf_term.specs.declared.triple.Triple.{Triple}
use Rattle.page_parts.specs.declared.marks.Marks.{Marks}
use Rattle.page_parts.specs.declared.sifting.Sifted.{Sifted}
use Rattle.page_parts.specs.{InOne.in_one, Row.row_triple}

-- whether the triple is marked: exactly one of two lists of rows has it
abbrev pub is_marked : Marks → Triple → Bool
is_marked marks triple = in_one (map row_triple marks.first.items) (map row_triple marks.second.items) triple

-- what is left of what is kept of a triple: nothing, if it is marked
abbrev pub left_of : Marks → (Triple → List Triple) → Triple → List Triple
left_of marks keeps triple = cond (is_marked marks triple) [] (keeps triple)

-- the triples that a sink found
abbrev pub found_of : Sifted → List Triple
found_of sifted = sifted.found

-- what it keeps of a triple: the triple, if it is marked
abbrev pub kept_by : Sifted → Triple → List Triple
kept_by sifted triple = filter (is_marked sifted.marks.now) (triple ∷ [])
