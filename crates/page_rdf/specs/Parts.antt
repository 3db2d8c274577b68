-- What a page says of a part, by its kind.
use Rattle.std.specs.Prelude.{List}
use Rattle.rdf_term.specs.declared.term.Term.{Term}
use Rattle.rdf_term.specs.declared.triple.Triple.{Triple}
use Rattle.entity_model.specs.declared.lexeme.Part.{Part}
use Rattle.page_rdf.specs.declared.parts.PartKind.{PartKind}
use Rattle.page_rdf.specs.declared.parts.PartKind.TheVariants as Kind
use Rattle.page_rdf.specs.Form.{form_head, form_triples}
use Rattle.page_rdf.specs.Sense.{sense_head, sense_triples}

-- the lexeme has the part; the part's classes
abbrev pub head_of : PartKind → Term → Term → List Triple
head_of Kind.Form = form_head
head_of Kind.Sense = sense_head

-- all that is said of a part but for its statements
abbrev pub triples_of : PartKind → Term → Part → List Triple
triples_of Kind.Form = form_triples
triples_of Kind.Sense = sense_triples
