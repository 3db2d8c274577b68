-- What a page says of a form.
use Rattle.std.specs.Prelude.{List, [], ◌∷◌, ◌++◌}
use Rattle.std.specs.List.{flat_map}
use Rattle.rdf_term.specs.declared.term.Term.{Term}
use Rattle.rdf_term.specs.declared.triple.Triple.{Triple}
use Rattle.entity_model.specs.declared.id.EntityId.{EntityId}
use Rattle.rdf_vocabulary.specs.Prefix.{entity_term}
use Rattle.rdf_vocabulary.specs.declared.resource.Resource.TheVariants as Classes
use Rattle.entity_model.specs.declared.lexeme.Part.{Part}
use Rattle.rdf_vocabulary.specs.declared.predicate.Predicate.TheVariants as Say
use Rattle.page_rdf.specs.Part.{part_term}
use Rattle.page_rdf.specs.LexemeTexts.{text_triples}
use Rattle.rdf_vocabulary.specs.Resource.{class_triple}
use Rattle.rdf_vocabulary.specs.Predicate.{about}

-- the lexeme has the form; the form's classes
abbrev pub form_head : Term → Term → List Triple
form_head entity node = about entity Say.LexicalForm node ∷ class_triple node Classes.Form ∷ class_triple node Classes.WikibaseForm ∷ []

-- a grammatical feature of a form
abbrev pub feature_triples : Term → EntityId → List Triple
feature_triples node feature = about node Say.GrammaticalFeature (entity_term feature) ∷ []

-- a form with its representations and its features
abbrev pub form_triples : Term → Part → List Triple
form_triples entity form =
    form_head entity (part_term form.id)
    ++ flat_map (text_triples Say.Representation (part_term form.id)) form.texts
    ++ flat_map (feature_triples (part_term form.id)) form.features
