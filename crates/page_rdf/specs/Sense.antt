-- What a page says of a sense.
use Rattle.std.specs.Prelude.{List, [], ◌∷◌, ◌++◌}
use Rattle.std.specs.List.{flat_map}
use Rattle.rdf_term.specs.declared.term.Term.{Term}
use Rattle.rdf_term.specs.declared.triple.Triple.{Triple}
use Rattle.rdf_vocabulary.specs.declared.resource.Resource.TheVariants as Classes
use Rattle.entity_model.specs.declared.lexeme.Part.{Part}
use Rattle.rdf_vocabulary.specs.declared.predicate.Predicate.TheVariants as Say
use Rattle.page_rdf.specs.Part.{part_term}
use Rattle.page_rdf.specs.LexemeTexts.{text_triples}
use Rattle.rdf_vocabulary.specs.Resource.{class_triple}
use Rattle.rdf_vocabulary.specs.Predicate.{about}

-- the lexeme has the sense; the sense's classes
abbrev pub sense_head : Term → Term → List Triple
sense_head entity node = about entity Say.Sense node ∷ class_triple node Classes.LexicalSense ∷ class_triple node Classes.WikibaseSense ∷ []

-- a sense with its glosses
abbrev pub sense_triples : Term → Part → List Triple
sense_triples entity sense =
    sense_head entity (part_term sense.id) ++ flat_map (text_triples Say.Definition (part_term sense.id)) sense.texts
