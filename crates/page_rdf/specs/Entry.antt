-- What a page says of the lexeme itself.
use Rattle.std.specs.Prelude.{List, [], ◌∷◌}
use Rattle.std.specs.List.{flat_map}
use Rattle.rdf_term.specs.declared.triple.Triple.{Triple}
use Rattle.entity_model.specs.declared.id.EntityId.{EntityId}
use Rattle.rdf_vocabulary.specs.Prefix.{entity_term}
use Rattle.rdf_vocabulary.specs.declared.resource.Resource.TheVariants as Classes
use Rattle.entity_model.specs.declared.lexeme.Lexeme.{Lexeme}
use Rattle.rdf_vocabulary.specs.declared.predicate.Predicate.TheVariants as Say
use Rattle.page_rdf.specs.LexemeTexts.{text_triples}
use Rattle.rdf_vocabulary.specs.Resource.{class_triple}
use Rattle.rdf_vocabulary.specs.Predicate.{about}

-- the classes of a lexeme, its language and its lexical category
abbrev pub entry_triples : EntityId → Lexeme → List Triple
entry_triples x l =
    class_triple (entity_term x) Classes.LexicalEntry
    ∷ class_triple (entity_term x) Classes.Lexeme
    ∷ about (entity_term x) Say.Language (entity_term l.language)
    ∷ about (entity_term x) Say.LexicalCategory (entity_term l.category) ∷ []

-- its lemmas
abbrev pub lemma_triples : EntityId → Lexeme → List Triple
lemma_triples x l = flat_map (text_triples Say.Lemma (entity_term x)) l.lemmas
