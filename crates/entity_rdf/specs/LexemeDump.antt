-- The dump of a lexeme: the triples that its six rules give.
use Rattle.std.specs.Prelude.{ℕ, List, ◌++◌}
use Rattle.std.specs.List.{flat_map}
use Rattle.rdf_term.specs.declared.triple.Triple.{Triple}
use Rattle.entity_model.specs.declared.id.EntityId.{EntityId}
use Rattle.entity_model.specs.declared.mapping.MappingVersion.{MappingVersion}
use Rattle.rdf_vocabulary.specs.Prefix.{entity_term}
use Rattle.entity_model.specs.declared.lexeme.Lexeme.{Lexeme}
use Rattle.page_rdf.specs.Entry.{entry_triples, lemma_triples}
use Rattle.page_rdf.specs.Form.{form_triples}
use Rattle.page_rdf.specs.LexemePage.{lexeme_page_triples}
use Rattle.page_rdf.specs.Sense.{sense_triples}
use Rattle.entity_rdf.specs.LexemeStatements.{all_statements}

-- what a page says of the lexeme and of itself
abbrev pub spoken_triples : EntityId → ℕ → Lexeme → List Triple
spoken_triples x rev l = entry_triples x l ++ lemma_triples x l ++ lexeme_page_triples x rev l

-- what it says of the forms and senses but for their statements
abbrev pub part_triples : EntityId → Lexeme → List Triple
part_triples x l =
    flat_map (form_triples (entity_term x)) l.forms ++ flat_map (sense_triples (entity_term x)) l.senses

-- all that it says
unfoldable pub lexdump : MappingVersion → EntityId → ℕ → Lexeme → List Triple
lexdump version x rev l = spoken_triples x rev l ++ part_triples x l ++ all_statements version x l
