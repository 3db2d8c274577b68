-- The triples of the statements of a lexeme and of its forms and senses.
use Rattle.std.specs.Prelude.{List, ◌++◌}
use Rattle.std.specs.List.{flat_map}
use Rattle.rdf_term.specs.declared.triple.Triple.{Triple}
use Rattle.entity_model.specs.declared.id.EntityId.{EntityId}
use Rattle.entity_model.specs.declared.mapping.MappingVersion.{MappingVersion}
use Rattle.rdf_vocabulary.specs.Prefix.{entity_term}
use Rattle.statement_rdf.specs.Statements.{statements_triples}
use Rattle.entity_model.specs.declared.lexeme.Lexeme.{Lexeme}
use Rattle.entity_model.specs.declared.lexeme.Part.{Part}
use Rattle.page_rdf.specs.Part.{part_term}

-- the statements of a form or a sense, each judged among them alone
abbrev pub part_statements : MappingVersion → Part → List Triple
part_statements version part = statements_triples version (part_term part.id) part.statements

-- those of a lexeme, of its forms and of its senses
abbrev pub all_statements : MappingVersion → EntityId → Lexeme → List Triple
all_statements version x l =
    statements_triples version (entity_term x) l.statements
    ++ flat_map (part_statements version) l.forms
    ++ flat_map (part_statements version) l.senses
