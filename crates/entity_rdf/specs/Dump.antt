-- The dump of a document: the triples that its rules give.
use Rattle.std.specs.Prelude.{ℕ, List, [], ◌∷◌, ◌++◌}
use Rattle.std.specs.List.{flat_map}
use Rattle.rdf_term.specs.declared.triple.Triple.{Triple}
use Rattle.entity_model.specs.declared.id.EntityId.{EntityId}
use Rattle.entity_model.specs.declared.entity.Entity.{Entity}
use Rattle.entity_model.specs.declared.document.Document.{Document}
use Rattle.entity_model.specs.declared.document.Document.TheVariants.{Entity as AnEntity, Redirect, Lexeme as ALexeme}
use Rattle.entity_model.specs.declared.mapping.MappingVersion.{MappingVersion}
use Rattle.rdf_vocabulary.specs.declared.predicate.Predicate.TheVariants as Say
use Rattle.rdf_vocabulary.specs.Predicate.{about}
use Rattle.rdf_vocabulary.specs.Prefix.{entity_term}
use Rattle.sitelinks.specs.Article.{article_triples}
use Rattle.page_rdf.specs.Spoken.{spoken_triples}
use Rattle.entity_rdf.specs.LexemeDump.{lexdump}
use Rattle.statement_rdf.specs.Statements.{statements_triples}

-- all that an entity's page says
abbrev pub entity_triples : MappingVersion → EntityId → ℕ → Entity → List Triple
entity_triples version x rev e =
    spoken_triples x rev e ++ flat_map (article_triples x) e.links ++ statements_triples version (entity_term x) e.statements

-- a redirect says that the entity is the one that it redirects to
abbrev pub redirect_triples : EntityId → EntityId → List Triple
redirect_triples x y = about (entity_term x) Say.SameAs (entity_term y) ∷ []

-- the dump of a document; lexemes have rules of their own
abbrev pub dump : MappingVersion → EntityId → ℕ → Document → List Triple
dump version x rev (AnEntity e) = entity_triples version x rev e
dump version x rev (Redirect y) = redirect_triples x y
dump version x rev (ALexeme l) = lexdump version x rev l
