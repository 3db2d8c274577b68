-- What the page of a part of a document says where the counts of the whole are given.
use Rattle.std.specs.Prelude.{ℕ, List, ◌++◌}
use Rattle.std.specs.List.{flat_map}
use Rattle.rdf_term.specs.declared.triple.Triple.{Triple}
use Rattle.entity_model.specs.declared.id.EntityId.{EntityId}
use Rattle.entity_model.specs.declared.entity.Entity.{Entity}
use Rattle.entity_model.specs.declared.mapping.MappingVersion.{MappingVersion}
use Rattle.rdf_vocabulary.specs.Prefix.{entity_term}
use Rattle.munger.specs.Munging.{munged}
use Rattle.sitelinks.specs.Article.{article_triples}
use Rattle.page_rdf.specs.declared.counts.Counts.{Counts}
use Rattle.page_rdf.specs.Spoken.{counted_spoken}
use Rattle.statement_rdf.specs.Statements.{statements_triples}

-- all that the page says
abbrev pub counted_triples : MappingVersion → EntityId → ℕ → Counts → Entity → List Triple
counted_triples version x rev counts e =
    counted_spoken x rev counts e ++ flat_map (article_triples x) e.links ++ statements_triples version (entity_term x) e.statements

-- what munging leaves of it
abbrev pub counted_kept : MappingVersion → EntityId → ℕ → Counts → Entity → List Triple
counted_kept version x rev counts e = flat_map (munged x) (counted_triples version x rev counts e)
