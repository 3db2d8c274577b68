-- What the page of an item or a property says but for its site links and statements.
use Rattle.std.specs.Prelude.{ℕ, List, ◌++◌}
use Rattle.rdf_term.specs.declared.triple.Triple.{Triple}
use Rattle.entity_model.specs.declared.id.EntityId.{EntityId}
use Rattle.entity_model.specs.declared.entity.Entity.{Entity}
use Rattle.page_rdf.specs.declared.counts.Counts.{Counts}
use Rattle.page_rdf.specs.About.{dataset_triples, text_triples}
use Rattle.page_rdf.specs.Counted.{counted_dataset}
use Rattle.page_rdf.specs.Property.{property_triples}

-- what the page of a whole document says but for its site links and statements
abbrev pub spoken_triples : EntityId → ℕ → Entity → List Triple
spoken_triples x rev e = text_triples x e ++ dataset_triples x rev e ++ property_triples x e.datatype

-- the same of a part, where the counts of the whole document are given
abbrev pub counted_spoken : EntityId → ℕ → Counts → Entity → List Triple
counted_spoken x rev counts e = text_triples x e ++ counted_dataset x rev counts e ++ property_triples x e.datatype
