-- What is kept of a document, as a list.
use Rattle.std.specs.Prelude.{ℕ, List}
use Rattle.std.specs.List.{flat_map}
use Rattle.rdf_term.specs.declared.triple.Triple.{Triple}
use Rattle.entity_model.specs.declared.id.EntityId.{EntityId}
use Rattle.entity_model.specs.declared.document.Document.TheVariants.{Entity as AnEntity}
use Rattle.entity_model.specs.declared.entity.Entity.{Entity}
use Rattle.entity_model.specs.declared.mapping.MappingVersion.{MappingVersion}
use Rattle.munger.specs.Munging.{munged}
use Rattle.entity_rdf.specs.Dump.{dump}

-- what munging leaves of the dump of an entity's document, in its order
abbrev pub kept_list : MappingVersion → EntityId → ℕ → Entity → List Triple
kept_list version x rev e = flat_map (munged x) (dump version x rev (AnEntity e))
