-- The triples that are kept of a page as a list, and the counts that the page has of itself.
use Rattle.std.specs.Prelude.{◌≡◌, ℕ, List, Option, None, Some, IfSome}
use Rattle.sorted_sets.specs.Rising.{sorted}
use Rattle.rdf_term.specs.{declared.triple.Triple.Triple, Order.triple_cmp}
use Rattle.entity_json.specs.Document.{document_of}
use Rattle.entity_model.specs.declared.document.Document.{Document}
use Rattle.entity_model.specs.declared.document.Document.TheVariants.{Entity as AnEntity, Redirect, Lexeme as ALexeme}
use Rattle.entity_model.specs.{declared.entity.Entity.Entity, declared.id.EntityId.EntityId, declared.mapping.MappingVersion.MappingVersion}
use Rattle.page_rdf.specs.{declared.counts.Counts.Counts, Counted.counts_of}
use Rattle.entity_rdf.specs.Changing.{kept_list}
use Rattle.replay_model.specs.Records.{Bytes}
use Rattle.fetched_pages.specs.Meaning.{meaning}

-- the counts of the document of an item or a property
abbrev pub counts_if : Document → Option Counts
counts_if (AnEntity e) = Some (counts_of e)
counts_if (Redirect y) = None
counts_if (ALexeme l) = None

-- there is the document of an item or a property, it has these counts, and these are the triples that are kept of it, each as many times
pub record IsListed (version : MappingVersion) (x : EntityId) (rev : ℕ) (found : Option Document) (counts : Counts) (triples : List Triple) : Type 0 where
  pub entity : Entity
  pub is_entity : found ≡ Some (AnEntity entity)
  pub counts_are : counts ≡ counts_of entity
  pub triples_are : triples ≡ kept_list version x rev entity

-- the triples are those that the bytes of this revision of x mean by this version, though one may stand there twice; where counts are told,
-- the bytes are the page of an item or a property that has these
pub record AreTextsOf (version : MappingVersion) (x : EntityId) (rev : ℕ) (bytes : Bytes) (counts : Option Counts) (triples : List Triple) : Type 0 where
  pub set : sorted triple_cmp triples ≡ meaning version x rev bytes
  pub listed : IfSome counts (λ known. IsListed version x rev (document_of x bytes) known triples)
