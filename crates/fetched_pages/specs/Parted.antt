-- The triples of a page in two parts.
use Rattle.std.specs.Prelude.{◌≡◌, ℕ, Bool, List}
use Rattle.std.specs.List.{AllByRecursion}
use Rattle.sorted_sets.specs.Rising.{IsRising, has, sorted}
use Rattle.rdf_term.specs.{Fit.HasFitAndShortTerms, Order.triple_cmp}
use Rattle.entity_model.specs.{declared.id.EntityId.EntityId, declared.mapping.MappingVersion.MappingVersion, EntityId.entity_cmp}
use Rattle.replay_model.specs.Records.{Bytes}
use Rattle.shared_triples.specs.Lean.{own_of, stored_of, strangers}
use Rattle.page_parts.specs.declared.named.NamedParts.{NamedParts}
use Rattle.fetched_pages.specs.Meaning.{meaning}

-- these are the parts of what the bytes of this revision of x mean by this version, wherever x is counted or isn't, as is said, and the
-- entities that they name, in rising order
pub record ArePartsIn (version : MappingVersion) (x : EntityId) (rev : ℕ) (bytes : Bytes) (is_counted : Bool) (p : NamedParts) : Type 0 where
  pub own : (counted : List EntityId) → has entity_cmp x counted ≡ is_counted → sorted triple_cmp p.parts.own ≡ own_of counted (meaning version) x rev bytes
  pub stored : (counted : List EntityId) → has entity_cmp x counted ≡ is_counted → sorted triple_cmp p.parts.shared ≡ stored_of counted (meaning version) x rev bytes
  pub fit : AllByRecursion HasFitAndShortTerms p.parts.shared
  pub rising : IsRising entity_cmp p.names.items
  pub names : (y : EntityId) → has entity_cmp y p.names.items ≡ has entity_cmp y (strangers x (meaning version x rev bytes))
