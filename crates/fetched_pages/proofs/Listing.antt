-- The triples that are kept of a page as a list are those that it means.
use Rattle.std.proofs.Common.{◌≡◌, ℕ, List, Option, sym, ◌∙◌, ap}
use Rattle.sorted_sets.specs.Rising.{has, sorted}
use Rattle.sorted_sets.proofs.Rising.{has-sorted}
use Rattle.rdf_term.specs.{declared.triple.Triple.Triple, Order.triple_cmp, Order.triple_cmp-total}
use Rattle.entity_model.specs.declared.document.Document.{Document}
use Rattle.entity_model.specs.declared.document.Document.TheVariants.{Entity as AnEntity}
use Rattle.entity_model.specs.{declared.entity.Entity.Entity, declared.id.EntityId.EntityId, declared.mapping.MappingVersion.MappingVersion}
use Rattle.page_rdf.specs.declared.counts.Counts.{Counts}
use Rattle.entity_rdf.specs.{Changing.kept_list, Dump.dump}
use Rattle.munger.proofs.MungedList.{munge_of_list}
use Rattle.fetched_pages.specs.{Listed.IsListed, Meaning.document_triples, Meaning.triples_if}

-- the set of the list
pub list_set : (version : MappingVersion) (x : EntityId) (rev : ℕ) (e : Entity) → sorted triple_cmp (kept_list version x rev e) ≡ document_triples version x rev (AnEntity e)
list_set version x rev e = sym (munge_of_list x (dump version x rev (AnEntity e)))

module _ (version : MappingVersion) (x : EntityId) (rev : ℕ) where
  pub listed_meant : (found : Option Document) (counts : Counts) (ts : List Triple) → IsListed version x rev found counts ts
      → (t : Triple) → has triple_cmp t ts ≡ has triple_cmp t (triples_if version x rev found)
  listed_meant found counts ts h t =
      sym (has-sorted triple_cmp-total t ts)
      ∙ ap (has triple_cmp t) (ap (sorted triple_cmp) h.triples_are ∙ list_set version x rev h.entity ∙ ap (triples_if version x rev) (sym h.is_entity))
