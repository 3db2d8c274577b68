-- What a page means is in rising order.
use Rattle.std.proofs.Common.{ℕ, List, Option, Some, None, flat_map, sym, subst}
use Rattle.sorted_sets.specs.Rising.{IsRising}
use Rattle.sorted_sets.proofs.Rising.{IsRising-sorted}
use Rattle.rdf_term.specs.Order.{triple_cmp, triple_cmp-total}
use Rattle.entity_model.specs.{declared.id.EntityId.EntityId, declared.document.Document.Document}
use Rattle.entity_model.specs.declared.mapping.MappingVersion.{MappingVersion}
use Rattle.entity_json.specs.Document.{document_of}
use Rattle.entity_rdf.specs.Dump.{dump}
use Rattle.munger.specs.Munging.{munged}
use Rattle.munger.proofs.MungedList.{munge_of_list}
use Rattle.fetched_pages.specs.Meaning.{meaning, triples_if}

found_rises : (v : MappingVersion) (x : EntityId) (rev : ℕ) (found : Option Document) → IsRising triple_cmp (triples_if v x rev found)
found_rises v x rev None = tt
found_rises v x rev (Some document) = subst (IsRising triple_cmp) (sym (munge_of_list x (dump v x rev document))) (IsRising-sorted triple_cmp-total (flat_map (munged x) (dump v x rev document)))

-- the triples of any bytes
pub meaning_rises : (v : MappingVersion) (x : EntityId) (rev : ℕ) (bytes : List ℕ) → IsRising triple_cmp (meaning v x rev bytes)
meaning_rises v x rev bytes = found_rises v x rev (document_of x bytes)
