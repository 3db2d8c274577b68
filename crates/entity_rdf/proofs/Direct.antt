-- What munging leaves of the dump of a small document is fit and short.
use Rattle.std.proofs.Common.{ℕ, List, Ordering, subst}
use Rattle.std.specs.Cmp.{IsTotalOrder}
use Rattle.std.specs.FinMap.{IsAntisymmetric}
use Rattle.std.specs.List.{AllByRecursion, flat_map}
use Rattle.sorted_sets.specs.Rising.{sorted}
use Rattle.sorted_sets.proofs.Members.{member-sorted}
use Rattle.rdf_term.specs.Fit.{HasFitAndShortTerms}
use Rattle.rdf_term.specs.Order.{triple_cmp, triple_cmp-total}
use Rattle.rdf_term.proofs.Texts.{triple_cmp-IsAntisymmetric}
use Rattle.entity_model.specs.declared.id.EntityId.{EntityId}
use Rattle.entity_model.specs.declared.document.Document.{Document}
use Rattle.entity_model.specs.Document.{IsSmall}
use Rattle.entity_model.specs.declared.mapping.MappingVersion.{MappingVersion}
use Rattle.munger.specs.Munging.{munge, munged}
use Rattle.munger.proofs.Fit.{munge_fit}
use Rattle.munger.proofs.MungedList.{munge_of_list}
use Rattle.entity_rdf.specs.Dump.{dump}
use Rattle.statement_rdf.proofs.Each.{of_each_member, of_member}
use Rattle.entity_rdf.proofs.Fit.{dump_fit}
use Rattle.entity_rdf.proofs.Labels.{dump_labels}

pub direct_fit : (version : MappingVersion) (x : EntityId) (rev : ℕ) (document : Document) → IsSmall document → AllByRecursion HasFitAndShortTerms (munge x (sorted triple_cmp (dump version x rev document)))
direct_fit version x rev document small =
    munge_fit x (sorted triple_cmp (dump version x rev document)) (dump_fit version x rev document small) (dump_labels version x rev document)

module _ {A : Type 0} (P : A → Type 0) where
  -- what holds of each element of a list's set holds of each element of the list
  of_set : {R : A → A → Ordering} → IsTotalOrder R → IsAntisymmetric R → (xs : List A) → AllByRecursion P (sorted R xs) → AllByRecursion P xs
  of_set {R = R} total same xs all = of_each_member P xs (λ a there. of_member P (sorted R xs) a all ((member-sorted total same a xs).1 there))

-- the list that the set is made of
pub direct_list_fit : (version : MappingVersion) (x : EntityId) (rev : ℕ) (document : Document) → IsSmall document → AllByRecursion HasFitAndShortTerms (flat_map (munged x) (dump version x rev document))
direct_list_fit version x rev document small =
    of_set HasFitAndShortTerms triple_cmp-total triple_cmp-IsAntisymmetric (flat_map (munged x) (dump version x rev document))
    (subst (AllByRecursion HasFitAndShortTerms) (munge_of_list x (dump version x rev document)) (direct_fit version x rev document small))
