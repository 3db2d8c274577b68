-- What is kept of a part of a small document is fit and short.
use Rattle.std.proofs.Common.{◌≡◌, ℕ, ◌+◌, ◌<◌, ◌≤◌, Bool, true, false, cond, List, [], ◌∷◌, is_eq, inl, inr, refl, sym, ap, subst, arith}
use Rattle.std.specs.Prelude.{sum_by}
use Rattle.std.specs.Ordering.{eq_by_cmp}
use Rattle.std.specs.List.{AllByRecursion, flat_map}
use Rattle.std.proofs.lemmas.Cmp.{tied_itself}
use Rattle.std.proofs.lemmas.List.Sums.{sum_by-cons}
use Rattle.sorted_sets.specs.Rising.{In}
use Rattle.sorted_sets.proofs.Bools.{equal}
use Rattle.sorted_sets.specs.Merging.{IsWithin}
use Rattle.rdf_term.specs.declared.triple.Triple.{Triple}
use Rattle.rdf_term.specs.Fit.{HasFitAndShortTerms}
use Rattle.rdf_term.specs.Order.{triple_cmp, triple_cmp-total}
use Rattle.rdf_term.proofs.Texts.{triple_cmp-IsAntisymmetric}
use Rattle.entity_model.specs.declared.id.EntityId.{EntityId}
use Rattle.entity_model.specs.declared.document.Document.TheVariants.{Entity as AnEntity}
use Rattle.entity_model.specs.declared.entity.Entity.{Entity}
use Rattle.entity_model.specs.Document.{IsSmall}
use Rattle.entity_model.specs.declared.mapping.MappingVersion.{MappingVersion}
use Rattle.entity_model.specs.Changes.{EntityChanges}
use Rattle.statement_rdf.proofs.Each.{of_each_member, of_member}
use Rattle.entity_rdf.specs.Changing.{kept_list}
use Rattle.page_rdf.specs.Counted.{counts_of}
use Rattle.entity_rdf.specs.Counted.{counted_kept}
use Rattle.entity_rdf.proofs.Balance.{come_part, part_within}
use Rattle.entity_rdf.proofs.Direct.{direct_list_fit}

abbrev one_if : Bool → ℕ
one_if b = cond b 1 0

module _ (t : Triple) where
  -- how many times the triple stands in a list
  abbrev stands : List Triple → ℕ
  stands ts = sum_by (λ (u : Triple). cond (eq_by_cmp triple_cmp t u) 1 0) ts

  itself : (u : Triple) → t ≡ u → eq_by_cmp triple_cmp t u ≡ true
  itself u e = subst (λ (v : Triple). eq_by_cmp triple_cmp t v ≡ true) e (ap is_eq (tied_itself triple_cmp-total t))

  in-stands : (ts : List Triple) → In t ts → 0 < stands ts
  in-stands [] among = absurd among
  in-stands (u ∷ ts) (inl same) = omega (arith, sum_by-cons (λ (v : Triple). cond (eq_by_cmp triple_cmp t v) 1 0) u ts, ap one_if (itself u same))
  in-stands (u ∷ ts) (inr among) = omega (arith, sum_by-cons (λ (v : Triple). cond (eq_by_cmp triple_cmp t v) 1 0) u ts, in-stands ts among)

  stands-in : (ts : List Triple) → 0 < stands ts → In t ts
  stands-in [] some = absurd (omega (arith, some))
  stands-in (u ∷ ts) some = at (eq_by_cmp triple_cmp t u) refl (stands-in ts)
    where
      at : (b : Bool) → eq_by_cmp triple_cmp t u ≡ b → (0 < stands ts → In t ts) → In t (u ∷ ts)
      at true is rest = inl (triple_cmp-IsAntisymmetric t u (equal (triple_cmp t u) is))
      at false is rest = inr (rest (omega (arith, some, sum_by-cons (λ (v : Triple). cond (eq_by_cmp triple_cmp t v) 1 0) u ts, ap one_if is)))

-- what holds of each element of a list holds of each of a list within it
pub within_each : (P : Triple → Type 0) (xs ys : List Triple) → IsWithin xs ys → AllByRecursion P ys → AllByRecursion P xs
within_each P xs ys h all =
    of_each_member P xs (λ t among. of_member P ys t all (stands-in t ys (omega (arith, in-stands t xs among, h.weighs (λ (u : Triple). cond (eq_by_cmp triple_cmp t u) 1 0)))))

pub come_fit : (version : MappingVersion) (x : EntityId) (rev : ℕ) (old new gone come : Entity) → EntityChanges old new gone come → IsSmall (AnEntity new)
    → AllByRecursion HasFitAndShortTerms (counted_kept version x rev (counts_of new) come)
come_fit version x rev old new gone come h small =
    within_each HasFitAndShortTerms (counted_kept version x rev (counts_of new) come) (kept_list version x rev new)
    (part_within version x rev come new (come_part old new gone come h)) (direct_list_fit version x rev (AnEntity new) small)
