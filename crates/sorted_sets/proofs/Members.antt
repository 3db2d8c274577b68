-- Membership as a relation and as the test by a comparison, and that sorting keeps the members.
use Rattle.std.proofs.Common.{◌≡◌, true, false, ◌||◌, List, [], ◌∷◌, Ordering, refl, sym, ◌∙◌, subst, inl, inr}
use Rattle.std.specs.Prelude.{◌⊎◌, ◌↔◌}
use Rattle.std.specs.FinMap.{IsAntisymmetric}
use Rattle.std.specs.Cmp.{IsTotalOrder}
use Rattle.std.specs.Ordering.{eq_by_cmp}
use Rattle.sorted_sets.specs.Rising.{In, has, sorted}
use Rattle.sorted_sets.proofs.Bools.{equal, or_true}
use Rattle.sorted_sets.proofs.Rising.{has-sorted, has_itself}

-- a member passes the test
pub has-member : {K : Type 0} {R : K → K → Ordering} → IsTotalOrder R → (k : K) (xs : List K) → In k xs → has R k xs ≡ true
has-member o k [] h = absurd h
has-member {R = R} o k (x ∷ xs) (inl same) = subst (λ y. has R k (y ∷ xs) ≡ true) same (has_itself o k xs)
has-member {R = R} o k (x ∷ xs) (inr h) = or_true (eq_by_cmp R k x) (has R k xs) (has-member o k xs h)

-- what passes the test is a member, where what ties is equal
pub member-has : {K : Type 0} {R : K → K → Ordering} → IsAntisymmetric R → (k : K) (xs : List K) → has R k xs ≡ true → In k xs
member-has same k [] h = cc
member-has {R = R} same k (x ∷ xs) h =
    elim (eq_by_cmp R k x) as (λ b. eq_by_cmp R k x ≡ b → (b || has R k xs) ≡ true → (k ≡ x) ⊎ In k xs) [
      | true ↦ λ e _. inl (same k x (equal (R k x) e))
      | false ↦ λ _ rest. inr (member-has same k xs rest)
    ] refl h

-- a sorted list has exactly the members of the list
pub member-sorted : {K : Type 0} {R : K → K → Ordering} → IsTotalOrder R → IsAntisymmetric R → (k : K) (xs : List K) → In k (sorted R xs) ↔ In k xs
member-sorted {R = R} o same k xs = (
  (λ h. member-has same k xs (sym (has-sorted o k xs) ∙ has-member o k (sorted R xs) h)),
  (λ h. member-has same k (sorted R xs) (has-sorted o k xs ∙ has-member o k xs h)),
)
