-- What holds of each element of a list holds of each member, and the other way round.
use Rattle.std.proofs.Common.{List, [], ◌∷◌, refl, sym, subst, inl, inr}
use Rattle.std.specs.List.{AllByRecursion}
use Rattle.sorted_sets.specs.Rising.{In}

module _ {A : Type 0} (P : A → Type 0) where
  pub of_member : (xs : List A) (a : A) → AllByRecursion P xs → In a xs → P a
  of_member [] a all there = absurd there
  of_member (x ∷ xs) a all (inl same) = subst P (sym same) all.0
  of_member (x ∷ xs) a all (inr there) = of_member xs a all.1 there

  pub of_each_member : (xs : List A) → ((a : A) → In a xs → P a) → AllByRecursion P xs
  of_each_member [] each = tt
  of_each_member (x ∷ xs) each = (each x (inl refl), of_each_member xs (λ a there. each a (inr there)))
