-- A set may be sorted before a `flat_map` over it as well as after.
use Rattle.std.proofs.Common.{◌≡◌, Bool, ◌||◌, List, [], ◌∷◌, Ordering, refl, sym, ◌∙◌, ap}
use Rattle.std.specs.Cmp.{IsTotalOrder}
use Rattle.std.specs.FinMap.{IsAntisymmetric}
use Rattle.std.specs.List.{flat_map, list_any}
use Rattle.std.specs.Ordering.{eq_by_cmp}
use Rattle.std.proofs.lemmas.List.Folds.{list_any-append}
use Rattle.sorted_sets.specs.Rising.{has, sorted}
use Rattle.sorted_sets.proofs.Finding.{list_any-sorted}
use Rattle.sorted_sets.proofs.Rising.{sorted_same}

module _ {A B : Type 0} (f : A → List B) where
  pub list_any-flat_map : (p : B → Bool) (xs : List A) → list_any p (flat_map f xs) ≡ list_any (λ x. list_any p (f x)) xs
  list_any-flat_map p [] = refl
  list_any-flat_map p (x ∷ xs) = list_any-append p (f x) (flat_map f xs) ∙ ap (λ b. list_any p (f x) || b) (list_any-flat_map p xs)

module _ {A B : Type 0} {R : A → A → Ordering} {S : B → B → Ordering} (o : IsTotalOrder S) (a : IsAntisymmetric R) (b : IsAntisymmetric S) (f : A → List B) where
  found_alike : (q : B) (xs : List A) → has S q (flat_map f (sorted R xs)) ≡ has S q (flat_map f xs)
  found_alike q xs =
      list_any-flat_map f (eq_by_cmp S q) (sorted R xs)
      ∙ list_any-sorted R a (λ x. list_any (eq_by_cmp S q) (f x)) xs
      ∙ sym (list_any-flat_map f (eq_by_cmp S q) xs)

  -- the set of what a function gives for each of a set's elements is that for each of the list's
  pub sorted-flat_map : (xs : List A) → sorted S (flat_map f (sorted R xs)) ≡ sorted S (flat_map f xs)
  sorted-flat_map xs = sorted_same o b _ _ (λ q. found_alike q xs)
