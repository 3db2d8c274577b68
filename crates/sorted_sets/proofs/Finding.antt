-- Whether some element passes a test: over sorted lists, filters and tests that agree.
use Rattle.std.proofs.Common.{◌≡◌, Bool, true, false, cond, ◌&&◌, ◌||◌, List, [], ◌∷◌, Ordering, Less, Equal, Greater, filter, refl, sym, ◌∙◌, ap}
use Rattle.std.specs.BTreeSet.{insert_key}
use Rattle.std.specs.FinMap.{IsAntisymmetric}
use Rattle.std.specs.List.{list_any}
use Rattle.std.specs.Ordering.{match_ordering}
use Rattle.sorted_sets.specs.Rising.{sorted}
use Rattle.sorted_sets.proofs.Bools.{or_swap, or_true}

module _ {K : Type 0} where
  pub list_any-insert_key : (R : K → K → Ordering) → IsAntisymmetric R → (p : K → Bool) (k : K) (xs : List K) → list_any p (insert_key R xs k) ≡ (p k || list_any p xs)
  list_any-insert_key R same p k [] = refl
  list_any-insert_key R same p k (x ∷ xs) =
      elim (R k x) as (λ r. R k x ≡ r → list_any p (match_ordering r (k ∷ x ∷ xs) (x ∷ xs) (x ∷ insert_key R xs k)) ≡ (p k || (p x || list_any p xs))) [
        | Less ↦ λ e. refl
        | Equal ↦ λ e. twice (p k) (p x) (list_any p xs) (ap p (same k x e))
        | Greater ↦ λ e. ap (λ b. p x || b) (list_any-insert_key R same p k xs) ∙ or_swap (p x) (p k) (list_any p xs)
      ] refl
    where
      twice : (a b c : Bool) → a ≡ b → (b || c) ≡ (a || (b || c))
      twice true b c e = ap (λ t. t || c) (sym e)
      twice false b c e = refl

  pub list_any-sorted : (R : K → K → Ordering) → IsAntisymmetric R → (p : K → Bool) (xs : List K) → list_any p (sorted R xs) ≡ list_any p xs
  list_any-sorted R same p [] = refl
  list_any-sorted R same p (x ∷ xs) = list_any-insert_key R same p x (sorted R xs) ∙ ap (λ b. p x || b) (list_any-sorted R same p xs)

  pub list_any-filter : (p q : K → Bool) (xs : List K) → list_any p (filter q xs) ≡ list_any (λ x. q x && p x) xs
  list_any-filter p q [] = refl
  list_any-filter p q (x ∷ xs) =
      elim (q x) as (λ b. list_any p (cond b (x ∷ filter q xs) (filter q xs)) ≡ ((b && p x) || list_any (λ y. q y && p y) xs)) [
        | true ↦ ap (λ b. p x || b) (list_any-filter p q xs)
        | false ↦ list_any-filter p q xs
      ]

  -- tests that agree find alike
  pub list_any_agree : (p q : K → Bool) → ((x : K) → p x ≡ q x) → (xs : List K) → list_any p xs ≡ list_any q xs
  list_any_agree p q h [] = refl
  list_any_agree p q h (x ∷ xs) = ap (λ b. b || list_any p xs) (h x) ∙ ap (λ b. q x || b) (list_any_agree p q h xs)

  -- what passes a test passes a weaker one
  pub list_any_weaker : (p q : K → Bool) → ((x : K) → p x ≡ true → q x ≡ true) → (xs : List K) → list_any p xs ≡ true → list_any q xs ≡ true
  list_any_weaker p q h [] e = e
  list_any_weaker p q h (x ∷ xs) e =
      elim (p x) as (λ b. p x ≡ b → (b || list_any p xs) ≡ true → (q x || list_any q xs) ≡ true) [
        | true ↦ λ px _. ap (λ b. b || list_any q xs) (h x px)
        | false ↦ λ _ rest. or_true (q x) _ (list_any_weaker p q h xs rest)
      ] refl e

  -- a test that nothing passes
  pub list_any_never : (p : K → Bool) → ((x : K) → p x ≡ false) → (xs : List K) → list_any p xs ≡ false
  list_any_never p h [] = refl
  list_any_never p h (x ∷ xs) = ap (λ b. b || list_any p xs) (h x) ∙ list_any_never p h xs
