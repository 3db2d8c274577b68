-- What stands in lists, and in what is gathered over them.
use Rattle.std.proofs.Common.{◌≡◌, ◌⊎◌, refl, sym, subst, ◌∙◌, ap, inl, inr, ⊎_elim, Bool, true, false, cond, List, [], ◌∷◌, ◌++◌, filter}
use Rattle.std.specs.List.{flat_map}
use Rattle.sorted_sets.specs.Rising.{In}

module _ {A : Type 0} where
  pub in_front : (a : A) (xs ys : List A) → In a xs → In a (xs ++ ys)
  in_front a [] ys there = absurd there
  in_front a (x ∷ xs) ys there = ⊎_elim (λ here. inl here) (λ later. inr (in_front a xs ys later)) there

  pub in_rest : (a : A) (xs ys : List A) → In a ys → In a (xs ++ ys)
  in_rest a [] ys there = there
  in_rest a (x ∷ xs) ys there = inr (in_rest a xs ys there)

  pub in_either : (a : A) (xs ys : List A) → In a (xs ++ ys) → In a xs ⊎ In a ys
  in_either a [] ys there = inr there
  in_either a (x ∷ xs) ys there =
      ⊎_elim (λ here. inl (inl here)) (λ later. ⊎_elim (λ first. inl (inr first)) (λ second. inr second) (in_either a xs ys later)) there

  -- what passes a test is kept
  pub in_filter : (p : A → Bool) (a : A) (xs : List A) → p a ≡ true → In a xs → In a (filter p xs)
  in_filter p a [] passes there = absurd there
  in_filter p a (x ∷ xs) passes there =
      ⊎_elim (λ here. subst (λ b. In a (cond b (x ∷ filter p xs) (filter p xs))) (sym (ap p (sym here) ∙ passes)) (inl here))
      (λ later. by (p x) (in_filter p a xs passes later)) there
    where
      by : (b : Bool) → In a (filter p xs) → In a (cond b (x ∷ filter p xs) (filter p xs))
      by true later = inr later
      by false later = later

module _ {A B : Type 0} (f : A → List B) where
  -- what one element gives is among what all give
  pub gathered : (a : A) (b : B) (xs : List A) → In a xs → In b (f a) → In b (flat_map f xs)
  gathered a b [] there gives = absurd there
  gathered a b (x ∷ xs) there gives =
      ⊎_elim (λ here. in_front b (f x) (flat_map f xs) (subst (λ y. In b (f y)) here gives)) (λ later. in_rest b (f x) (flat_map f xs) (gathered a b xs later gives)) there

  -- an element that gives this
  pub record Giver (b : B) (xs : List A) : Type 0 where
    pub giver : A
    pub there : In giver xs
    pub gives : In b (f giver)

  -- what all give, one of them gives
  pub giver_of : (b : B) (xs : List A) → In b (flat_map f xs) → Giver b xs
  giver_of b [] there = absurd there
  giver_of b (x ∷ xs) there =
      ⊎_elim (λ here. record { giver = x; there = inl refl; gives = here })
      (λ later. let g = giver_of b xs later in record { giver = g.giver; there = inr g.there; gives = g.gives })
      (in_either b (f x) (flat_map f xs) there)
