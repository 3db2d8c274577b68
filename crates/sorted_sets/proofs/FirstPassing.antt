-- The first element that passes a test: what a filter has of it, and what is left when it is taken out.
use Rattle.std.proofs.Common.{◌≡◌, ◌<◌, Bool, true, false, not, cond, ◌||◌, List, [], ◌∷◌, None, Some, Ordering, Less, Equal, Greater, filter, find, unwrap_or, is_some, is_eq, refl, sym, ◌∙◌, ap, true≢false, length, arith}
use Rattle.std.specs.Set.{remove_key}
use Rattle.std.specs.Cmp.{IsTotalOrder}
use Rattle.std.proofs.lemmas.Cmp.{tied_itself}
use Rattle.std.specs.Ordering.{eq_by_cmp}
use Rattle.sorted_sets.specs.Rising.{has, Above, IsRising}
use Rattle.sorted_sets.proofs.Bools.{or_false, or_true}
use Rattle.sorted_sets.proofs.Rising.{has-above, has-tied_above}

module _ {K : Type 0} (p : K → Bool) where
  some_is_none : {G : Type 0} (x : K) → Some x ≡ None → G
  some_is_none x e = absurd (true≢false (ap is_some e))

  -- where none passes, a filter keeps nothing
  pub filter-none : (xs : List K) → find p xs ≡ None → filter p xs ≡ []
  filter-none [] e = refl
  filter-none (x ∷ xs) e =
      elim (p x) as (λ b. cond b (Some x) (find p xs) ≡ None → cond b (x ∷ filter p xs) (filter p xs) ≡ []) [
        | true ↦ λ e. some_is_none x e
        | false ↦ λ e. filter-none xs e
      ] e

  -- and the others are all
  pub filter-all_others : (xs : List K) → find p xs ≡ None → filter (λ x. not (p x)) xs ≡ xs
  filter-all_others [] e = refl
  filter-all_others (x ∷ xs) e =
      elim (p x) as (λ b. cond b (Some x) (find p xs) ≡ None → cond (not b) (x ∷ filter (λ x. not (p x)) xs) (filter (λ x. not (p x)) xs) ≡ x ∷ xs) [
        | true ↦ λ e. some_is_none x e
        | false ↦ λ e. ap (λ l. x ∷ l) (filter-all_others xs e)
      ] e

  -- the first that passes is the first of those that pass
  pub filter-first : (xs : List K) (x : K) → find p xs ≡ Some x → filter p xs ≡ x ∷ filter p (remove_key p xs)
  filter-first [] x e = some_is_none x (sym e)
  filter-first (y ∷ ys) x e =
      elim (p y) as (λ b. p y ≡ b → cond b (Some y) (find p ys) ≡ Some x → cond b (y ∷ filter p ys) (filter p ys) ≡ x ∷ filter p (cond b ys (y ∷ remove_key p ys))) [
        | true ↦ λ _ e. ap (λ o. unwrap_or o x ∷ filter p ys) e
        | false ↦ λ py e. filter-first ys x e ∙ ap (λ l. x ∷ l) (sym (ap (λ b. cond b (y ∷ filter p (remove_key p ys)) (filter p (remove_key p ys))) py))
      ] refl e

  -- without it, those that don't pass are the same
  pub filter-others : (xs : List K) → filter (λ x. not (p x)) (remove_key p xs) ≡ filter (λ x. not (p x)) xs
  filter-others [] = refl
  filter-others (y ∷ ys) =
      elim (p y) as (λ b. p y ≡ b → filter (λ x. not (p x)) (cond b ys (y ∷ remove_key p ys)) ≡ cond (not b) (y ∷ filter (λ x. not (p x)) ys) (filter (λ x. not (p x)) ys)) [
        | true ↦ λ _. refl
        | false ↦ λ py. ap (λ b. cond (not b) (y ∷ filter (λ x. not (p x)) (remove_key p ys)) (filter (λ x. not (p x)) (remove_key p ys))) py ∙ ap (λ l. y ∷ l) (filter-others ys)
      ] refl

  -- and it is shorter
  pub shorter_without : (x : K) (xs : List K) → find p xs ≡ Some x → length (remove_key p xs) < length xs
  shorter_without x [] e = some_is_none x (sym e)
  shorter_without x (y ∷ ys) e =
      elim (p y) as (λ b. cond b (Some y) (find p ys) ≡ Some x → length (cond b ys (y ∷ remove_key p ys)) < length (y ∷ ys)) [
        | true ↦ λ _. omega arith
        | false ↦ λ e. omega (arith, shorter_without x ys e)
      ] e

  module _ (R : K → K → Ordering) where
    -- what is left was there
    pub has-remove_key : (q : K) (xs : List K) → has R q (remove_key p xs) ≡ true → has R q xs ≡ true
    has-remove_key q [] h = h
    has-remove_key q (y ∷ ys) h =
        elim (p y) as (λ b. has R q (cond b ys (y ∷ remove_key p ys)) ≡ true → (eq_by_cmp R q y || has R q ys) ≡ true) [
          | true ↦ λ h. or_true (eq_by_cmp R q y) _ h
          | false ↦ λ h. elim (eq_by_cmp R q y) as (λ a. (a || has R q (remove_key p ys)) ≡ true → (a || has R q ys) ≡ true) [ true ↦ λ _. refl | false ↦ has-remove_key q ys ] h
        ] h

    Above-remove_key : (k : K) (xs : List K) → Above R k xs → Above R k (remove_key p xs)
    Above-remove_key k [] h = tt
    Above-remove_key k (x ∷ xs) h =
        elim (p x) as (λ b. Above R k (cond b xs (x ∷ remove_key p xs))) [
          | true ↦ h.1
          | false ↦ (h.0, Above-remove_key k xs h.1)
        ]

    pub IsRising-remove_key : (xs : List K) → IsRising R xs → IsRising R (remove_key p xs)
    IsRising-remove_key [] h = tt
    IsRising-remove_key (x ∷ xs) h =
        elim (p x) as (λ b. IsRising R (cond b xs (x ∷ remove_key p xs))) [
          | true ↦ h.1
          | false ↦ (Above-remove_key x xs h.0, IsRising-remove_key xs h.1)
        ]

  -- the first that passes is there
  pub has-found : {R : K → K → Ordering} → IsTotalOrder R → (x : K) (xs : List K) → find p xs ≡ Some x → has R x xs ≡ true
  has-found o x [] e = some_is_none x (sym e)
  has-found {R} o x (y ∷ ys) e =
      elim (p y) as (λ b. cond b (Some y) (find p ys) ≡ Some x → (eq_by_cmp R x y || has R x ys) ≡ true) [
        | true ↦ λ e. ap (λ z. eq_by_cmp R x z || has R x ys) (ap (λ o. unwrap_or o x) e) ∙ ap (λ r. is_eq r || has R x ys) (tied_itself o x)
        | false ↦ λ e. or_true (eq_by_cmp R x y) _ (has-found o x ys e)
      ] e

  -- taken out of a rising list, it is there no more
  pub has-taken_out : {R : K → K → Ordering} → IsTotalOrder R → (x : K) (xs : List K) → IsRising R xs → find p xs ≡ Some x → has R x (remove_key p xs) ≡ false
  has-taken_out o x [] rising e = some_is_none x (sym e)
  has-taken_out {R} o x (y ∷ ys) rising e =
      elim (p y) as (λ b. cond b (Some y) (find p ys) ≡ Some x → has R x (cond b ys (y ∷ remove_key p ys)) ≡ false) [
        | true ↦ λ e. ap (λ z. has R z ys) (ap (λ o. unwrap_or o y) (sym e)) ∙ has-above R y ys rising.0
        | false ↦ λ e. or_false (eq_by_cmp R x y) _ (above o x y ys rising.0 (has-found o x ys e)) (has-taken_out o x ys rising.1 e)
      ] e
    where
      above : {R : K → K → Ordering} → IsTotalOrder R → (x y : K) (ys : List K) → Above R y ys → has R x ys ≡ true → eq_by_cmp R x y ≡ false
      above {R} o x y ys h there =
          elim (R x y) as (λ r. R x y ≡ r → is_eq r ≡ false) [
            | Less ↦ λ _. refl
            | Equal ↦ λ tie. absurd (true≢false (sym there ∙ has-tied_above o x y ys tie h))
            | Greater ↦ λ _. refl
          ] refl
