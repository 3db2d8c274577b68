-- Filters of sets and of rising lists, and a rising list in two parts.
use Rattle.std.proofs.Common.{◌≡◌, Bool, true, false, not, cond, ◌&&◌, ◌||◌, List, [], ◌∷◌, ◌++◌, Ordering, Less, Equal, is_eq, filter, refl, sym, ◌∙◌, ap}
use Rattle.std.specs.FinMap.{IsAntisymmetric}
use Rattle.std.specs.Cmp.{IsTotalOrder}
use Rattle.std.specs.Ordering.{eq_by_cmp}
use Rattle.sorted_sets.specs.Rising.{sorted, has, Above, IsRising, difference}
use Rattle.sorted_sets.proofs.Bools.{clash, equal, and_none, either_way}
use Rattle.sorted_sets.proofs.Rising.{has-append, has-sorted, IsRising-sorted, same_rising}

module _ {K : Type 0} where
  -- a filtered set has what the set has and the filter passes, where the filter treats equal elements alike
  pub has-filter_alike : (R : K → K → Ordering) (p : K → Bool) → ((x y : K) → R x y ≡ Equal → p x ≡ p y) → (q : K) (xs : List K) → has R q (filter p xs) ≡ (p q && has R q xs)
  has-filter_alike R p alike q [] = sym (and_none (p q))
  has-filter_alike R p alike q (x ∷ xs) =
      elim (p x) as (λ a. p x ≡ a → has R q (cond a (x ∷ filter p xs) (filter p xs)) ≡ (p q && (eq_by_cmp R q x || has R q xs))) [
        | true ↦ λ e. ap (λ b. eq_by_cmp R q x || b) (has-filter_alike R p alike q xs) ∙ kept (p q) (eq_by_cmp R q x) (has R q xs) (λ t. alike q x (equal _ t) ∙ e)
        | false ↦ λ e. has-filter_alike R p alike q xs ∙ left_out (p q) (eq_by_cmp R q x) (has R q xs) (λ t. alike q x (equal _ t) ∙ e)
      ] refl
    where
      kept : (a b c : Bool) → (b ≡ true → a ≡ true) → (b || (a && c)) ≡ (a && (b || c))
      kept true b c h = refl
      kept false true c h = clash (h refl) refl
      kept false false c h = refl

      left_out : (a b c : Bool) → (b ≡ true → a ≡ false) → (a && c) ≡ (a && (b || c))
      left_out true true c h = clash refl (h refl)
      left_out true false c h = refl
      left_out false b c h = refl

  -- the same, where only equal elements tie
  pub has-filter : (R : K → K → Ordering) → IsAntisymmetric R → (p : K → Bool) (q : K) (xs : List K) → has R q (filter p xs) ≡ (p q && has R q xs)
  has-filter R same p q xs = has-filter_alike R p (λ x y e. ap p (same x y e)) q xs

  -- elements that tie are in the same sets
  pub has_tied : {R : K → K → Ordering} → IsTotalOrder R → (x y : K) → R x y ≡ Equal → (zs : List K) → has R x zs ≡ has R y zs
  has_tied o x y e [] = refl
  has_tied {R} o x y e (z ∷ zs) = ap (λ r. is_eq r || has R x zs) (o.congr x y z e) ∙ ap (λ b. eq_by_cmp R y z || b) (has_tied o x y e zs)

  -- a difference has what the first set has and the second lacks
  pub has-difference : {R : K → K → Ordering} → IsTotalOrder R → (q : K) (xs ys : List K) → has R q (difference R xs ys) ≡ (not (has R q ys) && has R q xs)
  has-difference {R} o q xs ys = has-filter_alike R (λ x. not (has R x ys)) (λ x y e. ap not (has_tied o x y e ys)) q xs

  Above-filter : (R : K → K → Ordering) (p : K → Bool) (k : K) (xs : List K) → Above R k xs → Above R k (filter p xs)
  Above-filter R p k [] h = tt
  Above-filter R p k (x ∷ xs) h =
      elim (p x) as (λ a. Above R k (cond a (x ∷ filter p xs) (filter p xs))) [
        | true ↦ (h.0, Above-filter R p k xs h.1)
        | false ↦ Above-filter R p k xs h.1
      ]

  pub IsRising-filter : (R : K → K → Ordering) (p : K → Bool) (xs : List K) → IsRising R xs → IsRising R (filter p xs)
  IsRising-filter R p [] h = tt
  IsRising-filter R p (x ∷ xs) h =
      elim (p x) as (λ a. IsRising R (cond a (x ∷ filter p xs) (filter p xs))) [
        | true ↦ (Above-filter R p x xs h.0, IsRising-filter R p xs h.1)
        | false ↦ IsRising-filter R p xs h.1
      ]

  pub Above-append : (R : K → K → Ordering) (k : K) (xs ys : List K) → Above R k xs → Above R k ys → Above R k (xs ++ ys)
  Above-append R k [] ys hx hy = hy
  Above-append R k (x ∷ xs) ys hx hy = (hx.0, Above-append R k xs ys hx.1 hy)

  -- each element of the first list is below each of the second
  abbrev pub AllBelow : (R : K → K → Ordering) → List K → List K → Type 0
  AllBelow R [] ys = Unit {0}
  AllBelow R (x ∷ xs) ys = Above R x ys × AllBelow R xs ys

  pub IsRising-append : (R : K → K → Ordering) (xs ys : List K) → IsRising R xs → IsRising R ys → AllBelow R xs ys → IsRising R (xs ++ ys)
  IsRising-append R [] ys hx hy b = hy
  IsRising-append R (x ∷ xs) ys hx hy b = (Above-append R x xs ys hx.0 b.0, IsRising-append R xs ys hx.1 hy b.1)

  -- a filter of the sorted list is the sorted list of the filter
  pub sorted-filter : {R : K → K → Ordering} → IsTotalOrder R → IsAntisymmetric R → (p : K → Bool) (xs : List K) → sorted R (filter p xs) ≡ filter p (sorted R xs)
  sorted-filter {R} o same p xs = same_rising o same _ _ (IsRising-sorted o (filter p xs)) (IsRising-filter R p _ (IsRising-sorted o xs))
      (λ q. has-sorted o q (filter p xs) ∙ has-filter R same p q xs ∙ ap (λ b. p q && b) (sym (has-sorted o q xs)) ∙ sym (has-filter R same p q (sorted R xs)))

  passes_below : (R : K → K → Ordering) (p : K → Bool) → ((x y : K) → p x ≡ true → p y ≡ false → R x y ≡ Less) → (x : K) → p x ≡ true → (ys : List K) → Above R x (filter (λ y. not (p y)) ys)
  passes_below R p below x px [] = tt
  passes_below R p below x px (y ∷ ys) =
      elim (p y) as (λ a. p y ≡ a → Above R x (cond (not a) (y ∷ filter (λ y. not (p y)) ys) (filter (λ y. not (p y)) ys))) [
        | true ↦ λ e. passes_below R p below x px ys
        | false ↦ λ e. (below x y px e, passes_below R p below x px ys)
      ] refl

  parts_below : (R : K → K → Ordering) (p : K → Bool) → ((x y : K) → p x ≡ true → p y ≡ false → R x y ≡ Less) → (xs ys : List K) → AllBelow R (filter p xs) (filter (λ y. not (p y)) ys)
  parts_below R p below [] ys = tt
  parts_below R p below (x ∷ xs) ys =
      elim (p x) as (λ a. p x ≡ a → AllBelow R (cond a (x ∷ filter p xs) (filter p xs)) (filter (λ y. not (p y)) ys)) [
        | true ↦ λ e. (passes_below R p below x e ys, parts_below R p below xs ys)
        | false ↦ λ e. parts_below R p below xs ys
      ] refl

  -- a set in two parts, the one below the other, is sorted part by part
  pub sorted_parts : {R : K → K → Ordering} → IsTotalOrder R → IsAntisymmetric R → (p : K → Bool) → ((x y : K) → p x ≡ true → p y ≡ false → R x y ≡ Less) → (xs : List K) → sorted R xs ≡ sorted R (filter p xs) ++ sorted R (filter (λ x. not (p x)) xs)
  sorted_parts {R} o same p below xs =
      let low = sorted-filter o same p xs in
      let high = sorted-filter o same (λ x. not (p x)) xs in
      let s = sorted R xs in
      let rising = IsRising-sorted o xs in
      same_rising o same s (filter p s ++ filter (λ x. not (p x)) s) rising
      (IsRising-append R _ _ (IsRising-filter R p s rising) (IsRising-filter R (λ x. not (p x)) s rising) (parts_below R p below s s))
      (λ q. sym (has-append R q (filter p s) (filter (λ x. not (p x)) s) ∙ ap (λ b. b || has R q (filter (λ x. not (p x)) s)) (has-filter R same p q s) ∙ ap (λ b. (p q && has R q s) || b) (has-filter R same (λ x. not (p x)) q s) ∙ either_way (p q) (has R q s)))
      ∙ ap (λ l. l ++ filter (λ x. not (p x)) s) (sym low) ∙ ap (λ l. sorted R (filter p xs) ++ l) (sym high)

module _ {K : Type 0} where
  -- after a weaker filter, a filter keeps what it keeps alone
  pub filter_stronger : (p q : K → Bool) → ((x : K) → p x ≡ true → q x ≡ true) → (xs : List K) → filter p (filter q xs) ≡ filter p xs
  filter_stronger p q h [] = refl
  filter_stronger p q h (x ∷ xs) =
      elim (p x) as (λ a. p x ≡ a → filter p (cond (q x) (x ∷ filter q xs) (filter q xs)) ≡ cond a (x ∷ filter p xs) (filter p xs)) [
        | true ↦ λ e. ap (λ b. filter p (cond b (x ∷ filter q xs) (filter q xs))) (h x e) ∙ ap (λ b. cond b (x ∷ filter p (filter q xs)) (filter p (filter q xs))) e ∙ ap (λ l. x ∷ l) (filter_stronger p q h xs)
        | false ↦ λ e.
            elim (q x) as (λ b. filter p (cond b (x ∷ filter q xs) (filter q xs)) ≡ filter p xs) [
              | true ↦ ap (λ b. cond b (x ∷ filter p (filter q xs)) (filter p (filter q xs))) e ∙ filter_stronger p q h xs
              | false ↦ filter_stronger p q h xs
            ]
      ] refl

  -- a filter that each element passes keeps the list
  pub filter_all : (p : K → Bool) (xs : List K) → ((x : K) → p x ≡ true) → filter p xs ≡ xs
  filter_all p [] h = refl
  filter_all p (x ∷ xs) h = ap (λ b. cond b (x ∷ filter p xs) (filter p xs)) (h x) ∙ ap (λ l. x ∷ l) (filter_all p xs h)

  -- two filters in either order keep the same
  pub filter_swap : (p q : K → Bool) (xs : List K) → filter p (filter q xs) ≡ filter q (filter p xs)
  filter_swap p q [] = refl
  filter_swap p q (x ∷ xs) =
      elim (p x) as (λ a. p x ≡ a → filter p (cond (q x) (x ∷ filter q xs) (filter q xs)) ≡ filter q (cond a (x ∷ filter p xs) (filter p xs))) [
        | true ↦ λ e.
            elim (q x) as (λ b. filter p (cond b (x ∷ filter q xs) (filter q xs)) ≡ cond b (x ∷ filter q (filter p xs)) (filter q (filter p xs))) [
              | true ↦ ap (λ a. cond a (x ∷ filter p (filter q xs)) (filter p (filter q xs))) e ∙ ap (λ l. x ∷ l) (filter_swap p q xs)
              | false ↦ filter_swap p q xs
            ]
        | false ↦ λ e.
            elim (q x) as (λ b. filter p (cond b (x ∷ filter q xs) (filter q xs)) ≡ filter q (filter p xs)) [
              | true ↦ ap (λ a. cond a (x ∷ filter p (filter q xs)) (filter p (filter q xs))) e ∙ filter_swap p q xs
              | false ↦ filter_swap p q xs
            ]
      ] refl
