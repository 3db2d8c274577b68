-- Elements that are ordered as what they stand for.
use Rattle.std.proofs.Common.{◌≡◌, ◌+◌, ◌<◌, true, false, not, cond, ◌||◌, List, [], ◌∷◌, length, get_or, Ordering, is_eq, is_lt, refl, sym, ◌∙◌, ap, arith}
use Rattle.std.specs.Prelude.{map}
use Rattle.std.specs.{Cmp.IsTotalOrder, FinMap.IsAntisymmetric, List.All, List.dedup, List.dedup_from, Ordering.eq_by_cmp}
use Rattle.std.specs.List.Sorted.{IsPermutation, IsSorted}
use Rattle.std.proofs.{lemmas.List.get_or-map, lemmas.List.length-map, lemmas.List.Elements.All-tail}
use Rattle.std.proofs.lemmas.List.Sorted.{All-permutation, IsPermutation-map}
use Rattle.sorted_sets.specs.Rising.{has, Above, IsRising, difference, sorted}
use Rattle.sorted_sets.proofs.Sorting.{deduped}

module _ {X K : Type 0} (S : X → X → Ordering) (R : K → K → Ordering) (f : X → K) (P : X → Type 0) (alike : (a b : X) → P a → P b → S a b ≡ R (f a) (f b)) where
  above_lifted : (x : X) → P x → (xs : List X) → All P xs → Above S x xs → Above R (f x) (map f xs)
  above_lifted x px [] all h = tt
  above_lifted x px (y ∷ ys) all h =
      let py : P y = all 0 y (omega arith) in
      (sym (alike x y px py) ∙ h.0, above_lifted x px ys (All-tail P y ys all) h.1)

  -- what they stand for rises as they do
  pub rising_lifted : (xs : List X) → All P xs → IsRising S xs → IsRising R (map f xs)
  rising_lifted [] all h = tt
  rising_lifted (x ∷ xs) all h =
      let px : P x = all 0 x (omega arith) in
      let rest = All-tail P x xs all in
      (above_lifted x px xs rest h.0, rising_lifted xs rest h.1)

  pub has_lifted : (q : X) → P q → (xs : List X) → All P xs → has S q xs ≡ has R (f q) (map f xs)
  has_lifted q pq [] all = refl
  has_lifted q pq (x ∷ xs) all =
      let px : P x = all 0 x (omega arith) in
      let here = ap is_eq (alike q x pq px) in
      let rest = has_lifted q pq xs (All-tail P x xs all) in
      ap (λ b. b || has S q xs) here ∙ ap (λ b. eq_by_cmp R (f q) (f x) || b) rest

  -- and has the differences that they have
  pub difference_lifted : (xs ys : List X) → All P xs → All P ys → map f (difference S xs ys) ≡ difference R (map f xs) (map f ys)
  difference_lifted [] ys all_xs all_ys = refl
  difference_lifted (x ∷ xs) ys all_xs all_ys =
      let px : P x = all_xs 0 x (omega arith) in
      let rest = difference_lifted xs ys (All-tail P x xs all_xs) all_ys in
      let there = has_lifted x px ys all_ys in
      elim (has S x ys) as (λ b. has S x ys ≡ b → map f (cond (not b) (x ∷ difference S xs ys) (difference S xs ys)) ≡ cond (not (has R (f x) (map f ys))) (f x ∷ difference R (map f xs) (map f ys)) (difference R (map f xs) (map f ys))) [
        | true ↦ λ e. rest ∙ ap (λ b. cond (not b) (f x ∷ difference R (map f xs) (map f ys)) (difference R (map f xs) (map f ys))) (sym e ∙ there)
        | false ↦ λ e. ap (λ l. f x ∷ l) rest ∙ ap (λ b. cond (not b) (f x ∷ difference R (map f xs) (map f ys)) (difference R (map f xs) (map f ys))) (sym e ∙ there)
      ] refl

  dedup_from_lifted : (k : X) → P k → (xs : List X) → All P xs → map f (dedup_from (eq_by_cmp S) k xs) ≡ dedup_from (eq_by_cmp R) (f k) (map f xs)
  dedup_from_lifted k pk [] all = refl
  dedup_from_lifted k pk (x ∷ xs) all =
      let px : P x = all 0 x (omega arith) in
      let tail = All-tail P x xs all in
      let here = ap is_eq (alike x k px pk) in
      elim (eq_by_cmp S x k) as (λ b. eq_by_cmp S x k ≡ b → map f (cond b (dedup_from (eq_by_cmp S) k xs) (k ∷ dedup_from (eq_by_cmp S) x xs)) ≡ cond (eq_by_cmp R (f x) (f k)) (dedup_from (eq_by_cmp R) (f k) (map f xs)) (f k ∷ dedup_from (eq_by_cmp R) (f x) (map f xs))) [
        | true ↦ λ e. dedup_from_lifted k pk xs tail ∙ ap (λ b. cond b (dedup_from (eq_by_cmp R) (f k) (map f xs)) (f k ∷ dedup_from (eq_by_cmp R) (f x) (map f xs))) (sym e ∙ here)
        | false ↦ λ e. ap (λ l. f k ∷ l) (dedup_from_lifted x px xs tail) ∙ ap (λ b. cond b (dedup_from (eq_by_cmp R) (f k) (map f xs)) (f k ∷ dedup_from (eq_by_cmp R) (f x) (map f xs))) (sym e ∙ here)
      ] refl

  dedup_lifted : (xs : List X) → All P xs → map f (dedup (eq_by_cmp S) xs) ≡ dedup (eq_by_cmp R) (map f xs)
  dedup_lifted [] all = refl
  dedup_lifted (x ∷ xs) all = dedup_from_lifted x (all 0 x (omega arith)) xs (All-tail P x xs all)

  sorted_lifted : (xs : List X) → All P xs → IsSorted S xs → IsSorted R (map f xs)
  sorted_lifted [] all s = λ k d low high. absurd (omega (arith, high))
  sorted_lifted (x ∷ xs) all s = λ k d low high.
      let ks = x ∷ xs in
      let next : k + 1 < length ks = omega (arith, high, length-map ks f) in
      let here : k < length ks = omega (arith, next) in
      let after = get_or-map f ks (k + 1) x d next in
      let before = get_or-map f ks k x d here in
      (λ i. is_lt (R (after i) (before i)))
      ∙ ap is_lt (sym (alike (get_or ks (k + 1) x) (get_or ks k x) (all (k + 1) x next) (all k x here)))
      ∙ s k x low next

  -- a sort and then `dedup` give what stands for the rising list
  pub deduped_lifted : IsTotalOrder R → IsAntisymmetric R → (xs ys : List X) → IsPermutation xs ys → All P xs → IsSorted S ys → map f (dedup (eq_by_cmp S) ys) ≡ sorted R (map f xs)
  deduped_lifted o a xs ys p all s =
      let all_ys = All-permutation P xs ys p all in
      dedup_lifted ys all_ys ∙ deduped o a (map f xs) (map f ys) (IsPermutation-map f xs ys p) (sorted_lifted ys all_ys s)
