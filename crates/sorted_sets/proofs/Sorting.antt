-- What a sort followed by `dedup` leaves, and what a binary search over a rising list answers.
use Rattle.std.proofs.Common.{◌≡◌, ℕ, ◌+◌, Bool, true, false, ◌||◌, List, [], ◌∷◌, length, Ordering, Less, Equal, Greater, is_eq, Ok, Err, Result, refl, sym, ◌∙◌, ap, cond, arith, is_ok, ⊎_elim}
use Rattle.std.specs.Cmp.{IsTotalOrder}
use Rattle.std.specs.FinMap.{IsAntisymmetric}
use Rattle.std.specs.List.{dedup, dedup_from, AllByRecursion}
use Rattle.std.specs.List.Sorted.{IsPermutation, IsSorted, IsStrictlySortedBy, IsSearchInRange, IsBinarySearchResult}
use Rattle.std.specs.Ordering.{eq_by_cmp, is_lt}
use Rattle.std.proofs.lemmas.Bool.{cases_lt}
use Rattle.std.proofs.lemmas.Cmp.{alike_right, tied_back}
use Rattle.std.proofs.lemmas.List.Elements.{All-from_get_or}
use Rattle.std.proofs.lemmas.List.Folds.{list_any_at, list_any_none}
use Rattle.std.proofs.lemmas.List.Kept.{IsStrictlySortedBy-dedup}
use Rattle.std.proofs.lemmas.List.Sorted.{list_any-IsPermutation, searchable_from_sorted}
use Rattle.std.proofs.lemmas.Map.Keys.{Less-from_sorted}
use Rattle.sorted_sets.specs.Rising.{sorted, has, Above, IsRising}
use Rattle.sorted_sets.proofs.Rising.{turned, has-sorted, IsRising-sorted, same_rising}

module _ {K : Type 0} (R : K → K → Ordering) where
  Above-from_all : (k : K) (xs : List K) → AllByRecursion (λ y. R k y ≡ Less) xs → Above R k xs
  Above-from_all k [] h = tt
  Above-from_all k (x ∷ xs) h = (h.0, Above-from_all k xs h.1)

  all_from_above : (k : K) (xs : List K) → Above R k xs → AllByRecursion (λ y. R k y ≡ Less) xs
  all_from_above k [] h = tt
  all_from_above k (x ∷ xs) h = (h.0, all_from_above k xs h.1)

  -- std's word for a list that rises strictly says the same
  pub IsRising-from_sorted : (xs : List K) → IsStrictlySortedBy R xs → IsRising R xs
  unfolding IsStrictlySortedBy
  IsRising-from_sorted [] h = tt
  IsRising-from_sorted (x ∷ xs) h = (Above-from_all x xs h.0, IsRising-from_sorted xs h.1)

  pub IsStrictlySortedBy-from_rising : (xs : List K) → IsRising R xs → IsStrictlySortedBy R xs
  unfolding IsStrictlySortedBy
  IsStrictlySortedBy-from_rising [] h = tt
  IsStrictlySortedBy-from_rising (x ∷ xs) h = (all_from_above x xs h.0, IsStrictlySortedBy-from_rising xs h.1)

module _ {K : Type 0} {R : K → K → Ordering} (o : IsTotalOrder R) where
  or_again : (a b c : Bool) → b ≡ a → (a || c) ≡ (a || (b || c))
  or_again true b c e = refl
  or_again false b c e = ap (λ t. t || c) (sym e)

  has-dedup_from : (q k : K) (xs : List K) → has R q (dedup_from (eq_by_cmp R) k xs) ≡ (eq_by_cmp R q k || has R q xs)
  has-dedup_from q k [] = refl
  has-dedup_from q k (x ∷ xs) =
      elim (R x k) as (λ r. R x k ≡ r → has R q (cond (is_eq r) (dedup_from (eq_by_cmp R) k xs) (k ∷ dedup_from (eq_by_cmp R) x xs)) ≡ (eq_by_cmp R q k || (eq_by_cmp R q x || has R q xs))) [
        | Less ↦ λ e. ap (λ b. eq_by_cmp R q k || b) (has-dedup_from q x xs)
        | Equal ↦ λ e. has-dedup_from q k xs ∙ or_again _ _ (has R q xs) (ap is_eq (alike_right o x k q e))
        | Greater ↦ λ e. ap (λ b. eq_by_cmp R q k || b) (has-dedup_from q x xs)
      ] refl

  -- `dedup` leaves the same elements
  pub has-dedup : (q : K) (xs : List K) → has R q (dedup (eq_by_cmp R) xs) ≡ has R q xs
  has-dedup q [] = refl
  has-dedup q (x ∷ xs) = has-dedup_from q x xs

  pub deduped_rising : (xs : List K) → IsSorted R xs → IsRising R (dedup (eq_by_cmp R) xs)
  deduped_rising xs s = IsRising-from_sorted R _ (IsStrictlySortedBy-dedup o (λ x y. refl) xs s)

  -- a sort and then `dedup` give the rising list of the elements
  pub deduped : IsAntisymmetric R → (xs ys : List K) → IsPermutation xs ys → IsSorted R ys → dedup (eq_by_cmp R) ys ≡ sorted R xs
  deduped a xs ys p s = same_rising o a _ _ (deduped_rising ys s) (IsRising-sorted o xs) (λ q. has-dedup q ys ∙ sym (list_any-IsPermutation (eq_by_cmp R q) xs ys p) ∙ sym (has-sorted o q xs))

  IsSorted-from_rising : (xs : List K) → IsRising R xs → IsSorted R xs
  IsSorted-from_rising xs h = λ k d low high. ap is_lt (turned o _ _ Less (Less-from_sorted R xs k (k + 1) d (IsStrictlySortedBy-from_rising R xs h) (omega arith) high))

  not_before : (x k : K) → R x k ≡ Less → eq_by_cmp R k x ≡ false
  not_before x k e = ap is_eq (turned o x k Less e)

  not_after : (x k : K) → R x k ≡ Greater → eq_by_cmp R k x ≡ false
  not_after x k e = ap is_eq (turned o x k Greater e)

  -- a binary search over a rising list finds what is there
  pub found : (xs : List K) (k : K) (r : Result ℕ ℕ) → IsRising R xs → IsSearchInRange r (length xs) → IsBinarySearchResult (λ y. R y k) xs r → is_ok r ≡ has R k xs
  found xs k (Ok i) h within at = sym (list_any_at (eq_by_cmp R k) xs i k within (ap is_eq (tied_back o _ k (at k))))
  found xs k (Err i) h within parts =
      let split = parts (searchable_from_sorted o (λ x. x) xs k (IsSorted-from_rising xs h)) in
      sym (list_any_none (eq_by_cmp R k) xs (All-from_get_or (λ x. eq_by_cmp R k x ≡ false) xs k (λ j l. ⊎_elim
      (λ before. not_before _ k (split.0 j k (omega arith) before))
      (λ after. not_after _ k (split.1 j k after l))
      (cases_lt j i))))
