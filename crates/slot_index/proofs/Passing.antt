-- How often a test passes in a list, after a change of the list.
use Rattle.std.proofs.Common.{◌≡◌, ◌+◌, ◌≤◌, Bool, true, false, cond, ◌&&◌, ◌||◌, List, [], ◌∷◌, length, Ordering, Less, Equal, Greater, is_eq, filter, count_by, nat_lt, refl, sym, ◌∙◌, ap, arith, zero-add, lt-ltb}
use Rattle.std.specs.Prelude.{map as mapped}
use Rattle.std.specs.Cmp.{IsTotalOrder}
use Rattle.std.specs.FinMap.{IsAntisymmetric}
use Rattle.std.specs.Ordering.{eq_by_cmp, match_ordering}
use Rattle.std.specs.BTreeSet.{insert_key}
use Rattle.std.specs.Set.{remove_key}
use Rattle.std.proofs.lemmas.Cmp.{tied_itself}
use Rattle.std.proofs.lemmas.List.Sums.{sum_by-cons}
pub use Rattle.sorted_sets.specs.Counting.{one_if}
use Rattle.sorted_sets.specs.Rising.{has}
use Rattle.sorted_sets.proofs.Bools.{clash, or_false_left, or_false_right}

module _ {K : Type 0} where
  pub count_by-cons : (p : K → Bool) (x : K) (xs : List K) → count_by p (x ∷ xs) ≡ one_if (p x) + count_by p xs
  count_by-cons p x xs = sum_by-cons (λ y. cond (p y) 1 0) x xs

  pub count-insert_key : (R : K → K → Ordering) (p : K → Bool) (k : K) (xs : List K) → has R k xs ≡ false → count_by p (insert_key R xs k) ≡ one_if (p k) + count_by p xs
  count-insert_key R p k [] h = count_by-cons p k []
  count-insert_key R p k (x ∷ xs) h =
      elim (R k x) as (λ r. R k x ≡ r → count_by p (match_ordering r (k ∷ x ∷ xs) (x ∷ xs) (x ∷ insert_key R xs k)) ≡ one_if (p k) + count_by p (x ∷ xs)) [
        | Less ↦ λ e. count_by-cons p k (x ∷ xs)
        | Equal ↦ λ e. clash (ap is_eq e) (or_false_left (eq_by_cmp R k x) (has R k xs) h)
        | Greater ↦ λ e. omega (arith, count_by-cons p x (insert_key R xs k), count_by-cons p x xs, count-insert_key R p k xs (or_false_right (eq_by_cmp R k x) (has R k xs) h))
      ] refl

  pub count-remove_key : (R : K → K → Ordering) → IsAntisymmetric R → (p : K → Bool) (k : K) (xs : List K) → has R k xs ≡ true → one_if (p k) + count_by p (remove_key (eq_by_cmp R k) xs) ≡ count_by p xs
  count-remove_key R same p k [] h = clash h refl
  count-remove_key R same p k (x ∷ xs) h =
      elim (R k x) as (λ r. R k x ≡ r → (is_eq r || has R k xs) ≡ true → one_if (p k) + count_by p (cond (is_eq r) xs (x ∷ remove_key (eq_by_cmp R k) xs)) ≡ count_by p (x ∷ xs)) [
        | Less ↦ λ e rest. omega (arith, count_by-cons p x (remove_key (eq_by_cmp R k) xs), count_by-cons p x xs, count-remove_key R same p k xs rest)
        | Equal ↦ λ e rest. ap (λ y. one_if (p y) + count_by p xs) (same k x e) ∙ sym (count_by-cons p x xs)
        | Greater ↦ λ e rest. omega (arith, count_by-cons p x (remove_key (eq_by_cmp R k) xs), count_by-cons p x xs, count-remove_key R same p k xs rest)
      ] refl h

  pub count-map : {J : Type 0} (f : J → K) (p : K → Bool) (xs : List J) → count_by p (mapped f xs) ≡ count_by (λ x. p (f x)) xs
  count-map f p [] = refl
  count-map f p (x ∷ xs) = count_by-cons p (f x) (mapped f xs) ∙ ap (λ n. one_if (p (f x)) + n) (count-map f p xs) ∙ sym (sum_by-cons (λ y. cond (p (f y)) 1 0) x xs)

  pub count-filter : (p q : K → Bool) (xs : List K) → count_by q (filter p xs) ≡ count_by (λ x. p x && q x) xs
  count-filter p q [] = refl
  count-filter p q (x ∷ xs) =
      elim (p x) as (λ b. count_by q (cond b (x ∷ filter p xs) (filter p xs)) ≡ one_if (b && q x) + count_by (λ y. p y && q y) xs) [
        | true ↦ count_by-cons q x (filter p xs) ∙ ap (λ n. one_if (q x) + n) (count-filter p q xs)
        | false ↦ count-filter p q xs ∙ sym (zero-add (count_by (λ y. p y && q y) xs))
      ]
      ∙ sym (count_by-cons (λ y. p y && q y) x xs)

  pub count-alike : (p q : K → Bool) (xs : List K) → ((x : K) → p x ≡ q x) → count_by p xs ≡ count_by q xs
  count-alike p q xs e = ap (λ t. count_by t xs) (λ i x. e x i)

  -- an element is there where it is counted
  pub has_counted : (R : K → K → Ordering) (k : K) (xs : List K) → has R k xs ≡ nat_lt 0 (count_by (eq_by_cmp R k) xs)
  has_counted R k [] = refl
  has_counted R k (x ∷ xs) =
      elim (eq_by_cmp R k x) as (λ b. (b || has R k xs) ≡ nat_lt 0 (one_if b + count_by (eq_by_cmp R k) xs)) [
        | true ↦ sym (lt-ltb 0 (1 + count_by (eq_by_cmp R k) xs) (omega arith))
        | false ↦ has_counted R k xs ∙ ap (nat_lt 0) (sym (zero-add (count_by (eq_by_cmp R k) xs)))
      ]
      ∙ ap (nat_lt 0) (sym (count_by-cons (eq_by_cmp R k) x xs))

  pub length_counted : (xs : List K) → length xs ≡ count_by (λ _. true) xs
  length_counted [] = refl
  length_counted (x ∷ xs) = omega (arith, count_by-cons (λ _. true) x xs, length_counted xs)

  pub length-insert_key : (R : K → K → Ordering) (k : K) (xs : List K) → length (insert_key R xs k) ≤ length xs + 1
  length-insert_key R k [] = omega arith
  length-insert_key R k (x ∷ xs) =
      elim (R k x) as (λ r. length (match_ordering r (k ∷ x ∷ xs) (x ∷ xs) (x ∷ insert_key R xs k)) ≤ length (x ∷ xs) + 1) [
        | Less ↦ omega arith
        | Equal ↦ omega arith
        | Greater ↦ let rest = length-insert_key R k xs in omega arith
      ]

  -- to take out what was put in undoes it
  pub remove-insert_key : {R : K → K → Ordering} → IsTotalOrder R → (k : K) (xs : List K) → has R k xs ≡ false → remove_key (eq_by_cmp R k) (insert_key R xs k) ≡ xs
  remove-insert_key {R} o k [] h = ap (λ r. cond (is_eq r) [] (k ∷ [])) (tied_itself o k)
  remove-insert_key {R} o k (x ∷ xs) h =
      elim (R k x) as (λ r. R k x ≡ r → remove_key (eq_by_cmp R k) (match_ordering r (k ∷ x ∷ xs) (x ∷ xs) (x ∷ insert_key R xs k)) ≡ x ∷ xs) [
        | Less ↦ λ e. ap (λ r. cond (is_eq r) (x ∷ xs) (k ∷ remove_key (eq_by_cmp R k) (x ∷ xs))) (tied_itself o k)
        | Equal ↦ λ e. clash (ap is_eq e) (or_false_left (eq_by_cmp R k x) (has R k xs) h)
        | Greater ↦ λ e.
            ap (λ r. cond (is_eq r) (insert_key R xs k) (x ∷ remove_key (eq_by_cmp R k) (insert_key R xs k))) e
            ∙ ap (λ l. x ∷ l) (remove-insert_key o k xs (or_false_right (eq_by_cmp R k x) (has R k xs) h))
      ] refl
