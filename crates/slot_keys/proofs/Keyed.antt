-- The keys of a map after a change, and sums over them.
use Rattle.std.proofs.Common.{◌≡◌, ℕ, ◌+◌, ◌≤◌, Bool, true, false, cond, ◌||◌, List, [], ◌∷◌, Option, Some, None, Ordering, Less, Equal, Greater, is_eq, is_some, sum_by, refl, sym, ◌∙◌, ap, arith}
use Rattle.std.specs.Cmp.{IsTotalOrder}
use Rattle.std.specs.FinMap as map
use Rattle.std.specs.FinMap.{FinMap, IsAntisymmetric}
use Rattle.std.specs.Ordering.{eq_by_cmp, match_ordering}
use Rattle.std.specs.BTreeSet.{insert_key}
use Rattle.std.proofs.lemmas.Cmp.{tied_itself}
use Rattle.std.proofs.lemmas.List.Sums.{sum_by-cons}
use Rattle.sorted_sets.specs.Rising.{has, IsRising}
use Rattle.sorted_sets.proofs.Bools.{clash, equal, or_false_left, or_false_right}
use Rattle.sorted_sets.proofs.Keys.{rising_keys}
use Rattle.sorted_sets.proofs.Rising.{IsRising-insert_key, has-insert_key, same_rising}

-- what is in a list adds at most the sum over it
pub sum-has : {K : Type 0} {R : K → K → Ordering} → IsAntisymmetric R → (f : K → ℕ) (k : K) (xs : List K) → has R k xs ≡ true → f k ≤ sum_by f xs
sum-has same f k [] h = clash h refl
sum-has {R = R} same f k (x ∷ xs) h =
    elim (R k x) as (λ r. R k x ≡ r → (is_eq r || has R k xs) ≡ true → f k ≤ sum_by f (x ∷ xs)) [
      | Less ↦ λ _ rest. omega (arith, sum_by-cons f x xs, sum-has same f k xs rest)
      | Equal ↦ λ e _. omega (arith, sum_by-cons f x xs, ap f (same k x e))
      | Greater ↦ λ _ rest. omega (arith, sum_by-cons f x xs, sum-has same f k xs rest)
    ] refl h

pub sum-insert_key : {K : Type 0} (R : K → K → Ordering) (f : K → ℕ) (k : K) (xs : List K) → has R k xs ≡ false → sum_by f (insert_key R xs k) ≡ f k + sum_by f xs
sum-insert_key R f k [] h = sum_by-cons f k []
sum-insert_key R f k (x ∷ xs) h =
    elim (R k x) as (λ r. R k x ≡ r → sum_by f (match_ordering r (k ∷ x ∷ xs) (x ∷ xs) (x ∷ insert_key R xs k)) ≡ f k + sum_by f (x ∷ xs)) [
      | Less ↦ λ e. sum_by-cons f k (x ∷ xs)
      | Equal ↦ λ e. clash (ap is_eq e) (or_false_left (eq_by_cmp R k x) (has R k xs) h)
      | Greater ↦ λ e. omega (arith, sum_by-cons f x (insert_key R xs k), sum_by-cons f x xs, sum-insert_key R f k xs (or_false_right (eq_by_cmp R k x) (has R k xs) h))
    ] refl

module _ {K X : Type 0} {R : K → K → Ordering} where
  pub keys_rising : (m : FinMap R X) → IsRising R (map.keys m)
  keys_rising m = rising_keys R (map.entries m) (map.entries_sorted m)

  pub has_key : (m : FinMap R X) (q : K) → has R q (map.keys m) ≡ map.contains_key m q
  has_key m q = sym (map.contains_key-keys m q)

  module _ (o : IsTotalOrder R) (same : IsAntisymmetric R) where
    pub keys-insert : (m : FinMap R X) (k : K) (v : X) → map.keys (map.insert m k v) ≡ insert_key R (map.keys m) k
    keys-insert m k v =
        same_rising o same _ _ (keys_rising (map.insert m k v)) (IsRising-insert_key o k (map.keys m) (keys_rising m))
        (λ q. has_key (map.insert m k v) q ∙ ap is_some (map.get-insert o m k v q) ∙ by (eq_by_cmp R q k) (map.get m q)
        ∙ ap (λ b. eq_by_cmp R q k || b) (sym (has_key m q)) ∙ sym (has-insert_key o q k (map.keys m)))
      where
        by : (b : Bool) (w : Option X) → is_some (cond b (Some v) w) ≡ (b || is_some w)
        by true w = refl
        by false w = refl

    pub keys-insert_again : (m : FinMap R X) (k : K) (v : X) → map.contains_key m k ≡ true → map.keys (map.insert m k v) ≡ map.keys m
    keys-insert_again m k v there =
        same_rising o same _ _ (keys_rising (map.insert m k v)) (keys_rising m)
        (λ q. has_key (map.insert m k v) q ∙ ap is_some (map.get-insert o m k v q)
        ∙ elim (eq_by_cmp R q k) as (λ b. eq_by_cmp R q k ≡ b → is_some (cond b (Some v) (map.get m q)) ≡ map.contains_key m q) [
          | true ↦ λ e. sym (ap is_some (sym (map.get_tied o m q k (equal _ e))) ∙ there)
          | false ↦ λ e. refl
        ] refl
        ∙ sym (has_key m q))

    pub keys-remove : (m : FinMap R X) (k : K) → map.contains_key m k ≡ true → insert_key R (map.keys (map.remove m k)) k ≡ map.keys m
    keys-remove m k there =
        same_rising o same _ _ (IsRising-insert_key o k (map.keys (map.remove m k)) (keys_rising (map.remove m k))) (keys_rising m)
        (λ q. has-insert_key o q k (map.keys (map.remove m k)) ∙ ap (λ b. eq_by_cmp R q k || b) (has_key (map.remove m k) q ∙ ap is_some (map.get-remove o m k q))
        ∙ elim (eq_by_cmp R q k) as (λ b. eq_by_cmp R q k ≡ b → (b || is_some (cond b None (map.get m q))) ≡ map.contains_key m q) [
          | true ↦ λ e. sym (ap is_some (sym (map.get_tied o m q k (equal _ e))) ∙ there)
          | false ↦ λ e. refl
        ] refl
        ∙ sym (has_key m q))

    pub gone : (m : FinMap R X) (k : K) → has R k (map.keys (map.remove m k)) ≡ false
    gone m k = has_key (map.remove m k) k ∙ ap is_some (map.get-remove o m k k) ∙ ap (λ b. is_some (cond b None (map.get m k))) (ap is_eq (tied_itself o k))
