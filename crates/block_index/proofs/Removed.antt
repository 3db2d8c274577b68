-- A key taken out of a rising list.
use Rattle.std.proofs.Common.{◌≡◌, ℕ, suc, Bool, true, false, cond, List, [], ◌∷◌, ◌++◌, get_or, drop, Ordering, Less, Equal, is_eq, refl, ◌∙◌, ap, subst}
use Rattle.std.specs.Cmp.{IsTotalOrder}
use Rattle.std.specs.Ordering.{eq_by_cmp}
use Rattle.std.specs.Set.{remove_key}
use Rattle.std.proofs.Math.Seq.{drop-cons}
use Rattle.sorted_sets.specs.Rising.{has, Above, IsRising}
use Rattle.sorted_sets.proofs.Bools.{or_false_left, or_false_right}
use Rattle.sorted_sets.proofs.Rising.{turned}
use Rattle.block_index.specs.Blocks.{keys_of}
use Rattle.block_index.specs.Search.{keys_before, keys_from, Below, Begins, Stands}
use Rattle.block_index.proofs.Parts.{at_position}

module _ {K : Type 0} where
  Above-remove_key : (R : K → K → Ordering) (p : K → Bool) (y : K) (xs : List K) → Above R y xs → Above R y (remove_key p xs)
  Above-remove_key R p y [] h = tt
  Above-remove_key R p y (x ∷ xs) h =
      elim (p x) as (λ b. Above R y (cond b xs (x ∷ remove_key p xs))) [
        | true ↦ h.1
        | false ↦ (h.0, Above-remove_key R p y xs h.1)
      ]

  -- a rising list stays so without a key
  pub IsRising-remove_key : (R : K → K → Ordering) (p : K → Bool) (xs : List K) → IsRising R xs → IsRising R (remove_key p xs)
  IsRising-remove_key R p [] h = tt
  IsRising-remove_key R p (x ∷ xs) h =
      elim (p x) as (λ b. IsRising R (cond b xs (x ∷ remove_key p xs))) [
        | true ↦ h.1
        | false ↦ (Above-remove_key R p x xs h.0, IsRising-remove_key R p xs h.1)
      ]

  -- what isn't there takes nothing out
  pub remove_key-absent : (R : K → K → Ordering) (k : K) (xs : List K) → has R k xs ≡ false → remove_key (eq_by_cmp R k) xs ≡ xs
  remove_key-absent R k [] h = refl
  remove_key-absent R k (x ∷ xs) h =
      ap (λ b. cond b xs (x ∷ remove_key (eq_by_cmp R k) xs)) (or_false_left (eq_by_cmp R k x) (has R k xs) h)
      ∙ ap (λ l. x ∷ l) (remove_key-absent R k xs (or_false_right (eq_by_cmp R k x) (has R k xs) h))

module _ {K : Type 0} {R : K → K → Ordering} (o : IsTotalOrder R) where
  remove_key-below : (k : K) (xs ys : List K) → Below R k xs → remove_key (eq_by_cmp R k) (xs ++ ys) ≡ xs ++ remove_key (eq_by_cmp R k) ys
  remove_key-below k [] ys h = refl
  remove_key-below k (x ∷ xs) ys h =
      ap (λ b. cond b (xs ++ ys) (x ∷ remove_key (eq_by_cmp R k) (xs ++ ys))) (ap is_eq (turned o x k Less h.0))
      ∙ ap (λ l. x ∷ l) (remove_key-below k xs ys h.1)

  remove_key_first : (k y : K) (ys : List K) → R k y ≡ Equal → remove_key (eq_by_cmp R k) (y ∷ ys) ≡ ys
  remove_key_first k y ys e = ap (λ r. cond (is_eq r) ys (y ∷ remove_key (eq_by_cmp R k) ys)) e

  -- a key that is there goes at its position
  pub remove_key_at : (k : K) (bs : List (List K)) (i at : ℕ) → Stands R k bs i at true → remove_key (eq_by_cmp R k) (keys_of bs) ≡ keys_before bs i at ++ (drop (suc at) (get_or bs i []) ++ keys_of (drop (suc i) bs))
  remove_key_at k bs i at s =
      let rest = keys_of (drop (suc i) bs) in
      let first = drop-cons (get_or bs i []) at k (s.here refl).1 in
      ap (remove_key (eq_by_cmp R k)) (at_position bs i at)
      ∙ remove_key-below k (keys_before bs i at) (keys_from bs i at) s.below
      ∙ ap (λ l. keys_before bs i at ++ l)
      (ap (λ l. remove_key (eq_by_cmp R k) (l ++ rest)) first ∙ remove_key_first k _ _ (subst (λ l. Begins R k true (l ++ rest)) first s.begins))
