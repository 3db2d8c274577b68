-- What is in a list, and where in a rising one.
use Rattle.std.proofs.Common.{◌≡◌, ◌≢◌, ℕ, zero, suc, ◌+◌, ◌<◌, Bool, true, false, not, cond, ◌||◌, ◌⊎◌, inl, inr, ⊎_elim, List, [], ◌∷◌, ◌++◌, length, take, get_or, is_eq, Ordering, Less, refl, sym, ◌∙◌, ap, subst, arith, append-nil, true≢false}
use Rattle.std.specs.Cmp.{IsTotalOrder}
use Rattle.std.specs.Ordering.{eq_by_cmp}
use Rattle.std.proofs.lemmas.Bool.{cases_lt}
use Rattle.std.proofs.lemmas.Cmp.{tied_itself}
use Rattle.std.proofs.lemmas.List.{take_more}
use Rattle.std.proofs.lemmas.List.Elements.{filter-append}
use Rattle.sorted_sets.specs.Rising.{has, Above, IsRising, difference}
use Rattle.sorted_sets.proofs.Bools.{or_false, or_true, or_none}
use Rattle.sorted_sets.proofs.Rising.{has-append, has_itself, turned}

-- one more element at the end of a list
pub has-push : {K : Type 0} (R : K → K → Ordering) (q : K) (xs : List K) (x : K) → has R q (xs ++ x ∷ []) ≡ (has R q xs || eq_by_cmp R q x)
has-push R q xs x = has-append R q xs (x ∷ []) ∙ ap (λ b. has R q xs || b) (or_none (eq_by_cmp R q x))

pub or_left : (a b : Bool) → a ≡ true → (a || b) ≡ true
or_left true b e = refl
or_left false b e = absurd (true≢false (sym e))

-- one of two tests passes
pub one_of : (a b : Bool) → (a || b) ≡ true → (a ≡ true) ⊎ (b ≡ true)
one_of true b e = inl refl
one_of false b e = inr e

pub never : (b : Bool) → (b ≡ true → ⊥) → b ≡ false
never true f = absurd (f refl)
never false f = refl

module _ {K : Type 0} {R : K → K → Ordering} (o : IsTotalOrder R) where
  above_at : (k : K) (xs : List K) (i : ℕ) (d : K) → i < length xs → Above R k xs → R k (get_or xs i d) ≡ Less
  above_at k [] i d l h = absurd (omega arith)
  above_at k (x ∷ xs) zero d l h = h.0
  above_at k (x ∷ xs) (suc i) d l h = above_at k xs i d (omega arith) h.1

  -- an element of a rising list isn't among those before it
  pub fresh : (xs : List K) (i : ℕ) (d : K) → i < length xs → IsRising R xs → has R (get_or xs i d) (take i xs) ≡ false
  fresh [] i d l h = absurd (omega arith)
  fresh (x ∷ xs) zero d l h = refl
  fresh (x ∷ xs) (suc i) d l h = or_false _ _ (ap is_eq (turned o x _ Less (above_at x xs i d (omega arith) h.0))) (fresh xs i d (omega arith) h.1)

  -- an element of a list is in it
  pub has_at : (xs : List K) (i : ℕ) (d : K) → i < length xs → has R (get_or xs i d) xs ≡ true
  has_at [] i d l = absurd (omega arith)
  has_at (x ∷ xs) zero d l = has_itself o x xs
  has_at (x ∷ xs) (suc i) d l = or_true _ _ (has_at xs i d (omega arith))

  -- the next element of a list, less those of another
  pub difference_more : (xs ys : List K) (i : ℕ) (d : K) → i < length xs → has R (get_or xs i d) ys ≡ false → difference R (take (i + 1) xs) ys ≡ difference R (take i xs) ys ++ get_or xs i d ∷ []
  difference_more xs ys i d l out =
      ap (λ zs. difference R zs ys) (take_more xs i d l) ∙ filter-append (λ x. not (has R x ys)) (take i xs) (get_or xs i d ∷ [])
      ∙ ap (λ b. difference R (take i xs) ys ++ cond (not b) (get_or xs i d ∷ []) []) out

  pub difference_same : (xs ys : List K) (i : ℕ) (d : K) → i < length xs → has R (get_or xs i d) ys ≡ true → difference R (take (i + 1) xs) ys ≡ difference R (take i xs) ys
  difference_same xs ys i d l out =
      ap (λ zs. difference R zs ys) (take_more xs i d l) ∙ filter-append (λ x. not (has R x ys)) (take i xs) (get_or xs i d ∷ [])
      ∙ ap (λ b. difference R (take i xs) ys ++ cond (not b) (get_or xs i d ∷ []) []) out ∙ append-nil (difference R (take i xs) ys)

  -- what is among the first elements is in the list
  pub in_take : (k : K) (i : ℕ) (xs : List K) → has R k (take i xs) ≡ true → has R k xs ≡ true
  in_take k zero xs h = absurd (true≢false (sym h))
  in_take k (suc i) [] h = h
  in_take k (suc i) (x ∷ xs) h =
      elim (eq_by_cmp R k x) as (λ b. (b || has R k (take i xs)) ≡ true → (b || has R k xs) ≡ true) [
        | true ↦ λ _. refl
        | false ↦ in_take k i xs
      ] h

  -- an element of a rising list is below those after it
  less_at : (xs : List K) (i j : ℕ) (d : K) → IsRising R xs → i < j → j < length xs → R (get_or xs i d) (get_or xs j d) ≡ Less
  less_at [] i j d h before low = absurd (omega (arith, low))
  less_at (x ∷ xs) i zero d h before low = absurd (omega (arith, before))
  less_at (x ∷ xs) zero (suc j) d h before low = above_at x xs j d (omega (arith, low)) h.0
  less_at (x ∷ xs) (suc i) (suc j) d h before low = less_at xs i j d h.1 (omega (arith, before)) (omega (arith, low))

  -- and another one than each of the others
  pub other_at : (xs : List K) (i j : ℕ) (d : K) → IsRising R xs → i < length xs → j < length xs → i ≢ j → get_or xs i d ≢ get_or xs j d
  other_at xs i j d h low_i low_j differ same = ⊎_elim
      (λ before. let less = less_at xs i j d h before low_j in clash less same)
      (λ rest.
      let behind : j < i = omega (arith, rest, differ) in
      let less = less_at xs j i d h behind low_i in
      clash less (sym same))
      (cases_lt i j)
    where
      clash : {x y : K} → R x y ≡ Less → x ≡ y → ⊥
      clash {x} {y} less same = let tied = tied_itself o x in let here : R x x ≡ Less = subst (λ (z : K). R x z ≡ Less) (sym same) less in absurd cc
