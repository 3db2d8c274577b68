-- Rising lists: `insert_key` and `sorted` give rising lists with the same elements, and a rising list is determined by its elements.
use Rattle.std.proofs.Common.{◌≡◌, Bool, true, false, ◌||◌, List, [], ◌∷◌, ◌++◌, Ordering, Less, Equal, Greater, is_eq, refl, sym, ◌∙◌, ap, true≢false}
use Rattle.std.specs.FinMap.{IsAntisymmetric}
use Rattle.std.specs.Cmp.{IsTotalOrder}
use Rattle.std.specs.Ordering.{eq_by_cmp, ordering_reverse, match_ordering}
use Rattle.std.proofs.lemmas.Cmp.{tied_itself, alike_right}
use Rattle.std.proofs.lemmas.List.Folds.{list_any-append}
use Rattle.std.specs.BTreeSet.{insert_key}
use Rattle.sorted_sets.specs.Rising.{sorted, has, Above, IsRising}
use Rattle.sorted_sets.proofs.Bools.{clash, equal, or_swap, or_false, or_none, or_comm}

-- the other way round, an answer is reversed
pub turned : {K : Type 0} {R : K → K → Ordering} → IsTotalOrder R → (x y : K) (r : Ordering) → R x y ≡ r → R y x ≡ ordering_reverse r
turned o x y r e = o.antisymm y x ∙ ap ordering_reverse e

-- the elements below k stay below what is above k
pub Above-weaken : {K : Type 0} {R : K → K → Ordering} → IsTotalOrder R → (k x : K) (xs : List K) → R k x ≡ Less → Above R x xs → Above R k xs
Above-weaken o k x [] e h = tt
Above-weaken o k x (y ∷ ys) e h = (o.trans k x y e h.0, Above-weaken o k x ys e h.1)

-- what is below each element isn't among them
pub has-above : {K : Type 0} (R : K → K → Ordering) (k : K) (xs : List K) → Above R k xs → has R k xs ≡ false
has-above R k [] h = refl
has-above R k (x ∷ xs) h = or_false (eq_by_cmp R k x) _ (ap is_eq h.0) (has-above R k xs h.1)

pub has_itself : {K : Type 0} {R : K → K → Ordering} → IsTotalOrder R → (k : K) (xs : List K) → has R k (k ∷ xs) ≡ true
has_itself {R = R} o k xs = ap (λ r. is_eq r || has R k xs) (tied_itself o k)

Above-insert_key : {K : Type 0} (R : K → K → Ordering) (y k : K) (xs : List K) → R y k ≡ Less → Above R y xs → Above R y (insert_key R xs k)
Above-insert_key R y k [] e h = (e, tt)
Above-insert_key R y k (x ∷ xs) e h =
    elim (R k x) as (λ r. Above R y (match_ordering r (k ∷ x ∷ xs) (x ∷ xs) (x ∷ insert_key R xs k))) [
      | Less ↦ (e, h)
      | Equal ↦ h
      | Greater ↦ (h.0, Above-insert_key R y k xs e h.1)
    ]

pub IsRising-insert_key : {K : Type 0} {R : K → K → Ordering} → IsTotalOrder R → (k : K) (xs : List K) → IsRising R xs → IsRising R (insert_key R xs k)
IsRising-insert_key o k [] h = (tt, tt)
IsRising-insert_key {K} {R} o k (x ∷ xs) h =
    elim (R k x) as (λ r. R k x ≡ r → IsRising R (match_ordering r (k ∷ x ∷ xs) (x ∷ xs) (x ∷ insert_key R xs k))) [
      | Less ↦ λ e. ((e, Above-weaken o k x xs e h.0), h)
      | Equal ↦ λ e. h
      | Greater ↦ λ e. (Above-insert_key R x k xs (turned o k x Greater e) h.0, IsRising-insert_key o k xs h.1)
    ] refl

pub IsRising-sorted : {K : Type 0} {R : K → K → Ordering} → IsTotalOrder R → (xs : List K) → IsRising R (sorted R xs)
IsRising-sorted o [] = tt
IsRising-sorted {R = R} o (x ∷ xs) = IsRising-insert_key o x (sorted R xs) (IsRising-sorted o xs)

twice : (a b c : Bool) → a ≡ b → (b || c) ≡ (a || (b || c))
twice true true c e = refl
twice true false c e = absurd (true≢false e)
twice false b c e = refl

pub has-insert_key : {K : Type 0} {R : K → K → Ordering} → IsTotalOrder R → (q k : K) (xs : List K) → has R q (insert_key R xs k) ≡ (eq_by_cmp R q k || has R q xs)
has-insert_key o q k [] = refl
has-insert_key {K} {R} o q k (x ∷ xs) =
    elim (R k x) as (λ r. R k x ≡ r → has R q (match_ordering r (k ∷ x ∷ xs) (x ∷ xs) (x ∷ insert_key R xs k)) ≡ (eq_by_cmp R q k || (eq_by_cmp R q x || has R q xs))) [
      | Less ↦ λ e. refl
      | Equal ↦ λ e. twice (eq_by_cmp R q k) (eq_by_cmp R q x) (has R q xs) (ap is_eq (alike_right o k x q e))
      | Greater ↦ λ e. ap (λ b. eq_by_cmp R q x || b) (has-insert_key o q k xs) ∙ or_swap (eq_by_cmp R q x) (eq_by_cmp R q k) (has R q xs)
    ] refl

pub has-sorted : {K : Type 0} {R : K → K → Ordering} → IsTotalOrder R → (q : K) (xs : List K) → has R q (sorted R xs) ≡ has R q xs
has-sorted o q [] = refl
has-sorted {R = R} o q (x ∷ xs) = has-insert_key o q x (sorted R xs) ∙ ap (λ b. eq_by_cmp R q x || b) (has-sorted o q xs)

pub has-append : {K : Type 0} (R : K → K → Ordering) (q : K) (xs ys : List K) → has R q (xs ++ ys) ≡ (has R q xs || has R q ys)
has-append R q xs ys = list_any-append (eq_by_cmp R q) xs ys

-- the heads of two rising lists with the same elements are the same
head_below : {K : Type 0} {R : K → K → Ordering} → IsTotalOrder R → {G : Type 0} (x y : K) (xs ys : List K) → IsRising R (y ∷ ys) → ((q : K) → has R q (x ∷ xs) ≡ has R q (y ∷ ys)) → R x y ≡ Less → G
head_below {R = R} o x y xs ys h e less = clash (sym (e x) ∙ has_itself o x xs) (has-above R x (y ∷ ys) (less, Above-weaken o x y ys less h.0))

-- an element that ties with the head of a rising list isn't in the rest
pub has-tied_above : {K : Type 0} {R : K → K → Ordering} → IsTotalOrder R → (q x : K) (xs : List K) → R q x ≡ Equal → Above R x xs → has R q xs ≡ false
has-tied_above o q x [] e h = refl
has-tied_above {R = R} o q x (y ∷ ys) e h = or_false (eq_by_cmp R q y) _ (ap is_eq (o.congr q x y e ∙ h.0)) (has-tied_above o q x ys e h.1)

-- without the shared head, two rising lists have the same elements
rest_alike : {K : Type 0} {R : K → K → Ordering} → IsTotalOrder R → (x y : K) (xs ys : List K) → Above R x xs → Above R y ys → R x y ≡ Equal → ((q : K) → has R q (x ∷ xs) ≡ has R q (y ∷ ys)) → (q : K) → has R q xs ≡ has R q ys
rest_alike {K} {R} o x y xs ys hx hy t e q =
    elim (R q x) as (λ r. R q x ≡ r → has R q xs ≡ has R q ys) [
      | Less ↦ λ a. past (ap is_eq a)
      | Equal ↦ λ a. has-tied_above o q x xs a hx ∙ sym (has-tied_above o q y ys (sym (alike_right o x y q t) ∙ a) hy)
      | Greater ↦ λ a. past (ap is_eq a)
    ] refl
  where
    past : is_eq (R q x) ≡ false → has R q xs ≡ has R q ys
    past a = ap (λ b. b || has R q xs) (sym a) ∙ e q ∙ ap (λ b. b || has R q ys) (ap is_eq (sym (alike_right o x y q t)) ∙ a)

-- a rising list is determined by its elements
pub same_rising : {K : Type 0} {R : K → K → Ordering} → IsTotalOrder R → IsAntisymmetric R → (xs ys : List K) → IsRising R xs → IsRising R ys → ((q : K) → has R q xs ≡ has R q ys) → xs ≡ ys
same_rising o same [] [] hx hy e = refl
same_rising {R = R} o same [] (y ∷ ys) hx hy e = clash (has_itself o y ys) (sym (e y))
same_rising {R = R} o same (x ∷ xs) [] hx hy e = clash (has_itself o x xs) (e x)
same_rising {K} {R} o same (x ∷ xs) (y ∷ ys) hx hy e =
    elim (R x y) as (λ r. R x y ≡ r → x ∷ xs ≡ y ∷ ys) [
      | Less ↦ λ a. head_below o x y xs ys hy e a
      | Equal ↦ λ a i. same x y a i ∷ same_rising o same xs ys hx.1 hy.1 (rest_alike o x y xs ys hx.0 hy.0 a e) i
      | Greater ↦ λ a. head_below o y x ys xs hx (λ q. sym (e q)) (turned o x y Greater a)
    ] refl

-- the sorted lists of equal sets are equal
pub sorted_same : {K : Type 0} {R : K → K → Ordering} → IsTotalOrder R → IsAntisymmetric R → (xs ys : List K) → ((q : K) → has R q xs ≡ has R q ys) → sorted R xs ≡ sorted R ys
sorted_same {R = R} o same xs ys e = same_rising o same _ _ (IsRising-sorted o xs) (IsRising-sorted o ys) (λ q. has-sorted o q xs ∙ e q ∙ sym (has-sorted o q ys))

-- a rising list is its own sorted list
pub sorted_rising : {K : Type 0} {R : K → K → Ordering} → IsTotalOrder R → IsAntisymmetric R → (xs : List K) → IsRising R xs → sorted R xs ≡ xs
sorted_rising {R = R} o same xs h = same_rising o same _ _ (IsRising-sorted o xs) h (λ q. has-sorted o q xs)

-- one more element at the end of a list is put at its place in the sorted list
pub sorted-push : {K : Type 0} {R : K → K → Ordering} → IsTotalOrder R → IsAntisymmetric R → (xs : List K) (x : K) → sorted R (xs ++ x ∷ []) ≡ insert_key R (sorted R xs) x
sorted-push {R = R} o same xs x = sorted_same o same (xs ++ x ∷ []) (x ∷ xs) (λ q. has-append R q xs (x ∷ []) ∙ ap (λ b. has R q xs || b) (or_none (eq_by_cmp R q x)) ∙ or_comm (has R q xs) (eq_by_cmp R q x))

-- an element that is there is put nowhere
pub sorted-push_again : {K : Type 0} {R : K → K → Ordering} → IsTotalOrder R → IsAntisymmetric R → (xs : List K) (x : K) → has R x xs ≡ true → sorted R (xs ++ x ∷ []) ≡ sorted R xs
sorted-push_again {K} {R} o same xs x there = sorted_same o same (xs ++ x ∷ []) xs again
  where
    kept : (a b : Bool) → (b ≡ true → a ≡ true) → (a || (b || false)) ≡ a
    kept true b h = refl
    kept false true h = sym (h refl)
    kept false false h = refl

    again : (q : K) → has R q (xs ++ x ∷ []) ≡ has R q xs
    again q = has-append R q xs (x ∷ []) ∙ kept (has R q xs) (eq_by_cmp R q x) (λ t. ap (λ y. has R y xs) (same q x (equal _ t)) ∙ there)
