-- Elements by marks at their places.
use Rattle.std.proofs.Common.{◌≡◌, ℕ, zero, suc, ◌+◌, ◌<◌, Bool, true, false, cond, ◌||◌, List, [], ◌∷◌, ◌++◌, length, take, replicate, get_or, slice_get, slice_set, Some, Ordering, refl, sym, ◌∙◌, ap, arith, append-nil}
use Rattle.std.specs.Cmp.{IsTotalOrder}
use Rattle.std.specs.FinMap.{IsAntisymmetric}
use Rattle.std.specs.Ordering.{eq_by_cmp}
use Rattle.std.proofs.lemmas.List.{take_more}
use Rattle.sorted_sets.specs.Rising.{has, Above, IsRising, sorted}
use Rattle.sorted_sets.proofs.Bools.{or_assoc, or_comm, or_swap}
use Rattle.sorted_sets.proofs.Rising.{IsRising-sorted, has-append, has-sorted, same_rising, sorted_same}
use Rattle.slot_keys.specs.Marks.{marked}
use Rattle.slot_keys.proofs.Lists.{has-push}

module _ {A : Type 0} where
  none_marked : (xs : List A) (n : ℕ) → marked xs (replicate n false) ≡ []
  none_marked [] n = refl
  none_marked (x ∷ xs) zero = refl
  none_marked (x ∷ xs) (suc n) = none_marked xs n

  marked_nil : (xs : List A) (n : ℕ) (marks : List Bool) → marked xs (take n [] ++ marks) ≡ marked xs marks
  marked_nil xs zero marks = refl
  marked_nil xs (suc n) marks = refl

  -- where no mark is set
  pub fresh_marks : (xs : List A) (n m : ℕ) (before marks : List Bool) → before ≡ [] → marks ≡ take n before ++ replicate m false → marked xs marks ≡ []
  fresh_marks xs n m before marks none is = ap (marked xs) (is ∙ ap (λ bs. take n bs ++ replicate m false) none) ∙ marked_nil xs n (replicate m false) ∙ none_marked xs m

  marked_next : (xs : List A) (marks : List Bool) (i : ℕ) (d : A) (b : Bool) → i < length xs → i < length marks → marked (take (suc i) xs) marks ≡ marked (take i xs) marks ++ cond (get_or marks i b) (get_or xs i d ∷ []) []
  marked_next [] marks i d b l m = absurd (omega arith)
  marked_next (x ∷ xs) [] i d b l m = absurd (omega arith)
  marked_next (x ∷ xs) (true ∷ marks) zero d b l m = refl
  marked_next (x ∷ xs) (false ∷ marks) zero d b l m = refl
  marked_next (x ∷ xs) (true ∷ marks) (suc i) d b l m = ap (λ ys. x ∷ ys) (marked_next xs marks i d b (omega arith) (omega arith))
  marked_next (x ∷ xs) (false ∷ marks) (suc i) d b l m = marked_next xs marks i d b (omega arith) (omega arith)

  -- one more place
  pub marked_more : (xs : List A) (marks : List Bool) (i : ℕ) (d : A) (b : Bool) → i < length xs → i < length marks → marked (take (i + 1) xs) marks ≡ marked (take i xs) marks ++ cond (get_or marks i b) (get_or xs i d ∷ []) []
  marked_more xs marks i d b l m =
      let next : i + 1 ≡ suc i = omega arith in
      ap (λ n. marked (take n xs) marks) next ∙ marked_next xs marks i d b l m

  -- which is marked
  pub push_marked : (xs : List A) (marks : List Bool) (i : ℕ) (d : A) (b : Bool) (keys new : List A) → i < length xs → i < length marks → keys ≡ marked (take i xs) marks → new ≡ keys ++ get_or xs i d ∷ [] → get_or marks i b ≡ true → new ≡ marked (take (i + 1) xs) marks
  push_marked xs marks i d b keys new l m so_far pushed is = pushed ∙ ap (λ ks. ks ++ get_or xs i d ∷ []) so_far ∙ sym (marked_more xs marks i d b l m ∙ ap (λ t. marked (take i xs) marks ++ cond t (get_or xs i d ∷ []) []) is)

  -- or isn't
  pub pass_marked : (xs : List A) (marks : List Bool) (i : ℕ) (b : Bool) (keys : List A) → i < length xs → i < length marks → keys ≡ marked (take i xs) marks → get_or marks i b ≡ false → keys ≡ marked (take (i + 1) xs) marks
  pass_marked [] marks i b keys l m so_far is = absurd (omega arith)
  pass_marked (x ∷ xs) marks i b keys l m so_far is = so_far ∙ sym (marked_more (x ∷ xs) marks i x b l m ∙ ap (λ t. marked (take i (x ∷ xs)) marks ++ cond t (get_or (x ∷ xs) i x ∷ []) []) is ∙ append-nil (marked (take i (x ∷ xs)) marks))

or_again : (a b c : Bool) → a ≡ b → (a || c) ≡ (b || (a || c))
or_again true b c e = ap (λ t. t || true) e
or_again false b c e = ap (λ t. t || c) e

-- a mark that is set keeps their number
pub set_long : (marks : List Bool) (i : ℕ) (b : Bool) → length (slice_set marks i b) ≡ length marks
set_long [] i b = refl
set_long (mark ∷ marks) zero b = refl
set_long (mark ∷ marks) (suc i) b = omega (arith, set_long marks i b)

module _ {K : Type 0} (R : K → K → Ordering) where
  pub Above-marked : (k : K) (xs : List K) (marks : List Bool) → Above R k xs → Above R k (marked xs marks)
  Above-marked k [] marks h = tt
  Above-marked k (x ∷ xs) [] h = tt
  Above-marked k (x ∷ xs) (true ∷ marks) h = (h.0, Above-marked k xs marks h.1)
  Above-marked k (x ∷ xs) (false ∷ marks) h = Above-marked k xs marks h.1

  pub IsRising-marked : (xs : List K) (marks : List Bool) → IsRising R xs → IsRising R (marked xs marks)
  IsRising-marked [] marks h = tt
  IsRising-marked (x ∷ xs) [] h = tt
  IsRising-marked (x ∷ xs) (true ∷ marks) h = (Above-marked x xs marks h.0, IsRising-marked xs marks h.1)
  IsRising-marked (x ∷ xs) (false ∷ marks) h = IsRising-marked xs marks h.1

  some_same : (x k : K) → Some x ≡ Some k → x ≡ k
  some_same x k e = cc

  -- one mark more
  pub has-mark : (q k : K) (xs : List K) (marks : List Bool) (i : ℕ) → length marks ≡ length xs → slice_get xs i ≡ Some k → has R q (marked xs (slice_set marks i true)) ≡ (eq_by_cmp R q k || has R q (marked xs marks))
  has-mark q k [] marks i l e = absurd cc
  has-mark q k (x ∷ xs) [] i l e = absurd (omega arith)
  has-mark q k (x ∷ xs) (true ∷ marks) zero l e = or_again (eq_by_cmp R q x) (eq_by_cmp R q k) (has R q (marked xs marks)) (ap (eq_by_cmp R q) (some_same x k e))
  has-mark q k (x ∷ xs) (false ∷ marks) zero l e = ap (λ y. eq_by_cmp R q y || has R q (marked xs marks)) (some_same x k e)
  has-mark q k (x ∷ xs) (true ∷ marks) (suc i) l e = ap (λ b. eq_by_cmp R q x || b) (has-mark q k xs marks i (omega arith) e) ∙ or_swap (eq_by_cmp R q x) (eq_by_cmp R q k) (has R q (marked xs marks))
  has-mark q k (x ∷ xs) (false ∷ marks) (suc i) l e = has-mark q k xs marks i (omega arith) e

  -- the keys that were met, in two parts
  module _ (old met : List K) (marks : List Bool) (rest : List K) (i : ℕ) (d : K) (low : i < length met) (same : (q : K) → has R q (marked old marks ++ rest) ≡ has R q (take i met)) where
    next_met : (q : K) → has R q (take (i + 1) met) ≡ (has R q (take i met) || eq_by_cmp R q (get_or met i d))
    next_met q = ap (has R q) (take_more met i d low) ∙ has-push R q (take i met) (get_or met i d)

    last : (a b c : Bool) → ((c || a) || b) ≡ ((a || b) || c)
    last a b c = or_assoc c a b ∙ or_comm c (a || b)

    -- one of the old ones more
    pub more_kept : (index : ℕ) → length marks ≡ length old → slice_get old index ≡ Some (get_or met i d) → (q : K) → has R q (marked old (slice_set marks index true) ++ rest) ≡ has R q (take (i + 1) met)
    more_kept index l e q =
        has-append R q (marked old (slice_set marks index true)) rest
        ∙ ap (λ b. b || has R q rest) (has-mark q (get_or met i d) old marks index l e)
        ∙ last (has R q (marked old marks)) (has R q rest) (eq_by_cmp R q (get_or met i d))
        ∙ ap (λ b. b || eq_by_cmp R q (get_or met i d)) (sym (has-append R q (marked old marks) rest) ∙ same q)
        ∙ sym (next_met q)

    -- one of the others more
    pub more_rest : (q : K) → has R q (marked old marks ++ (rest ++ get_or met i d ∷ [])) ≡ has R q (take (i + 1) met)
    more_rest q =
        has-append R q (marked old marks) (rest ++ get_or met i d ∷ [])
        ∙ ap (λ b. has R q (marked old marks) || b) (has-push R q rest (get_or met i d))
        ∙ sym (or_assoc (has R q (marked old marks)) (has R q rest) (eq_by_cmp R q (get_or met i d)))
        ∙ ap (λ b. b || eq_by_cmp R q (get_or met i d)) (sym (has-append R q (marked old marks) rest) ∙ same q)
        ∙ sym (next_met q)

module _ {K : Type 0} {R : K → K → Ordering} (o : IsTotalOrder R) (a : IsAntisymmetric R) where
  -- the old keys alone
  pub kept_alone : (old met : List K) (marks : List Bool) (rest : List K) → IsRising R old → rest ≡ [] → ((q : K) → has R q (marked old marks ++ rest) ≡ has R q met) → marked old marks ≡ sorted R met
  kept_alone old met marks rest rises none same =
      same_rising o a _ _ (IsRising-marked R old marks rises) (IsRising-sorted o met)
      (λ q. ap (has R q) (sym (append-nil (marked old marks)) ∙ ap (λ ys. marked old marks ++ ys) (sym none)) ∙ same q ∙ sym (has-sorted o q met))

  -- or with the others, sorted
  pub kept_sorted : (old met : List K) (marks : List Bool) (rest keys : List K) → keys ≡ sorted R (marked old marks ++ rest) → ((q : K) → has R q (marked old marks ++ rest) ≡ has R q met) → keys ≡ sorted R met
  kept_sorted old met marks rest keys is same = is ∙ sorted_same o a (marked old marks ++ rest) met same

-- no key was met
pub none_met : {K : Type 0} (R : K → K → Ordering) (q : K) (kept rest : List K) → kept ≡ [] → rest ≡ [] → has R q (kept ++ rest) ≡ false
none_met R q kept rest k r = ap (λ ks. has R q (ks ++ rest)) k ∙ ap (has R q) r
