-- The keys before a key's position are below it, and those from it on begin with it or are above it.
use Rattle.std.proofs.Common.{◌≡◌, ℕ, zero, suc, ◌+◌, ◌-◌, ◌<◌, ◌≤◌, Bool, true, false, ◌||◌, List, [], ◌∷◌, ◌++◌, length, get_or, take, drop, Ordering, Less, Equal, Greater, is_eq, refl, sym, ◌∙◌, ap, subst, append_assoc, arith, true≢false, ⊎_elim}
use Rattle.std.specs.Cmp.{IsTotalOrder}
use Rattle.std.specs.Ordering.{eq_by_cmp, match_ordering}
use Rattle.std.specs.BTreeSet.{insert_key}
use Rattle.std.proofs.lemmas.Bool.{cases_lt}
use Rattle.std.proofs.lemmas.Cmp.{alike_right}
use Rattle.std.proofs.lemmas.List.{drop_all, length-drop, get_or-drop}
use Rattle.std.proofs.Math.Seq.{take-suc, drop-cons}
use Rattle.sorted_sets.specs.Rising.{has, Above, IsRising}
use Rattle.sorted_sets.proofs.Bools.{or_false}
use Rattle.sorted_sets.proofs.Rising.{turned, Above-weaken, has-above, has-append}
use Rattle.block_index.specs.Blocks.{keys_of, AreFilled}
use Rattle.block_index.specs.Search.{first_at, keys_before, keys_from, Below, Begins, IsAfter, IsBefore, IsBeforeBlock, Stands}
use Rattle.block_index.proofs.Parts.{at_position, AreFilled-drop}

module _ {K : Type 0} {R : K → K → Ordering} (o : IsTotalOrder R) where
  above_mid : (x : K) (xs : List K) (y : K) (rest : List K) → Above R x (xs ++ y ∷ rest) → R x y ≡ Less
  above_mid x [] y rest h = h.0
  above_mid x (z ∷ xs) y rest h = above_mid x xs y rest h.1

  -- before a key that is below k all are
  pub below_less : (k y : K) (xs rest : List K) → IsRising R (xs ++ y ∷ rest) → R y k ≡ Less → Below R k xs
  below_less k y [] rest h e = tt
  below_less k y (x ∷ xs) rest h e = (o.trans x y k (above_mid x xs y rest h.0) e, below_less k y xs rest h.1 e)

  -- and before a key that ties with k
  below_tied : (k y : K) (xs rest : List K) → IsRising R (xs ++ y ∷ rest) → R k y ≡ Equal → Below R k xs
  below_tied k y [] rest h e = tt
  below_tied k y (x ∷ xs) rest h e = (alike_right o k y x e ∙ above_mid x xs y rest h.0, below_tied k y xs rest h.1 e)

  pub tail_rising : (xs ys : List K) → IsRising R (xs ++ ys) → IsRising R ys
  tail_rising [] ys h = h
  tail_rising (x ∷ xs) ys h = tail_rising xs ys h.1

  pub Below-append : (k : K) (xs ys : List K) → Below R k xs → Below R k ys → Below R k (xs ++ ys)
  Below-append k [] ys hx hy = hy
  Below-append k (x ∷ xs) ys hx hy = (hx.0, Below-append k xs ys hx.1 hy)

  -- a rising list whose first key is above k is above it
  above_first : (k z : K) (zs : List K) → IsRising R (z ∷ zs) → R k z ≡ Less → Above R k (z ∷ zs)
  above_first k z zs h e = (e, Above-weaken o k z zs e h.0)

  -- blocks whose first key is above k are above it
  pub above_blocks : (k : K) (bs : List (List K)) → AreFilled bs → IsRising R (keys_of bs) → (0 < length bs → R k (first_at bs 0 k) ≡ Less) → Above R k (keys_of bs)
  above_blocks k [] f h e = tt
  above_blocks k ([] ∷ bs) f h e = let some : 0 < length {A = K} [] = f.0.0 in absurd (omega arith)
  above_blocks k ((z ∷ zs) ∷ bs) f h e = above_first k z (zs ++ keys_of bs) h (e (omega arith))

  -- where the keys are cut at a key of a block
  cut : (bs : List (List K)) (i at : ℕ) (d : K) → at < length (get_or bs i []) → keys_of bs ≡ keys_before bs i at ++ (get_or (get_or bs i []) at d ∷ (drop (suc at) (get_or bs i []) ++ keys_of (drop (suc i) bs)))
  cut bs i at d l = at_position bs i at ∙ ap (λ ks. keys_before bs i at ++ (ks ++ keys_of (drop (suc i) bs))) (drop-cons (get_or bs i []) at d l)

  -- a key that ties with k at a place
  pub found_at : (k : K) (bs : List (List K)) (i at : ℕ) → IsRising R (keys_of bs) → i < length bs → at < length (get_or bs i []) → R k (get_or (get_or bs i []) at k) ≡ Equal → Stands R k bs i at true
  found_at k bs i at rising li la tied = record {
    start = omega arith;
    inside = λ _. li;
    within = omega arith;
    here = λ _. (li, la);
    below = below_tied k _ (keys_before bs i at) _ (subst (IsRising R) (cut bs i at k la) rising) tied;
    begins = subst (λ ks. Begins R k true (ks ++ keys_of (drop (suc i) bs))) (sym (drop-cons (get_or bs i []) at k la)) tied;
  }

  -- no key, or the first one above k
  pub before_all : (k : K) (bs : List (List K)) → AreFilled bs → IsRising R (keys_of bs) → (0 < length bs → R k (first_at bs 0 k) ≡ Less) → Stands R k bs 0 0 false
  before_all k bs f rising e = record {
    start = omega arith;
    inside = λ l. l;
    within = omega arith;
    here = λ t. absurd (true≢false (sym t));
    below = tt;
    begins = all bs f rising e;
  }
    where
      all : (bs : List (List K)) → AreFilled bs → IsRising R (keys_of bs) → (0 < length bs → R k (first_at bs 0 k) ≡ Less) → Above R k (keys_from bs 0 0)
      all [] f rising e = tt
      all (b ∷ bs) f rising e = above_blocks k (b ∷ bs) f rising e

  -- what is from a position on is above k, where the key there is, or the next block's first key after the last place
  above_from : (k : K) (bs : List (List K)) (i at : ℕ) → AreFilled bs → IsRising R (keys_of bs) → (at < length (get_or bs i []) → R k (get_or (get_or bs i []) at k) ≡ Less) → (suc i < length bs → R k (first_at bs (suc i) k) ≡ Less) → Above R k (keys_from bs i at)
  above_from k bs i at f rising here next =
      let rest = keys_of (drop (suc i) bs) in
      let from = tail_rising (keys_before bs i at) (keys_from bs i at) (subst (IsRising R) (at_position bs i at) rising) in
      ⊎_elim
      (λ la.
      let first = drop-cons (get_or bs i []) at k la in
      subst (λ ks. Above R k (ks ++ rest)) (sym first) (above_first k _ _ (subst (λ ks. IsRising R (ks ++ rest)) first from) (here la)))
      (λ past.
      let none = drop_all at (get_or bs i []) past in
      subst (λ ks. Above R k (ks ++ rest)) (sym none) (above_blocks k (drop (suc i) bs) (AreFilled-drop (suc i) bs f) (subst (λ ks. IsRising R (ks ++ rest)) none from)
      (λ l.
      let n = length-drop (suc i) bs in
      let same : suc i + 0 ≡ suc i = omega arith in
      subst (λ b. R k (get_or b 0 k) ≡ Less) (sym (get_or-drop (suc i) bs 0 [] ∙ ap (λ j. get_or bs j []) same)) (next (omega arith)))))
      (cases_lt at (length (get_or bs i [])))

  -- between two neighbours, one below k and one above it
  pub between : (k : K) (bs : List (List K)) (i e : ℕ) → AreFilled bs → IsRising R (keys_of bs) → i < length bs → e < length (get_or bs i []) → R k (get_or (get_or bs i []) e k) ≡ Greater → (suc e < length (get_or bs i []) → R k (get_or (get_or bs i []) (suc e) k) ≡ Less) → (suc i < length bs → R k (first_at bs (suc i) k) ≡ Less) → Stands R k bs i (suc e) false
  between k bs i e f rising li le low here next =
      let b = get_or bs i [] in
      let y = get_or b e k in
      let kt = keys_of (take i bs) in
      let less = turned o k y Greater low in
      let ahead = below_less k y (keys_before bs i e) _ (subst (IsRising R) (cut bs i e k le) rising) less in
      record {
        start = omega arith;
        inside = λ _. li;
        within = omega arith;
        here = λ t. absurd (true≢false (sym t));
        below = subst (Below R k) (append_assoc kt (take e b) (y ∷ []) ∙ ap (λ ks. kt ++ ks) (sym (take-suc b e k le))) (Below-append k (keys_before bs i e) (y ∷ []) ahead (less, tt));
        begins = above_from k bs i (suc e) f rising here next;
      }

  -- the same at the place where a search of the block's keys ended, after a search of the blocks that ended at `next`
  pub between_at : (k : K) (bs : List (List K)) (i at next : ℕ) (keys : List K) → AreFilled bs → IsRising R (keys_of bs) → i < length bs → next ≡ suc i → keys ≡ get_or bs i [] → 1 ≤ at → at ≤ length keys → IsAfter R k keys at → IsBefore R k keys at → IsBeforeBlock R k bs next → Stands R k bs i at false
  between_at k bs i zero next keys f rising li up is some within low high beyond = absurd (omega arith)
  between_at k bs i (suc e) next keys f rising li up is some within low high beyond =
      let same : suc e - 1 ≡ e = omega arith in
      between k bs i e f rising li
      (let n = ap length is in omega arith)
      (subst (λ b. R k (get_or b e k) ≡ Greater) is (subst (λ j. R k (get_or keys j k) ≡ Greater) same (low k (omega arith))))
      (λ l. subst (λ b. R k (get_or b (suc e) k) ≡ Less) is (high k (let n = ap length is in omega arith)))
      (λ l. subst (λ j. R k (first_at bs j k) ≡ Less) up (beyond k (omega arith)))

  -- a key that ties with k at a place of the keys of a block
  pub tied_at : (k : K) (bs : List (List K)) (i at : ℕ) (keys : List K) → IsRising R (keys_of bs) → i < length bs → keys ≡ get_or bs i [] → at < length keys → ((d : K) → R k (get_or keys at d) ≡ Equal) → Stands R k bs i at true
  tied_at k bs i at keys rising li is la tied = found_at k bs i at rising li (subst (λ b. at < length b) is la) (subst (λ b. R k (get_or b at k) ≡ Equal) is (tied k))

  has-below : (k : K) (xs : List K) → Below R k xs → has R k xs ≡ false
  has-below k [] h = refl
  has-below k (x ∷ xs) h = or_false (eq_by_cmp R k x) _ (ap is_eq (turned o x k Less h.0)) (has-below k xs h.1)

  has_from : (k : K) (found : Bool) (xs : List K) → Begins R k found xs → has R k xs ≡ found
  has_from k true [] h = absurd h
  has_from k true (x ∷ xs) h = ap (λ r. is_eq r || has R k xs) h
  has_from k false xs h = has-above R k xs h

  -- the key is there exactly where it was found
  pub found_is : (k : K) (bs : List (List K)) (i at : ℕ) (found : Bool) → Stands R k bs i at found → has R k (keys_of bs) ≡ found
  found_is k bs i at found s =
      ap (has R k) (at_position bs i at)
      ∙ has-append R k (keys_before bs i at) (keys_from bs i at)
      ∙ ap (λ b. b || has R k (keys_from bs i at)) (has-below k _ s.below)
      ∙ has_from k found _ s.begins

  insert_key-below : (k : K) (xs ys : List K) → Below R k xs → insert_key R (xs ++ ys) k ≡ xs ++ insert_key R ys k
  insert_key-below k [] ys h = refl
  insert_key-below k (x ∷ xs) ys h =
      ap (λ r. match_ordering r (k ∷ x ∷ (xs ++ ys)) (x ∷ (xs ++ ys)) (x ∷ insert_key R (xs ++ ys) k)) (turned o x k Less h.0)
      ∙ ap (λ l. x ∷ l) (insert_key-below k xs ys h.1)

  insert_key-above : (k : K) (ys : List K) → Above R k ys → insert_key R ys k ≡ k ∷ ys
  insert_key-above k [] h = refl
  insert_key-above k (y ∷ ys) h = ap (λ r. match_ordering r (k ∷ y ∷ ys) (y ∷ ys) (y ∷ insert_key R ys k)) h.0

  -- a key that isn't there comes in at its position
  pub insert_key_at : (k : K) (bs : List (List K)) (i at : ℕ) → Stands R k bs i at false → insert_key R (keys_of bs) k ≡ keys_before bs i at ++ (k ∷ keys_from bs i at)
  insert_key_at k bs i at s =
      ap (λ l. insert_key R l k) (at_position bs i at)
      ∙ insert_key-below k (keys_before bs i at) (keys_from bs i at) s.below
      ∙ ap (λ l. keys_before bs i at ++ l) (insert_key-above k (keys_from bs i at) s.begins)

  insert_key_tied : (k : K) (ys : List K) → Begins R k true ys → insert_key R ys k ≡ ys
  insert_key_tied k [] h = absurd h
  insert_key_tied k (y ∷ ys) h = ap (λ r. match_ordering r (k ∷ y ∷ ys) (y ∷ ys) (y ∷ insert_key R ys k)) h

  -- a key that is there changes nothing
  pub insert_key_there : (k : K) (bs : List (List K)) (i at : ℕ) → Stands R k bs i at true → insert_key R (keys_of bs) k ≡ keys_of bs
  insert_key_there k bs i at s =
      ap (λ l. insert_key R l k) (at_position bs i at)
      ∙ insert_key-below k (keys_before bs i at) (keys_from bs i at) s.below
      ∙ ap (λ l. keys_before bs i at ++ l) (insert_key_tied k (keys_from bs i at) s.begins)
      ∙ sym (at_position bs i at)

  -- a position in equal blocks
  pub Stands-same : (k : K) (bs cs : List (List K)) (i at : ℕ) (found is : Bool) → bs ≡ cs → found ≡ is → Stands R k bs i at found → Stands R k cs i at is
  Stands-same k bs cs i at found is e f s = subst (λ l. Stands R k l i at is) e (subst (λ b. Stands R k bs i at b) f s)
