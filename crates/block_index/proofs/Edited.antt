-- What a change at one block leaves of the keys and of the other blocks.
use Rattle.std.proofs.Common.{◌≡◌, ℕ, zero, suc, ◌+◌, ◌-◌, ◌<◌, true, false, List, [], ◌∷◌, ◌++◌, length, get_or, set, take, drop, Ordering, refl, sym, ◌∙◌, ap, subst, append_assoc, length-append, arith, add-one}
use Rattle.std.specs.Cmp.{IsTotalOrder}
use Rattle.std.specs.List.{insert, remove}
use Rattle.std.specs.Ordering.{eq_by_cmp}
use Rattle.std.specs.BTreeSet.{insert_key}
use Rattle.std.specs.Set.{remove_key}
use Rattle.std.proofs.lemmas.List.{append-nil, length-take, set_split}
use Rattle.std.proofs.Math.Seq.{drop-cons}
use Rattle.sorted_sets.specs.Rising.{IsRising}
use Rattle.sorted_sets.proofs.Rising.{IsRising-insert_key}
use Rattle.block_index.specs.Blocks.{keys_of, IsFilled, AreFilled, ChangesTwo, IsIndex}
use Rattle.block_index.specs.Search.{keys_before, keys_from, Stands}
use Rattle.block_index.specs.Edit.{Edits}
use Rattle.block_index.proofs.Parts.{keys_of-append, at_position, AreFilled-append, AreFilled-take, AreFilled-drop}
use Rattle.block_index.proofs.Removed.{IsRising-remove_key, remove_key_at}
use Rattle.block_index.proofs.Standing.{insert_key_at}

module _ {K : Type 0} where
  -- a block in the place of another
  pub edits_one : (bs : List (List K)) (i : ℕ) (b : List K) → i < length bs → IsFilled b → Edits bs (set bs i b) i b
  edits_one bs i b l f = record {
    mid = b ∷ [];
    few = omega arith;
    new_is = set_split bs i b l;
    keys_are = append-nil b;
    filled = (f, tt);
  }

  two_in : (bs : List (List K)) (i : ℕ) (low high : List K) → i < length bs → set (take (suc i) bs ++ high ∷ drop (suc i) bs) i low ≡ take i bs ++ (low ∷ high ∷ drop (suc i) bs)
  two_in [] i low high l = absurd (omega arith)
  two_in (b ∷ bs) zero low high l = refl
  two_in (b ∷ bs) (suc i) low high l = ap (λ rest. b ∷ rest) (two_in bs i low high (omega arith))

  -- two in its place
  pub edits_two : (bs : List (List K)) (i : ℕ) (low high keys : List K) → i < length bs → IsFilled low → IsFilled high → low ++ high ≡ keys → Edits bs (set (insert bs (i + 1) high) i low) i keys
  edits_two bs i low high keys l fl fh are = record {
    mid = low ∷ high ∷ [];
    few = omega arith;
    new_is = subst (λ n. set (take n bs ++ high ∷ drop n bs) i low ≡ take i bs ++ (low ∷ high ∷ drop (suc i) bs)) (sym (add-one i)) (two_in bs i low high l);
    keys_are = ap (λ ks. low ++ ks) (append-nil high) ∙ are;
    filled = (fl, (fh, tt));
  }

  -- none in its place
  pub edits_none : (bs : List (List K)) (i : ℕ) → Edits bs (remove bs i) i []
  edits_none bs i = record { mid = []; few = omega arith; new_is = refl; keys_are = refl; filled = tt }

  -- the first block
  pub edits_first : (bs : List (List K)) (i : ℕ) (k : K) (keys : List K) → length bs ≡ i → (0 < length bs → i < length bs) → keys ≡ k ∷ [] → Edits bs (bs ++ (k ∷ []) ∷ []) i keys
  edits_first [] zero k keys past inside are = record { mid = (k ∷ []) ∷ []; few = omega arith; new_is = refl; keys_are = sym are; filled = ((omega arith, omega arith), tt) }
  edits_first [] (suc i) k keys past inside are = absurd (omega arith)
  edits_first (b ∷ bs) i k keys past inside are = let less : i < length (b ∷ bs) = inside (omega arith) in absurd (omega arith)

  keys_edited : (old new : List (List K)) (i : ℕ) (keys : List K) → Edits old new i keys → keys_of new ≡ keys_of (take i old) ++ (keys ++ keys_of (drop (suc i) old))
  keys_edited old new i keys e =
      ap keys_of e.new_is
      ∙ keys_of-append (take i old) (e.mid ++ drop (suc i) old)
      ∙ ap (λ l. keys_of (take i old) ++ l) (keys_of-append e.mid (drop (suc i) old) ∙ ap (λ l. l ++ keys_of (drop (suc i) old)) e.keys_are)

  regrouped : (a b c d : List K) → a ++ ((b ++ c) ++ d) ≡ (a ++ b) ++ (c ++ d)
  regrouped a b c d = ap (λ l. a ++ l) (append_assoc b c d) ∙ sym (append_assoc a b (c ++ d))

  keys_put : (old new : List (List K)) (i at : ℕ) (k : K) → Edits old new i (insert (get_or old i []) at k) → keys_of new ≡ keys_before old i at ++ (k ∷ keys_from old i at)
  keys_put old new i at k e =
      keys_edited old new i _ e ∙ regrouped (keys_of (take i old)) (take at (get_or old i [])) (k ∷ drop at (get_or old i [])) (keys_of (drop (suc i) old))

  keys_taken : (old new : List (List K)) (i at : ℕ) → Edits old new i (remove (get_or old i []) at) → keys_of new ≡ keys_before old i at ++ (drop (suc at) (get_or old i []) ++ keys_of (drop (suc i) old))
  keys_taken old new i at e =
      keys_edited old new i _ e ∙ regrouped (keys_of (take i old)) (take at (get_or old i [])) (drop (suc at) (get_or old i [])) (keys_of (drop (suc i) old))

  filled_edited : (old new : List (List K)) (i : ℕ) (keys : List K) → AreFilled old → Edits old new i keys → AreFilled new
  filled_edited old new i keys f e = subst AreFilled (sym e.new_is) (AreFilled-append _ _ (AreFilled-take i old f) (AreFilled-append e.mid _ e.filled (AreFilled-drop (suc i) old f)))

  opened : (xs : List (List K)) (i : ℕ) → xs ≡ take i xs ++ (take (suc zero) (drop i xs) ++ drop (suc i) xs)
  opened [] zero = refl
  opened [] (suc i) = refl
  opened (x ∷ xs) zero = refl
  opened (x ∷ xs) (suc i) = ap (λ l. x ∷ l) (opened xs i)

  -- all other blocks stay
  pub changes_two : (old new : List (List K)) (i : ℕ) (keys : List K) → Edits old new i keys → ChangesTwo old new
  changes_two old new i keys e = record {
    before = take i old;
    was = take (suc zero) (drop i old);
    is = e.mid;
    after = drop (suc i) old;
    few_were = omega (arith, length-take (suc zero) (drop i old));
    few_are = e.few;
    old_is = opened old i;
    new_is = e.new_is;
  }

  pub changes_none : (old : List (List K)) → ChangesTwo old old
  changes_none old = record { before = []; was = []; is = []; after = old; few_were = omega arith; few_are = omega arith; old_is = refl; new_is = refl }

module _ {K : Type 0} {R : K → K → Ordering} (o : IsTotalOrder R) where
  pub put_is : (k : K) (old new : List (List K)) (i at : ℕ) → Stands R k old i at false → Edits old new i (insert (get_or old i []) at k) → keys_of new ≡ insert_key R (keys_of old) k
  put_is k old new i at s e = keys_put old new i at k e ∙ sym (insert_key_at o k old i at s)

  pub taken_is : (k : K) (old new : List (List K)) (i at : ℕ) → Stands R k old i at true → Edits old new i (remove (get_or old i []) at) → keys_of new ≡ remove_key (eq_by_cmp R k) (keys_of old)
  taken_is k old new i at s e = keys_taken old new i at e ∙ sym (remove_key_at o k old i at s)

  pub IsIndex-put : (k : K) (old new : List (List K)) (i at count next : ℕ) → IsIndex R old count → Stands R k old i at false → Edits old new i (insert (get_or old i []) at k) → count + 1 ≡ next → IsIndex R new next
  IsIndex-put k old new i at count next h s e more =
      let counted = h.counted in
      let put = ap length (keys_put old new i at k e) in
      let was = ap length (at_position old i at) in
      record {
        filled = filled_edited old new i _ h.filled e;
        rising = subst (IsRising R) (sym (put_is k old new i at s e)) (IsRising-insert_key o k _ h.rising);
        counted = omega (arith, put, was, length-append (keys_before old i at) (k ∷ keys_from old i at), length-append (keys_before old i at) (keys_from old i at));
      }

  pub IsIndex-taken : (k : K) (old new : List (List K)) (i at count : ℕ) → IsIndex R old count → Stands R k old i at true → Edits old new i (remove (get_or old i []) at) → (0 < count) × IsIndex R new (count - 1)
  IsIndex-taken k old new i at count h s e =
      let counted = h.counted in
      let rest = keys_of (drop (suc i) old) in
      let first = drop-cons (get_or old i []) at k (s.here refl).1 in
      let after = drop (suc at) (get_or old i []) ++ rest in
      let taken = ap length (keys_taken old new i at e) in
      let was = ap length (at_position old i at ∙ ap (λ l. keys_before old i at ++ (l ++ rest)) first) in
      let a = length-append (keys_before old i at) (get_or (get_or old i []) at k ∷ after) in
      let b = length-append (keys_before old i at) after in (
        omega (arith, was, a),
        record {
          filled = filled_edited old new i _ h.filled e;
          rising = subst (IsRising R) (sym (taken_is k old new i at s e)) (IsRising-remove_key R _ _ h.rising);
          counted = omega (arith, taken, was, a, b);
        },
      )
