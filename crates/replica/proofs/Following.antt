-- What follows where a record is received, and where one is applied.
use Rattle.std.proofs.Common.{◌≡◌, ℕ, zero, suc, ◌+◌, ◌^◌, ◌<◌, ◌≤◌, ◌==◌, Bool, true, false, cond, ◌||◌, nat_le, is_some, is_eq, List, [], ◌∷◌, ◌++◌, Option, None, Some, IsSome, MatchOption, refl, sym, ◌∙◌, ap, subst, arith}
use Rattle.std.specs.{Ordering.nat_cmp, BTreeMap.is_at}
use Rattle.std.proofs.lemmas.Bool.Decides.{nat_tests}
use Rattle.sorted_sets.proofs.Bools.{or_false_left, or_false_right}
use Rattle.replica.specs.{declared.record.PatchRecord.PatchRecord, Record.IsSound}
use Rattle.replica.specs.Replica.{Follows, HasNoRoomForNext, IsWaiting, ReplicaState, after, is_known, numbered, patched_if, terms_with, waiting_at}

-- ---- the first record with a number

same_number : (n : ℕ) → (n == n) ≡ true
same_number n = grind (arith, nat_tests)

equal_numbers : (m n : ℕ) → (m == n) ≡ true → m ≡ n
equal_numbers m n h = grind (arith, nat_tests)

smaller_numbers : (m n : ℕ) → m < n → (m == n) ≡ false
smaller_numbers m n h = grind (arith, nat_tests)

at_same : (m k : ℕ) → is_eq (nat_cmp m k) ≡ true → k ≡ m
at_same m k h = grind (arith, nat_tests)

at_other : (m k : ℕ) → is_eq (nat_cmp m k) ≡ false → (k == m) ≡ false
at_other m k h = grind (arith, nat_tests)

apart_from : (m k : ℕ) → is_eq (nat_cmp m k) ≡ false → m ≤ k → m < k
apart_from m k h low = grind (arith, nat_tests)

within : (n m : ℕ) → nat_le n m ≡ true → n ≤ m
within n m h = grind (arith, nat_tests)

above : (n m : ℕ) → nat_le n m ≡ false → m < n
above n m h = grind (arith, nat_tests)

-- a record behind the others with another number changes nothing
push_other : (n : ℕ) (items : List PatchRecord) (item : PatchRecord) → (n == item.number) ≡ false → numbered n (items ++ item ∷ []) ≡ numbered n items
push_other n [] item other = rw other refl
push_other n (x ∷ xs) item other = ap (λ o. cond (n == x.number) (Some x) o) (push_other n xs item other)

-- nor one whose number is there
push_again : (n : ℕ) (items : List PatchRecord) (item : PatchRecord) → is_some (numbered n items) ≡ true → numbered n (items ++ item ∷ []) ≡ numbered n items
push_again n [] item there = cc
push_again n (x ∷ xs) item there = by (n == x.number) (push_again n xs item) there
  where
    by : (b : Bool) → (is_some (numbered n xs) ≡ true → numbered n (xs ++ item ∷ []) ≡ numbered n xs) → is_some (cond b (Some x) (numbered n xs)) ≡ true → cond b (Some x) (numbered n (xs ++ item ∷ [])) ≡ cond b (Some x) (numbered n xs)
    by true rest h = refl
    by false rest h = rest h

-- a new one is there behind them
push_new : (n : ℕ) (items : List PatchRecord) (item : PatchRecord) → n ≡ item.number → is_some (numbered n items) ≡ false → numbered n (items ++ item ∷ []) ≡ Some item
push_new n [] item is absent = ap (λ b. cond b (Some item) None) (ap (λ m. n == m) (sym is) ∙ same_number n)
push_new n (x ∷ xs) item is absent = by (n == x.number) (push_new n xs item is) absent
  where
    by : (b : Bool) → (is_some (numbered n xs) ≡ false → numbered n (xs ++ item ∷ []) ≡ Some item) → is_some (cond b (Some x) (numbered n xs)) ≡ false → cond b (Some x) (numbered n (xs ++ item ∷ [])) ≡ Some item
    by true rest h = cc
    by false rest h = rest h

-- records that agree up to a number lead to the same triples
after_agree : (items others : List PatchRecord) (n : ℕ) → ((k : ℕ) → 0 < k → k ≤ n → numbered k items ≡ numbered k others) → after items n ≡ after others n
after_agree items others zero same = refl
after_agree items others (suc n) same =
    ap (λ ts. patched_if ts (numbered (suc n) items)) (after_agree items others n (λ k low high. same k low (omega arith)))
    ∙ ap (λ o. patched_if (after others n) o) (same (suc n) (omega arith) (omega arith))

-- ---- what is known

pub known_some : (items : List PatchRecord) (state : ReplicaState) (n : ℕ) → 0 < n → is_known state n ≡ true → Follows items state → is_some (numbered n items) ≡ true
known_some items state n low known h = by (nat_le n state.applied) refl known
  where
    by : (b : Bool) → nat_le n state.applied ≡ b → (b || is_some (waiting_at state.waiting n)) ≡ true → is_some (numbered n items) ≡ true
    by true is k = h.received n low (within n state.applied is)
    by false is k = ap is_some (sym (h.waits n (above n state.applied is))) ∙ k

pub above_applied : (state : ReplicaState) (n : ℕ) → is_known state n ≡ false → state.applied < n
above_applied state n known = above n state.applied (or_false_left (nat_le n state.applied) (is_some (waiting_at state.waiting n)) known)

pub known_none : (items : List PatchRecord) (state : ReplicaState) (n : ℕ) → is_known state n ≡ false → Follows items state → is_some (numbered n items) ≡ false
known_none items state n known h =
    ap is_some (sym (h.waits n (above_applied state n known))) ∙ or_false_right (nat_le n state.applied) (is_some (waiting_at state.waiting n)) known

-- ---- a record is received

-- one whose number is known changes nothing
pub follows_again : (items : List PatchRecord) (item : PatchRecord) (state : ReplicaState) → 0 < item.number → is_known state item.number ≡ true → Follows items state → Follows (items ++ item ∷ []) state
follows_again items item state low known h = record {
  triples = h.triples ∙ after_agree items (items ++ item ∷ []) state.applied (λ k _ _. sym (same k));
  received = λ k first high. subst IsSome (sym (same k)) (h.received k first high);
  waits = λ k high. h.waits k high ∙ sym (same k);
}
  where
    there : is_some (numbered item.number items) ≡ true
    there = known_some items state item.number low known h

    by : (k : ℕ) (b : Bool) → (k == item.number) ≡ b → numbered k (items ++ item ∷ []) ≡ numbered k items
    by k true is = push_again k items item (ap (λ n. is_some (numbered n items)) (equal_numbers k item.number is) ∙ there)
    by k false is = push_other k items item is

    same : (k : ℕ) → numbered k (items ++ item ∷ []) ≡ numbered k items
    same k = by k (k == item.number) refl

-- a new one waits
pub follows_new : (items : List PatchRecord) (item : PatchRecord) (old new : ReplicaState) → new ≡ record old { waiting = new.waiting } →
    ((q : ℕ) → waiting_at new.waiting q ≡ cond (is_at (nat_cmp item.number) q) (Some item) (waiting_at old.waiting q)) → is_known old item.number ≡ false →
    Follows items old → Follows (items ++ item ∷ []) new
follows_new items item old new others kept known h = record {
  triples =
      ap (λ (s : ReplicaState). s.triples) others ∙ h.triples
      ∙ after_agree items (items ++ item ∷ []) old.applied (λ k _ high. sym (push_other k items item (smaller_numbers k item.number (omega (arith, high, higher)))))
      ∙ ap (after (items ++ item ∷ [])) (sym applied);
  received = λ k low high. subst IsSome (sym (push_other k items item (smaller_numbers k item.number (omega (arith, high, higher, applied))))) (h.received k low (omega (arith, high, applied)));
  waits = λ k high. kept k ∙ by k (is_eq (nat_cmp item.number k)) refl (omega (arith, high, applied));
}
  where
    higher : old.applied < item.number
    higher = above_applied old item.number known

    absent : is_some (numbered item.number items) ≡ false
    absent = known_none items old item.number known h

    applied : new.applied ≡ old.applied
    applied = ap (λ (s : ReplicaState). s.applied) others

    by : (k : ℕ) (b : Bool) → is_eq (nat_cmp item.number k) ≡ b → old.applied < k → cond b (Some item) (waiting_at old.waiting k) ≡ numbered k (items ++ item ∷ [])
    by k true is high = let same = at_same item.number k is in sym (push_new k items item same (ap (λ n. is_some (numbered n items)) same ∙ absent))
    by k false is high = h.waits k high ∙ sym (push_other k items item (at_other item.number k is))

-- what waits then
pub waiting_with : (applied : ℕ) (item : PatchRecord) (old new : List (ℕ × PatchRecord)) → applied < item.number → item.number < 2 ^ 64 → IsSound item →
    ((q : ℕ) → waiting_at new q ≡ cond (is_at (nat_cmp item.number) q) (Some item) (waiting_at old q)) →
    ((n : ℕ) (it : PatchRecord) → waiting_at old n ≡ Some it → IsWaiting applied n it) → (n : ℕ) (it : PatchRecord) → waiting_at new n ≡ Some it → IsWaiting applied n it
waiting_with applied item old new high small sound kept before n it is = by (is_eq (nat_cmp item.number n)) refl (sym (kept n) ∙ is)
  where
    by : (b : Bool) → is_eq (nat_cmp item.number n) ≡ b → cond b (Some item) (waiting_at old n) ≡ Some it → IsWaiting applied n it
    by true at found =
        let same : n ≡ item.number = at_same item.number n at in
        let record_is : item ≡ it = cc in
        rw (← record_is, same) (record { number_is = refl; above = high; small = small; sound = sound })
    by false at found = before n it found

-- ---- a record is applied

-- what waits then
pub waiting_without : (applied : ℕ) (old new : List (ℕ × PatchRecord)) →
    ((q : ℕ) → waiting_at new q ≡ cond (is_at (nat_cmp (applied + 1)) q) None (waiting_at old q)) →
    ((n : ℕ) (it : PatchRecord) → waiting_at old n ≡ Some it → IsWaiting applied n it) → (n : ℕ) (it : PatchRecord) → waiting_at new n ≡ Some it → IsWaiting (applied + 1) n it
waiting_without applied old new left before n it is = by (is_eq (nat_cmp (applied + 1) n)) refl (sym (left n) ∙ is)
  where
    by : (b : Bool) → is_eq (nat_cmp (applied + 1) n) ≡ b → cond b None (waiting_at old n) ≡ Some it → IsWaiting (applied + 1) n it
    by true at found = cc
    by false at found =
        let waits = before n it found in
        record { number_is = waits.number_is; above = apart_from (applied + 1) n at (omega (arith, waits.above)); small = waits.small; sound = waits.sound }

-- nothing has been received
pub follows_nothing : (limit : ℕ) → Follows [] (record { triples = []; applied = 0; waiting = []; limit = limit })
follows_nothing limit = record { triples = refl; received = λ n low high. absurd (omega arith); waits = λ n high. refl }

-- there is no room for the next record
pub full_is : (state : ReplicaState) → MatchOption (waiting_at state.waiting (state.applied + 1)) ⊥ (λ item. state.limit < terms_with state.triples item.adds) → HasNoRoomForNext state
full_is state full = by (waiting_at state.waiting (state.applied + 1)) refl full
  where
    by : (o : Option PatchRecord) → waiting_at state.waiting (state.applied + 1) ≡ o → MatchOption o ⊥ (λ item. state.limit < terms_with state.triples item.adds) → HasNoRoomForNext state
    by None is h = absurd h
    by (Some item) is h = record { item = item; waits = is; over = h }

-- no record has a number past the last of 64 bits
pub none_past : (items : List PatchRecord) (state : ReplicaState) (n : ℕ) → 2 ^ 64 ≤ n → state.applied < n → ((k : ℕ) (it : PatchRecord) → waiting_at state.waiting k ≡ Some it → IsWaiting state.applied k it) →
    Follows items state → is_some (numbered n items) ≡ false
none_past items state n past high before h = ap is_some (sym (h.waits n high)) ∙ by (waiting_at state.waiting n) refl
  where
    by : (o : Option PatchRecord) → waiting_at state.waiting n ≡ o → is_some o ≡ false
    by None is = refl
    by (Some it) is = absurd (omega (arith, past, (before n it is).small))
