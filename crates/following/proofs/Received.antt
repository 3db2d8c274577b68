-- What follows where a record is received, and where one is applied.
use Rattle.std.proofs.Common.{◌≡◌, ℕ, zero, suc, ◌+◌, ◌<◌, ◌≤◌, ◌==◌, Bool, true, false, cond, nat_lt, is_some, List, [], ◌∷◌, ◌++◌, Option, None, Some, IfSome, IsSome, Result, Err, inl, inr, refl, sym, ◌∙◌, ap, subst, arith}
use Rattle.std.proofs.lemmas.Bool.Decides.{nat_tests}
use Rattle.replica.specs.declared.record.PatchRecord.{PatchRecord}
use Rattle.replica.specs.Replica.{Follows, HasRoomForNext, HasNoRoomForNext, ReplicaState, after, nothing_received, numbered, patched_if, terms_with}
use Rattle.replica.proofs.Following.{follows_nothing}
use Rattle.term_pool.specs.declared.fault.PoolFault.{PoolFault}
use Rattle.term_pool.specs.declared.fault.PoolFault.TheVariants.{Full, OutOfMemory as PoolOutOfMemory}
use Rattle.following.specs.{Stop.HeldUp, Stop.stop_of_store, Taking.HadRoom, Taking.HasApplied, Taking.HasReceived, Taking.IsRecordOverfull}

-- ---- records behind the others

-- a number that is there stands for the record that it stood for
pub still_numbered : (n : ℕ) (items more : List PatchRecord) → is_some (numbered n items) ≡ true → numbered n (items ++ more) ≡ numbered n items
still_numbered n [] more there = cc
still_numbered n (x ∷ xs) more there = by (n == x.number) (still_numbered n xs more) there
  where
    by : (b : Bool) → (is_some (numbered n xs) ≡ true → numbered n (xs ++ more) ≡ numbered n xs) → is_some (cond b (Some x) (numbered n xs)) ≡ true → cond b (Some x) (numbered n (xs ++ more)) ≡ cond b (Some x) (numbered n xs)
    by true rest h = refl
    by false rest h = rest h

-- the triples after the records that are there are the same
pub still_after : (items more : List PatchRecord) (n : ℕ) → ((k : ℕ) → 0 < k → k ≤ n → IsSome (numbered k items)) → after (items ++ more) n ≡ after items n
still_after items more zero there = refl
still_after items more (suc n) there =
    ap (λ ts. patched_if ts (numbered (suc n) (items ++ more))) (still_after items more n (λ k low high. there k low (omega arith)))
    ∙ ap (λ o. patched_if (after items n) o) (still_numbered (suc n) items more (there (suc n) (omega arith) (omega arith)))

still_roomed : (room : ℕ) (items more : List PatchRecord) (n : ℕ) → ((k : ℕ) → 0 < k → k ≤ n → IsSome (numbered k items)) → HadRoom room items n → HadRoom room (items ++ more) n
still_roomed room items more n there roomed k below =
    subst (λ o. IfSome o (λ it. terms_with (after (items ++ more) k) it.adds ≤ room)) (sym (still_numbered (k + 1) items more (there (k + 1) (omega arith) (omega arith))))
    (subst (λ ts. IfSome (numbered (k + 1) items) (λ it. terms_with ts it.adds ≤ room)) (sym (still_after items more k (λ j low high. there j low (omega arith)))) (roomed k below))

-- a record was received
pub receives : (items : List PatchRecord) (item : PatchRecord) (old new : ReplicaState) → new ≡ record old { waiting = new.waiting } → Follows (items ++ item ∷ []) new → HasReceived items old → HasReceived (items ++ item ∷ []) new
receives items item old new others follows received = record {
  follows = follows;
  roomed = subst (λ n. HadRoom n (items ++ item ∷ []) new.applied) (sym (ap (λ (s : ReplicaState). s.limit) others))
      (subst (HadRoom old.limit (items ++ item ∷ [])) (sym (ap (λ (s : ReplicaState). s.applied) others))
      (still_roomed old.limit items (item ∷ []) old.applied received.follows.received received.roomed));
}

-- ---- a record is applied

less : (m n : ℕ) → nat_lt m n ≡ true → m < n
less m n h = grind (arith, nat_tests)

no_less : (m n : ℕ) → nat_lt m n ≡ false → n ≤ m
no_less m n h = grind (arith, nat_tests)

module _ (items : List PatchRecord) (old new : ReplicaState) (received : HasReceived items old) (follows : Follows items new) (limit : new.limit ≡ old.limit) where
  -- there was room for the next record
  next_roomed : HasRoomForNext old → IfSome (numbered (old.applied + 1) items) (λ item. terms_with (after items old.applied) item.adds ≤ old.limit)
  next_roomed room = by (numbered (old.applied + 1) items) refl
    where
      by : (o : Option PatchRecord) → numbered (old.applied + 1) items ≡ o → IfSome o (λ item. terms_with (after items old.applied) item.adds ≤ old.limit)
      by None is = tt
      by (Some item) is = subst (λ ts. terms_with ts item.adds ≤ old.limit) received.follows.triples (room item (received.follows.waits (old.applied + 1) (omega arith) ∙ is))

  -- the next record was applied
  pub moves : HasRoomForNext old → new.applied ≡ old.applied + 1 → HasReceived items new
  moves room applied = record { follows = follows; roomed = λ k below. subst (λ n. IfSome (numbered (k + 1) items) (λ item. terms_with (after items k) item.adds ≤ n)) (sym limit) (by k (nat_lt k old.applied) refl (omega (arith, below, applied))) }
    where
      by : (k : ℕ) (b : Bool) → nat_lt k old.applied ≡ b → k ≤ old.applied → IfSome (numbered (k + 1) items) (λ item. terms_with (after items k) item.adds ≤ old.limit)
      by k true is high = received.roomed k (less k old.applied is)
      by k false is high =
          let low = no_less k old.applied is in
          let same : k ≡ old.applied = omega (arith, low, high) in
          subst (λ n. IfSome (numbered (n + 1) items) (λ item. terms_with (after items n) item.adds ≤ old.limit)) (sym same) (next_roomed room)

  -- none was due
  pub rests : new.applied ≡ old.applied → is_some (numbered (old.applied + 1) items) ≡ false → HasApplied items new
  rests applied missing = record {
    received = record { follows = follows; roomed = subst (λ n. HadRoom n items new.applied) (sym limit) (subst (HadRoom old.limit items) (sym applied) received.roomed) };
    greatest = record { received = follows.received; missing = ap (λ n. is_some (numbered (n + 1) items)) applied ∙ missing };
  }

-- there is no room for the next record
pub overfull : (items : List PatchRecord) (state : ReplicaState) → HasReceived items state → HasNoRoomForNext state → IsRecordOverfull state.limit items
overfull items state received full = record {
  applied = state.applied;
  received = received.follows.received;
  roomed = received.roomed;
  item = full.item;
  next = sym (received.follows.waits (state.applied + 1) (omega arith)) ∙ full.waits;
  over = subst (λ ts. state.limit < terms_with ts full.item.adds) received.follows.triples full.over;
}

abbrev fault_is : PoolFault → Result Bool PoolFault
fault_is fault = Err fault

-- a fault of the replica
pub held_up : (fault : PoolFault) (old state : ReplicaState) → (fault_is fault ≡ fault_is Full → HasNoRoomForNext state) → ((items : List PatchRecord) → HasReceived items old → HasReceived items state) → state.limit ≡ old.limit →
    HeldUp (stop_of_store fault) ((items : List PatchRecord) → HasReceived items old → IsRecordOverfull old.limit items)
held_up Full old state full kept limit = inl (refl, λ items received. subst (λ n. IsRecordOverfull n items) limit (overfull items state (kept items received) (full refl)))
held_up PoolOutOfMemory old state full kept limit = inr refl

-- nothing was received
pub none_applied : (room : ℕ) → HasApplied [] (nothing_received room)
none_applied room = record {
  received = record { follows = follows_nothing room; roomed = λ k below. absurd (omega arith) };
  greatest = record { received = λ n low high. absurd (omega arith); missing = refl };
}
