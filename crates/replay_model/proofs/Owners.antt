-- The owners of a triple change by the entity whose record is put in, and the union has what has an owner.
use Rattle.std.proofs.Common.{◌≡◌, ℕ, ◌+◌, Bool, true, false, not, cond, ◌&&◌, ◌||◌, T, List, [], ◌∷◌, Option, None, Some, Ordering, Less, Equal, Greater, is_eq, nat_lt, sum_by, count_by, flat_map, unwrap_or, refl, sym, ◌∙◌, ap, true≢false, lt-ltb, arith}
use Rattle.std.specs.FinMap as map
use Rattle.std.specs.FinMap.{IsAntisymmetric, find, put, is_sorted}
use Rattle.std.specs.FinMap.Entries.{below_all, by_order}
use Rattle.std.specs.Cmp.{IsTotalOrder}
use Rattle.std.proofs.lemmas.List.Sums.{sum_by-cons}
use Rattle.entity_model.specs.declared.id.EntityId.{EntityId}
use Rattle.entity_model.specs.EntityId.{entity_cmp, entity_cmp_total, entity_cmp_same}
use Rattle.entity_state.specs.declared.record.Record.{Record}
use Rattle.entity_state.specs.Record.{blank}
use Rattle.sorted_sets.specs.Rising.{has, difference, IsRising}
use Rattle.sorted_sets.proofs.Keys.{and_first, and_second, less}
use Rattle.sorted_sets.proofs.Rising.{has-append, has-sorted, IsRising-sorted}
use Rattle.sorted_sets.proofs.Filtering.{has-difference}
use Rattle.replay_model.specs.Records.{Bytes, Records, record_of}
use Rattle.replay_model.specs.Union.{Meaning, triples_held, triples_at, union, owners}

module _ {K X : Type 0} {R : K → K → Ordering} (o : IsTotalOrder R) where
  -- a key below the keys of all entries isn't found
  find_below : (k y : K) (es : List (K × X)) → R k y ≡ Less → T (below_all R y es) → find R k es ≡ None
  find_below k y [] low h = refl
  find_below k y (e ∷ es) low h =
      ap (λ r. cond (is_eq r) (Some e.1) (find R k es)) (o.trans k y e.0 low (less _ (and_first _ _ h))) ∙ find_below k y es low (and_second _ _ h)

-- what an entry at a key adds to a sum
abbrev share : {K X : Type 0} → ((K × X) → ℕ) → K → Option X → ℕ
share f k None = 0
share f k (Some v) = f (k, v)

module _ {K X : Type 0} {R : K → K → Ordering} (o : IsTotalOrder R) (same : IsAntisymmetric R) where
  sum_by-put : (f : (K × X) → ℕ) (k : K) (v : X) (es : List (K × X)) → T (is_sorted R es) → sum_by f (put R k v es) + share f k (find R k es) ≡ sum_by f es + f (k, v)
  sum_by-put f k v [] h = omega arith
  sum_by-put f k v (e ∷ es) h =
      elim (R k e.0) as (λ r. R k e.0 ≡ r → sum_by f (by_order r ((k, v) ∷ e ∷ es) ((e.0, v) ∷ es) (e ∷ put R k v es)) + share f k (cond (is_eq r) (Some e.1) (find R k es)) ≡ sum_by f (e ∷ es) + f (k, v)) [
        | Less ↦ λ less.
            let none : share f k (find R k es) ≡ 0 = ap (share f k) (find_below o k e.0 es less (and_first _ _ h)) in
            omega (arith, sum_by-cons f (k, v) (e ∷ es))
        | Equal ↦ λ tie.
            let new : f (e.0, v) ≡ f (k, v) = ap (λ y. f (y, v)) (sym (same k e.0 tie)) in
            let old : f (k, e.1) ≡ f e = ap (λ y. f (y, e.1)) (same k e.0 tie) in
            omega (arith, sum_by-cons f (e.0, v) es, sum_by-cons f e es)
        | Greater ↦ λ _. omega (arith, sum_by-cons f e (put R k v es), sum_by-cons f e es, sum_by-put f k v es (and_second _ _ h))
      ] refl

module _ {Triple : Type 0} (order : Triple → Triple → Ordering) (meaning : Meaning Triple) where
  -- what an entry adds to the owners of a triple
  abbrev owned : Triple → (EntityId × Record Bytes) → ℕ
  owned t entry = cond (has order t (triples_at meaning entry)) 1 0

  share-record : (t : Triple) (x : EntityId) (found : Option (Record Bytes)) → share (owned t) x found ≡ owned t (x, unwrap_or found blank)
  share-record t x None = refl
  share-record t x (Some r) = refl

  -- the owners after a record is put in: the new record's share comes, and the old one's goes
  owners-insert : (m : Records) (x : EntityId) (r : Record Bytes) (t : Triple) → owners order meaning (map.insert m x r) t + owned t (x, record_of m x) ≡ owners order meaning m t + owned t (x, r)
  owners-insert m x r t =
      ap (λ es. sum_by (owned t) es + owned t (x, record_of m x)) (map.entries-insert entity_cmp_total m x r)
      ∙ ap (λ n. sum_by (owned t) (put entity_cmp x r (map.entries m)) + n) (sym (share-record t x (map.get m x)) ∙ ap (share (owned t) x) (map.get-entries m x))
      ∙ sum_by-put entity_cmp_total entity_cmp_same (owned t) x r (map.entries m) (map.entries_sorted m)

  -- the entity's triples before and after a record is put in
  abbrev before : Records → EntityId → List Triple
  before m x = triples_held meaning x (record_of m x).held

  abbrev after : EntityId → Record Bytes → List Triple
  after x r = triples_held meaning x r.held

  by_owned : (a b : Bool) (n k : ℕ) → n + cond a 1 0 ≡ k + cond b 1 0 → ((not a && b) ≡ true → n ≡ k + 1) × ((not b && a) ≡ true → n + 1 ≡ k) × ((not a && b) ≡ false → (not b && a) ≡ false → n ≡ k)
  by_owned true true n k e = (λ h. absurd (true≢false (sym h)), λ h. absurd (true≢false (sym h)), λ _ _. omega arith)
  by_owned true false n k e = (λ h. absurd (true≢false (sym h)), λ _. omega arith, λ _ h. absurd (true≢false h))
  by_owned false true n k e = (λ _. omega arith, λ h. absurd (true≢false (sym h)), λ h _. absurd (true≢false h))
  by_owned false false n k e = (λ h. absurd (true≢false (sym h)), λ h. absurd (true≢false (sym h)), λ _ _. omega arith)

module _ {Triple : Type 0} {order : Triple → Triple → Ordering} (o : IsTotalOrder order) (meaning : Meaning Triple) where
  -- a triple that the entity gains has one owner more, one that it loses has one less, and the others have as many
  pub owners-change : (m : Records) (x : EntityId) (r : Record Bytes) (t : Triple)
      → (has order t (difference order (after order meaning x r) (before order meaning m x)) ≡ true → owners order meaning (map.insert m x r) t ≡ owners order meaning m t + 1)
      × (has order t (difference order (before order meaning m x) (after order meaning x r)) ≡ true → owners order meaning (map.insert m x r) t + 1 ≡ owners order meaning m t)
      × (has order t (difference order (after order meaning x r) (before order meaning m x)) ≡ false → has order t (difference order (before order meaning m x) (after order meaning x r)) ≡ false → owners order meaning (map.insert m x r) t ≡ owners order meaning m t)
  owners-change m x r t =
      let old = before order meaning m x in
      let new = after order meaning x r in
      let changes = by_owned order meaning (has order t old) (has order t new) _ _ (owners-insert order meaning m x r t) in
      let gained = has-difference o t new old in
      let lost = has-difference o t old new in
      (λ h. changes.0 (sym gained ∙ h), λ h. changes.1 (sym lost ∙ h), λ h k. changes.2 (sym gained ∙ h) (sym lost ∙ k))

  has-flat_map : (t : Triple) (entries : List (EntityId × Record Bytes)) → has order t (flat_map (triples_at meaning) entries) ≡ nat_lt 0 (count_by (λ entry. has order t (triples_at meaning entry)) entries)
  has-flat_map t [] = refl
  has-flat_map t (entry ∷ entries) =
      has-append order t (triples_at meaning entry) (flat_map (triples_at meaning) entries)
      ∙ ap (λ b. has order t (triples_at meaning entry) || b) (has-flat_map t entries)
      ∙ counted (has order t (triples_at meaning entry)) (count_by (λ entry. has order t (triples_at meaning entry)) entries)
      ∙ ap (nat_lt 0) (sym (sum_by-cons (λ entry. cond (has order t (triples_at meaning entry)) 1 0) entry entries))
    where
      counted : (b : Bool) (n : ℕ) → (b || nat_lt 0 n) ≡ nat_lt 0 (cond b 1 0 + n)
      counted true n = sym (lt-ltb 0 (1 + n) (omega arith))
      counted false n = ap (nat_lt 0) (omega arith)

  -- the union has exactly the triples that have an owner
  pub has-union : (m : Records) (t : Triple) → has order t (union order meaning m) ≡ nat_lt 0 (owners order meaning m t)
  has-union m t = has-sorted o t (flat_map (triples_at meaning) (map.entries m)) ∙ has-flat_map t (map.entries m)

  -- the union rises
  pub union-rises : (m : Records) → IsRising order (union order meaning m)
  union-rises m = IsRising-sorted o (flat_map (triples_at meaning) (map.entries m))
