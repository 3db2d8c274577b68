-- The invariant holds after any pages were put in one after the other, and exactly the strangers on them are counted.
use Rattle.std.proofs.Common.{◌≡◌, ℕ, ◌+◌, ◌-◌, ◌<◌, Bool, true, false, ◌||◌, List, [], ◌∷◌, ◌++◌, Option, None, Some, cond, fold, refl, sym, ◌∙◌, ap, arith}
use Rattle.std.specs.FinMap as map
use Rattle.std.specs.FinMap.{find}
use Rattle.std.specs.Cmp.{eq_by_cmp_equiv}
use Rattle.std.specs.List.{list_any}
use Rattle.std.specs.Ordering.{eq_by_cmp}
use Rattle.sorted_sets.specs.Counting.{one_if}
use Rattle.sorted_sets.specs.Rising.{difference, has, sorted}
use Rattle.sorted_sets.proofs.Bools.{equal, or_assoc, or_comm, or_none, or_swap}
use Rattle.rdf_term.specs.declared.triple.Triple.{Triple}
use Rattle.rdf_term.specs.Order.{triple_cmp}
use Rattle.entity_model.specs.declared.id.EntityId.{EntityId}
use Rattle.entity_model.specs.EntityId.{entity_cmp, entity_cmp_total, entity_cmp_same}
use Rattle.entity_state.specs.declared.record.Record.{Record}
use Rattle.replay_model.specs.Records.{Bytes, Records}
use Rattle.replay_model.specs.Union.{Meaning, owners, triples_at, triples_held, union}
use Rattle.shared_triples.specs.Lean.{AreCounted, AreNew, IsLean, OthersHoldAlike, own_of, stored_of, strangers, triples_of}
use Rattle.shared_triples.specs.Loading.{HasKeysOnce, LeanState, counted_in, loaded, loaded_from, loaded_one, nothing_held, put_in, ready_for}
use Rattle.shared_triples.proofs.Changing.{gained_in_order}
use Rattle.shared_triples.proofs.Holding.{has_owner, record_here}
use Rattle.shared_triples.proofs.Keeping.{at_start, counted_in-kept, put_in-alike, put_in-kept}
use Rattle.shared_triples.proofs.Parting.{left_true}

module _ (meaning : Meaning Triple) where
  -- the invariant of a state
  abbrev IsLeanState : LeanState → Type 0
  IsLeanState s = IsLean meaning s.counted s.count s.records

  all_counted_in : (s : LeanState) (xs : List EntityId) → IsLeanState s → IsLeanState (fold (counted_in meaning) s xs)
  all_counted_in s [] h = h
  all_counted_in s (x ∷ xs) h =
      all_counted_in (counted_in meaning s x) xs (counted_in-kept meaning s.counted (x ∷ s.counted) x (λ y. refl) s.count (counted_in meaning s x).count s.records h (λ t. refl))

  counted_after : (s : LeanState) (xs : List EntityId) (x : EntityId) → has entity_cmp x (fold (counted_in meaning) s xs).counted ≡ (has entity_cmp x s.counted || has entity_cmp x xs)
  counted_after s [] x = sym (or_none (has entity_cmp x s.counted))
  counted_after s (y ∷ ys) x =
      counted_after (counted_in meaning s y) ys x
      ∙ or_assoc (eq_by_cmp entity_cmp x y) (has entity_cmp x s.counted) (has entity_cmp x ys)
      ∙ or_swap (eq_by_cmp entity_cmp x y) (has entity_cmp x s.counted) (has entity_cmp x ys)

  same_records : (s : LeanState) (xs : List EntityId) → (fold (counted_in meaning) s xs).records ≡ s.records
  same_records s [] = refl
  same_records s (x ∷ xs) = same_records (counted_in meaning s x) xs

  exchanged : (a b : Bool) (n : ℕ) → (a ≡ true → 0 < n) → n + one_if b - one_if a + one_if a ≡ n + one_if b
  exchanged true b n some = let low : 0 < n = some refl in omega arith
  exchanged false b n some = omega arith

  put_in-lean : (s : LeanState) (entry : EntityId × Record Bytes) → IsLeanState s → AreCounted s.counted (strangers entry.0 (triples_at meaning entry)) → IsLeanState (put_in meaning s entry)
  put_in-lean s entry h known =
      put_in-kept meaning meaning entry.0 (λ y other rev bytes. refl) s.records entry.1 s.counted s.count (put_in meaning s entry).count h known (record {
        counts = λ t. exchanged (has triple_cmp t (triples_of (stored_of s.counted meaning) s.records entry.0)) (has triple_cmp t (triples_at (stored_of s.counted meaning) entry)) (s.count t)
            (λ there.
            let owned : 0 < owners triple_cmp (stored_of s.counted meaning) s.records t = has_owner (stored_of s.counted meaning) s.records entry.0 t there in
            let same : s.count t ≡ owners triple_cmp (stored_of s.counted meaning) s.records t = h.counts t in
            omega arith);
      })

  loaded_one-lean : (s : LeanState) (entry : EntityId × Record Bytes) → IsLeanState s → IsLeanState (loaded_one meaning s entry)
  loaded_one-lean s entry h =
      let others : List EntityId = strangers entry.0 (triples_at meaning entry) in
      put_in-lean (fold (counted_in meaning) s others) entry (all_counted_in s others h)
      (λ x there. counted_after s others x ∙ or_comm (has entity_cmp x s.counted) (has entity_cmp x others) ∙ left_true (has entity_cmp x others) _ there)

  pub loaded_from-lean : (s : LeanState) (entries : List (EntityId × Record Bytes)) → IsLean meaning s.counted s.count s.records
      → IsLean meaning (loaded_from meaning s entries).counted (loaded_from meaning s entries).count (loaded_from meaning s entries).records
  loaded_from-lean s [] h = h
  loaded_from-lean s (entry ∷ entries) h = loaded_from-lean (loaded_one meaning s entry) entries (loaded_one-lean s entry h)

  pub loaded-lean : (entries : List (EntityId × Record Bytes)) → IsLean meaning (loaded meaning entries).counted (loaded meaning entries).count (loaded meaning entries).records
  loaded-lean entries = loaded_from-lean nothing_held entries (at_start meaning [])

  pub loaded_from-records : (s : LeanState) (entries : List (EntityId × Record Bytes)) → (loaded_from meaning s entries).records ≡ fold (λ (records : Records) (entry : EntityId × Record Bytes). map.insert records entry.0 entry.1) s.records entries
  loaded_from-records s [] = refl
  loaded_from-records s (entry ∷ entries) =
      loaded_from-records (loaded_one meaning s entry) entries
      ∙ ap (λ (records : Records). fold (λ (records : Records) (entry : EntityId × Record Bytes). map.insert records entry.0 entry.1) (map.insert records entry.0 entry.1) entries)
      (same_records s (strangers entry.0 (triples_at meaning entry)))

  pub loaded_from-counted : (s : LeanState) (entries : List (EntityId × Record Bytes)) (x : EntityId) → has entity_cmp x (loaded_from meaning s entries).counted
      ≡ (has entity_cmp x s.counted || list_any (λ entry. has entity_cmp x (strangers entry.0 (triples_at meaning entry))) entries)
  loaded_from-counted s [] x = sym (or_none (has entity_cmp x s.counted))
  loaded_from-counted s (entry ∷ entries) x =
      let found : Bool = list_any (λ entry. has entity_cmp x (strangers entry.0 (triples_at meaning entry))) entries in
      loaded_from-counted (loaded_one meaning s entry) entries x
      ∙ ap (λ b. b || found) (counted_after s (strangers entry.0 (triples_at meaning entry)) x)
      ∙ or_assoc (has entity_cmp x s.counted) (has entity_cmp x (strangers entry.0 (triples_at meaning entry))) found

-- ---- what a page tells

module _ (meaning : Meaning Triple) (s : LeanState) (entry : EntityId × Record Bytes) (h : IsLean meaning s.counted s.count s.records) where
  abbrev ready : LeanState
  ready = ready_for meaning s entry

  abbrev after : LeanState
  after = loaded_one meaning s entry

  ready-lean : IsLean meaning ready.counted ready.count ready.records
  ready-lean = all_counted_in meaning s (strangers entry.0 (triples_at meaning entry)) h

  after-lean : IsLean meaning after.counted after.count after.records
  after-lean = loaded_one-lean meaning s entry h

  alike : OthersHoldAlike entry.0 meaning ready.records meaning after.records
  alike = put_in-alike meaning meaning entry.0 (λ y other rev bytes. refl) ready.records entry.1

  same : ready.records ≡ s.records
  same = same_records meaning s (strangers entry.0 (triples_at meaning entry))

  -- the page of the entity is the one that was put in
  page : triples_of (own_of ready.counted meaning) after.records entry.0 ≡ triples_at (own_of ready.counted meaning) entry
  page =
      ap (λ (r : Record Bytes). triples_held (own_of ready.counted meaning) entry.0 r.held)
      (record_here ready.records entry.0 entry.1 entry.0 ((eq_by_cmp_equiv entity_cmp_total).refl entry.0))

  pub loaded_one-adds : (came : List Triple) → AreNew ready.count after.count came
      → difference triple_cmp (union triple_cmp meaning after.records) (union triple_cmp meaning s.records)
      ≡ sorted triple_cmp (difference triple_cmp (triples_at (own_of ready.counted meaning) entry) (triples_of (own_of ready.counted meaning) s.records entry.0) ++ came)
  loaded_one-adds came told =
      ap (λ (records : Records). difference triple_cmp (union triple_cmp meaning after.records) (union triple_cmp meaning records)) (sym same)
      ∙ gained_in_order entry.0 ready.counted meaning meaning ready.count after.count ready.records after.records ready-lean after-lean alike came told
      ∙ (λ i. sorted triple_cmp (difference triple_cmp (page i) (triples_of (own_of ready.counted meaning) (same i) entry.0) ++ came))

  pub loaded_one-removes : (gone : List Triple) → AreNew after.count ready.count gone
      → difference triple_cmp (union triple_cmp meaning s.records) (union triple_cmp meaning after.records)
      ≡ sorted triple_cmp (difference triple_cmp (triples_of (own_of ready.counted meaning) s.records entry.0) (triples_at (own_of ready.counted meaning) entry) ++ gone)
  loaded_one-removes gone told =
      ap (λ (records : Records). difference triple_cmp (union triple_cmp meaning records) (union triple_cmp meaning after.records)) (sym same)
      ∙ gained_in_order entry.0 ready.counted meaning meaning after.count ready.count after.records ready.records after-lean ready-lean (λ y other. sym (alike y other)) gone told
      ∙ (λ i. sorted triple_cmp (difference triple_cmp (triples_of (own_of ready.counted meaning) (same i) entry.0) (page i) ++ gone))

-- ---- in any order

-- what is found, or else something other
abbrev or_else : Option (Record Bytes) → Option (Record Bytes) → Option (Record Bytes)
or_else None other = other
or_else (Some r) other = Some r

abbrev put_all : Records → List (EntityId × Record Bytes) → Records
put_all records entries = fold (λ (records : Records) (entry : EntityId × Record Bytes). map.insert records entry.0 entry.1) records entries

get-put_all : (records : Records) (entries : List (EntityId × Record Bytes)) → HasKeysOnce entries → (x : EntityId) → map.get (put_all records entries) x ≡ or_else (find entity_cmp x entries) (map.get records x)
get-put_all records [] once x = refl
get-put_all records (entry ∷ entries) once x =
    get-put_all (map.insert records entry.0 entry.1) entries once.1 x
    ∙ ap (or_else (find entity_cmp x entries)) (map.get-insert entity_cmp_total records entry.0 entry.1 x)
    ∙ by (eq_by_cmp entity_cmp x entry.0) refl
  where
    by : (b : Bool) → eq_by_cmp entity_cmp x entry.0 ≡ b
        → or_else (find entity_cmp x entries) (cond b (Some entry.1) (map.get records x)) ≡ or_else (cond b (Some entry.1) (find entity_cmp x entries)) (map.get records x)
    by true is =
        let none : find entity_cmp x entries ≡ None = ap (λ y. find entity_cmp y entries) (entity_cmp_same x entry.0 (equal _ is)) ∙ once.0 in
        ap (λ found. or_else found (Some entry.1)) none
    by false isnt = refl

no_other_records : (found : Option (Record Bytes)) → or_else found None ≡ found
no_other_records None = refl
no_other_records (Some r) = refl

pub loaded-any_order : (meaning : Meaning Triple) (records : Records) (entries : List (EntityId × Record Bytes)) → HasKeysOnce entries
    → ((x : EntityId) → find entity_cmp x entries ≡ map.get records x) → (loaded meaning entries).records ≡ records
loaded-any_order meaning records entries once each =
    loaded_from-records meaning nothing_held entries
    ∙ map.same_map entity_cmp_total entity_cmp_same _ _ (λ x.
    get-put_all map.empty entries once x
    ∙ ap (or_else (find entity_cmp x entries)) (map.get-empty entity_cmp x)
    ∙ no_other_records (find entity_cmp x entries)
    ∙ each x)
