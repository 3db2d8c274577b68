-- An entity that holds no page is counted in, or one can't be counted in.
use Rattle.std.proofs.Common.{◌≡◌, ℕ, ◌+◌, ◌<◌, ◌≤◌, Bool, true, false, cond, ◌||◌, List, [], ◌∷◌, ◌++◌, Option, Some, None, is_some, refl, sym, ◌∙◌, ap, subst, true≢false, arith}
use Rattle.std.specs.FinMap as map
use Rattle.std.specs.Ordering.{eq_by_cmp}
use Rattle.std.proofs.lemmas.List.Sums.{count_by-le-length}
use Rattle.sorted_sets.specs.{Counting.one_if, Rising.has}
use Rattle.sorted_sets.proofs.{Bools.equal, Rising.has-append}
use Rattle.rdf_term.specs.{declared.triple.Triple.Triple, Order.triple_cmp}
use Rattle.entity_model.specs.{declared.id.EntityId.EntityId, EntityId.entity_cmp, EntityId.entity_cmp_total, EntityId.entity_cmp_same}
use Rattle.text_region.specs.{Region.Texts, Region.bytes_of}
use Rattle.triple_catalog.specs.Counts.{Counts, count_of}
use Rattle.triple_store.specs.StoreState.{AreKeysOf, HasKey, IsSound, KeepsKeys, StoreState, counts_in}
use Rattle.triple_store.specs.Updates.{AreStored}
use Rattle.replay_model.specs.{Records.Records, Records.record_of, Union.Meaning, Union.owners, Union.triples_at, Union.triples_held}
use Rattle.replay_model.specs.Versions.{meaning_by}
use Rattle.fetched_pages.specs.Meaning.{meaning}
use Rattle.shared_triples.specs.Lean.{IsLean, count_in, stored_of, triples_of}
use Rattle.entity_counts.specs.Naming.{Naming, counted_in, is_counted}
use Rattle.holders.specs.Holders.{ByVersion}
use Rattle.lean_holdings.specs.{Going.CountsIn, Holding.IsKept, Holding.counted_by, InStep.AreInStep}
use Rattle.lean_holdings.specs.Kept.{KeptRecords, held_with, kept_of, keys_held, record_with, seen}
use Rattle.holders.proofs.Values.{values_len}
use Rattle.lean_holdings.proofs.{Going.goes_counted, Going.others_keyed, InStep.by_alike, Naming.counted_more, Seen.held_is}

-- ---- no page

module _ (m : Meaning Triple) (x : EntityId) (s : StoreState) (pages : Texts) (names : Naming) (kept : KeptRecords) (none : (kept_of kept x).held ≡ None) where
  nothing_held : (record_of (seen pages kept) x).held ≡ None
  nothing_held = held_is (bytes_of pages) kept x ∙ ap (held_with (bytes_of pages)) none

  pub nothing_meant : (n : Meaning Triple) → triples_of n (seen pages kept) x ≡ []
  nothing_meant n = ap (triples_held n x) nothing_held

  counts_nothing : IsKept m s pages names kept → CountsIn m x s s pages names kept kept
  counts_nothing h =
      let same : triples_of (stored_of (counted_by names) m) (seen pages kept) x ≡ triples_of m (seen pages kept) x =
      nothing_meant (stored_of (counted_by names) m) ∙ sym (nothing_meant m) in
      record {
        alike = refl;
        pieces = λ y. refl;
        others = λ y other. refl;
        sound = h.sound;
        moves = record { counts = λ t. ap (λ (ts : List Triple). count_of (counts_in s) t + one_if (has triple_cmp t ts)) same };
        keeps = record { kept = λ key t is _. is };
        keyed = subst (AreKeysOf s (keys_held (kept_of kept x).held)) same (h.keyed x);
      }

  -- an entity that holds no page is counted
  pub goes_without : IsKept m s pages names kept → IsKept m s pages (counted_in names x) kept
  goes_without h = goes_counted m x s s pages names kept kept h (counts_nothing h)

-- ---- a refusal

-- an entity that was counted in is counted out again
pub out_again : (names : Naming) (x : EntityId) → is_counted names x ≡ false → map.remove (counted_in names x) x ≡ names
out_again names x new =
    ap (λ (n : Naming). map.remove n x) (ap (λ b. cond b names (map.insert names x 0)) new)
    ∙ map.same_map entity_cmp_total entity_cmp_same (map.remove (map.insert names x 0) x) names (λ y.
    map.get-remove entity_cmp_total (map.insert names x 0) x y
    ∙ ap (cond (eq_by_cmp entity_cmp y x) None) (map.get-insert entity_cmp_total names x 0 y)
    ∙ by y (eq_by_cmp entity_cmp y x) refl)
  where
    lost : (y : EntityId) (found : Option ℕ) → map.get names x ≡ found → x ≡ y → None ≡ map.get names y
    lost y None is same = sym is ∙ ap (map.get names) same
    lost y (Some n) is same = absurd (true≢false (sym (ap is_some is) ∙ new))

    by : (y : EntityId) (b : Bool) → eq_by_cmp entity_cmp y x ≡ b → cond b None (cond b (Some 0) (map.get names y)) ≡ map.get names y
    by y true is = lost y (map.get names x) refl (sym (entity_cmp_same y x (equal _ is)))
    by y false is = refl

-- where the counts are what they were
pub still_kept : (m : Meaning Triple) (s s2 : StoreState) (pages : Texts) (names : Naming) (kept : KeptRecords) → IsKept m s pages names kept
    → IsSound s2 → counts_in s2 ≡ counts_in s → KeepsKeys s s2 → IsKept m s2 pages names kept
still_kept m s s2 pages names kept h sound counts keeps =
    let lean : IsLean m (counted_by names) (count_in (counts_in s2)) (seen pages kept) =
    subst (λ (c : Counts). IsLean m (counted_by names) (count_in c) (seen pages kept)) (sym counts) h.lean in
    record {
      sound = sound;
      lean = lean;
      named = h.named;
      pieces = h.pieces;
      keyed = λ y. others_keyed (stored_of (counted_by names) m) (stored_of (counted_by names) m) s s2 (seen pages kept) (seen pages kept) y
          (keys_held (kept_of kept y).held) lean.counts keeps refl (h.keyed y);
    }

-- ---- what a call asks for

-- the keys of what is held are those of stored triples
pub are_stored : (m : Meaning Triple) (s : StoreState) (pages : Texts) (names : Naming) (kept : KeptRecords) (x : EntityId) → IsKept m s pages names kept
    → AreStored s (keys_held (kept_of kept x).held)
are_stored m s pages names kept x h = record {
  rising = (h.keyed x).rising;
  there = λ key there.
      let one : (t : Triple) × HasKey s key t × (has triple_cmp t (triples_of (stored_of (counted_by names) m) (seen pages kept) x) ≡ true) = (h.keyed x).each key there in
      one.1.stored;
}

-- no count is saturated
pub countable : (m : Meaning Triple) (s : StoreState) (pages : Texts) (names : Naming) (kept : KeptRecords) → IsKept m s pages names kept
    → (n : ℕ) → map.len kept < n → (t : Triple) → count_of (counts_in s) t < n
countable m s pages names kept h n few t =
    let stored : Meaning Triple = stored_of (counted_by names) m in
    let records : Records = seen pages kept in
    let as_many : map.len records ≡ map.len kept = values_len (record_with (bytes_of pages)) kept in
    let owned : owners triple_cmp stored records t ≤ map.len records =
    omega (arith, count_by-le-length (λ entry. has triple_cmp t (triples_at stored entry)) (map.entries records), map.len-entries records) in
    let count : count_of (counts_in s) t ≡ owners triple_cmp stored records t = h.lean.counts t in
    omega arith

-- ---- several entities

later : (e h z : Bool) → (e || (h || z)) ≡ ((h || (e || false)) || z)
later true true z = refl
later true false z = refl
later false true z = refl
later false false z = refl

-- one more of them is counted
pub one_counted : (names names2 : Naming) (ids : List EntityId) (id x : EntityId) → has entity_cmp x (counted_by names2) ≡ (has entity_cmp x ids || has entity_cmp x (counted_by names))
    → has entity_cmp x (counted_by (counted_in names2 id)) ≡ (has entity_cmp x (ids ++ id ∷ []) || has entity_cmp x (counted_by names))
one_counted names names2 ids id x so =
    let known : Bool = has entity_cmp x (counted_by names) in
    counted_more names2 id x
    ∙ ap (λ b. eq_by_cmp entity_cmp x id || b) so
    ∙ later (eq_by_cmp entity_cmp x id) (has entity_cmp x ids) known
    ∙ ap (λ b. b || known) (sym (has-append entity_cmp x ids (id ∷ [])))

-- ---- by the versions of the mapping

module _ (s s2 : StoreState) (pages : Texts) (names : Naming) (ids : ByVersion) (kept : KeptRecords) (h : AreInStep s pages names ids kept) where
  -- an entity was counted in
  pub counted_step : (names2 : Naming) (kept2 : KeptRecords) → IsKept (meaning_by meaning ids.by_two) s2 pages names2 kept2 → seen pages kept2 ≡ seen pages kept → AreInStep s2 pages names2 ids kept2
  counted_step names2 kept2 now alike = record { kept = now; by = by_alike pages ids kept kept2 alike h.by }

  -- or none was
  pub refused_step : IsSound s2 → counts_in s2 ≡ counts_in s → KeepsKeys s s2 → AreInStep s2 pages names ids kept
  refused_step sound counts keeps = record { kept = still_kept (meaning_by meaning ids.by_two) s s2 pages names kept h.kept sound counts keeps; by = h.by }
