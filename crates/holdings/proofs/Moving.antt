-- What is kept stays in step with store and region where the record of an entity is put in.
use Rattle.std.proofs.Common.{◌≡◌, ◌≢◌, ℕ, ◌<◌, true, cond, List, [], Option, Some, None, unwrap_or, refl, sym, ◌∙◌, ap, subst, ⊎_elim, arith}
use Rattle.std.specs.FinMap as map
use Rattle.std.specs.{List.list_any, Ordering.eq_by_cmp}
use Rattle.sorted_sets.specs.Rising.{has}
use Rattle.rdf_term.specs.{declared.triple.Triple.Triple, Order.triple_cmp}
use Rattle.entity_model.specs.{declared.id.EntityId.EntityId, EntityId.entity_cmp, EntityId.entity_cmp_total, EntityId.entity_cmp_same}
use Rattle.entity_state.specs.{declared.record.Held.Held, declared.record.Record.Record, Record.blank, Record.held_revision}
use Rattle.entity_state.specs.{declared.standing.Standing.Standing, Standing.standing_of}
use Rattle.text_region.specs.declared.piece.Piece.{Piece}
use Rattle.slot_keys.specs.declared.key.Key.{Key}
use Rattle.triple_store.specs.Counts.{Exchanges, count_of}
use Rattle.triple_store.specs.StoreState.{AreKeysOf, HasKey, IsSound, KeepsKeys, StoreState, beside, counts_in}
use Rattle.triple_store.specs.Updates.{AreStored}
use Rattle.replay_model.specs.{Records.Bytes, Records.Records, Records.record_of, Union.Meaning, Union.owners, Union.triples_held}
use Rattle.holders.specs.{Counted.CountsOwners, Pieces.IsHeld, Pieces.PieceTexts}
use Rattle.holdings.specs.{declared.kept.KeptPage.KeptPage, InStep.IsKept, InStep.triples_kept}
use Rattle.holdings.specs.Keeping.{KeptRecords, held_with, kept_of, keys_held, piece_at, piece_held, record_with, records_with, seen}
use Rattle.holders.proofs.{Owning.counted_moved, Owning.has_owner, Owning.held_agrees, Records.id_tells}
use Rattle.holders.proofs.{Keyed.keys_stay, Records.record_elsewhere, Records.record_here}
use Rattle.holders.proofs.Values.{changed, get-values, values-insert, values_keys}

-- the record of an entity among the records that are seen
pub seen_of : (f : PieceTexts) (kept : KeptRecords) (x : EntityId) → record_of (records_with f kept) x ≡ record_with f (kept_of kept x)
seen_of f kept x = ap (λ o. unwrap_or o blank) (get-values (record_with f) kept x) ∙ by (map.get kept x)
  where
    by : (found : Option (Record KeptPage)) → unwrap_or (changed (record_with f) found) blank ≡ record_with f (unwrap_or found blank)
    by None = refl
    by (Some r) = refl

revision_same : (f : PieceTexts) (h : Option (Held KeptPage)) → held_revision (held_with f h) ≡ held_revision h
revision_same f None = refl
revision_same f (Some h) = refl

-- what stands of a record doesn't need the texts
pub standing_is : (s : StoreState) (kept : KeptRecords) (x : EntityId) → standing_of (record_of (seen s kept) x) ≡ standing_of (kept_of kept x)
standing_is s kept x =
    ap (λ (was : Record Bytes). standing_of was) (seen_of (beside s) kept x)
    ∙ ap standing (revision_same (beside s) (kept_of kept x).held)
  where
    standing : Option ℕ → Standing
    standing held = record { state = (kept_of kept x).state; held = held; reconciled = (kept_of kept x).reconciled }

pub held_is : (s : StoreState) (kept : KeptRecords) (x : EntityId) → (record_of (seen s kept) x).held ≡ held_with (beside s) (kept_of kept x).held
held_is s kept x = ap (λ (was : Record Bytes). was.held) (seen_of (beside s) kept x)

-- which records there are doesn't need the texts
pub seen_there : (s : StoreState) (kept : KeptRecords) (x : EntityId) → map.contains_key (seen s kept) x ≡ map.contains_key kept x
seen_there s kept x =
    map.contains_key-keys (seen s kept) x ∙ ap (list_any (eq_by_cmp entity_cmp x)) (values_keys (record_with (beside s)) kept) ∙ sym (map.contains_key-keys kept x)

module _ (f k : PieceTexts) where
  pub held_same : (h : Option (Held KeptPage)) → ((p : Piece) → piece_held h ≡ Some p → k p ≡ f p) → held_with k h ≡ held_with f h
  held_same None texts = refl
  held_same (Some h) texts = ap (λ (o : Option Bytes). Some (record { revision = h.revision; content = unwrap_or o [] })) (texts h.content.piece refl)

  record_same : (r : Record KeptPage) → ((p : Piece) → piece_held r.held ≡ Some p → k p ≡ f p) → record_with k r ≡ record_with f r
  record_same r texts = ap (λ (h : Option (Held Bytes)). record { state = r.state; held = h; reconciled = r.reconciled }) (held_same r.held texts)

  changed_same : (found : Option (Record KeptPage)) → ((p : Piece) → piece_held (unwrap_or found blank).held ≡ Some p → k p ≡ f p) → changed (record_with k) found ≡ changed (record_with f) found
  changed_same None texts = refl
  changed_same (Some r) texts = ap (λ z. Some z) (record_same r texts)

  -- where what the others hold has its bytes, the others' records are seen as they were
  pub seen_moved : (kept : KeptRecords) (x : EntityId) (n : Record KeptPage) → ((y : EntityId) (p : Piece) → y ≢ x → piece_at kept y ≡ Some p → k p ≡ f p)
      → records_with k (map.insert kept x n) ≡ map.insert (records_with f kept) x (record_with k n)
  seen_moved kept x n texts =
      values-insert (record_with k) kept x n
      ∙ map.same_map entity_cmp_total entity_cmp_same _ _ (λ y.
      map.get-insert entity_cmp_total (records_with k kept) x (record_with k n) y
      ∙ ⊎_elim
      (λ own. ap (λ b. cond b (Some (record_with k n)) (map.get (records_with k kept) y)) own.0 ∙ ap (λ b. cond b (Some (record_with k n)) (map.get (records_with f kept) y)) (sym own.0))
      (λ other. ap (cond (eq_by_cmp entity_cmp y x) (Some (record_with k n)))
      (get-values (record_with k) kept y ∙ changed_same (map.get kept y) (λ p. texts y p other.1) ∙ sym (get-values (record_with f) kept y)))
      (id_tells y x)
      ∙ sym (map.get-insert entity_cmp_total (records_with f kept) x (record_with k n) y))

  -- where all pieces have their bytes
  pub seen_again : (kept : KeptRecords) → ((p : Piece) → k p ≡ f p) → records_with k kept ≡ records_with f kept
  seen_again kept texts = map.same_map entity_cmp_total entity_cmp_same _ _ (λ y.
      get-values (record_with k) kept y ∙ changed_same (map.get kept y) (λ p _. texts p) ∙ sym (get-values (record_with f) kept y))

-- the keys of what an entity holds are those of stored triples
pub are_stored : (m : Meaning Triple) (s s2 : StoreState) (kept : KeptRecords) (x : EntityId) (keys : List Key) → IsKept m s kept
    → ((key : Key) (t : Triple) → HasKey s key t → HasKey s2 key t) → keys ≡ keys_held (kept_of kept x).held → AreStored s2 keys
are_stored m s s2 kept x keys h moves is = subst (AreStored s2) (sym is) (record {
  rising = (h.keyed x).rising;
  there = λ key there.
      let one : (t : Triple) × HasKey s key t × (has triple_cmp t (triples_kept m (beside s) kept x) ≡ true) = (h.keyed x).each key there in
      (moves key one.0 one.1).stored;
})

module _ (m m2 : Meaning Triple) (x : EntityId) (agree : (y : EntityId) → y ≢ x → (rev : ℕ) (bytes : Bytes) → m2 y rev bytes ≡ m y rev bytes)
    (s s2 : StoreState) (kept : KeptRecords) (n : Record KeptPage) (h : IsKept m s kept)
    (texts : (y : EntityId) (p : Piece) → y ≢ x → piece_at kept y ≡ Some p → beside s2 p ≡ beside s p) where
  -- what is seen after the record is put in
  pub seen_put : seen s2 (map.insert kept x n) ≡ map.insert (seen s kept) x (record_with (beside s2) n)
  seen_put = seen_moved (beside s) (beside s2) kept x n texts

  put_counted : Exchanges (counts_in s) (counts_in s2) (triples_kept m (beside s) kept x) (triples_held m2 x (held_with (beside s2) n.held))
      → CountsOwners m2 (counts_in s2) (seen s2 (map.insert kept x n))
  put_counted moves =
      subst (λ (records : Records). CountsOwners m2 (counts_in s2) records) (sym seen_put)
      (counted_moved m m2 x agree (counts_in s) (counts_in s2) (seen s kept) (record_with (beside s2) n) h.counted
      (subst (λ (was : Record Bytes). Exchanges (counts_in s) (counts_in s2) (triples_held m x was.held) (triples_held m2 x (held_with (beside s2) n.held)))
      (sym (seen_of (beside s) kept x)) moves))

  others_keyed : CountsOwners m2 (counts_in s2) (seen s2 (map.insert kept x n)) → KeepsKeys s s2 → (y : EntityId) → y ≢ x
      → AreKeysOf s2 (keys_held (kept_of (map.insert kept x n) y).held) (triples_kept m2 (beside s2) (map.insert kept x n) y)
  others_keyed counted keeps y other =
      let same : triples_kept m2 (beside s2) (map.insert kept x n) y ≡ triples_kept m (beside s) kept y =
      ap (λ (was : Record KeptPage). triples_held m2 y (held_with (beside s2) was.held)) (record_elsewhere kept x n y other)
      ∙ ap (triples_held m2 y) (held_same (beside s) (beside s2) (kept_of kept y).held (λ p. texts y p other))
      ∙ held_agrees m m2 x agree y other (held_with (beside s) (kept_of kept y).held) in
      let owned : (t : Triple) → has triple_cmp t (triples_kept m (beside s) kept y) ≡ true → 0 < count_of (counts_in s2) t = λ t there.
      let held : triples_held m2 y (record_of (seen s2 (map.insert kept x n)) y).held ≡ triples_kept m (beside s) kept y =
      ap (λ (was : Record Bytes). triples_held m2 y was.held) (seen_of (beside s2) (map.insert kept x n) y) ∙ same in
      let some : 0 < owners triple_cmp m2 (seen s2 (map.insert kept x n)) t = has_owner m2 (seen s2 (map.insert kept x n)) y t (ap (has triple_cmp t) held ∙ there) in
      let count : count_of (counts_in s2) t ≡ owners triple_cmp m2 (seen s2 (map.insert kept x n)) t = counted.owned t in
      omega arith in
      subst (λ (ts : List Triple). AreKeysOf s2 (keys_held (kept_of (map.insert kept x n) y).held) ts) (sym same)
      (subst (λ (was : Record KeptPage). AreKeysOf s2 (keys_held was.held) (triples_kept m (beside s) kept y)) (sym (record_elsewhere kept x n y other))
      (keys_stay s s2 (keys_held (kept_of kept y).held) (triples_kept m (beside s) kept y) (h.keyed y) keeps owned))

  -- a record is put in: what it holds is stored, and what was held there before is not
  pub kept_put : IsSound s2 → IsHeld (beside s2) (piece_at (map.insert kept x n))
      → Exchanges (counts_in s) (counts_in s2) (triples_kept m (beside s) kept x) (triples_held m2 x (held_with (beside s2) n.held))
      → KeepsKeys s s2
      → AreKeysOf s2 (keys_held n.held) (triples_held m2 x (held_with (beside s2) n.held))
      → IsKept m2 s2 (map.insert kept x n)
  kept_put sound held moves keeps keyed = record {
    sound = sound;
    counted = put_counted moves;
    held = held;
    keyed = λ y. ⊎_elim
        (λ own. subst (λ (z : EntityId). AreKeysOf s2 (keys_held (kept_of (map.insert kept x n) z).held) (triples_kept m2 (beside s2) (map.insert kept x n) z)) (sym own.1)
        (subst (λ (was : Record KeptPage). AreKeysOf s2 (keys_held was.held) (triples_held m2 x (held_with (beside s2) was.held))) (sym (record_here kept x n)) keyed))
        (λ other. others_keyed (put_counted moves) keeps y other.1)
        (id_tells y x);
  }
