-- A held page is remapped: what is kept stays in step with store and region.
use Rattle.std.proofs.Common.{◌≡◌, ◌≢◌, ◌||◌, ℕ, Bool, true, false, cond, List, [], Option, Some, None, is_some, unwrap_or, refl, sym, ◌∙◌, ap, subst, true≢false, ⊎_elim}
use Rattle.std.specs.FinMap as map
use Rattle.std.specs.{Cmp.eq_by_cmp_equiv, List.list_any, Ordering.eq_by_cmp}
use Rattle.sorted_sets.specs.Rising.{has}
use Rattle.rdf_term.specs.{declared.triple.Triple.Triple, Order.triple_cmp}
use Rattle.entity_model.specs.{declared.id.EntityId.EntityId, EntityId.entity_cmp, EntityId.entity_cmp_same, EntityId.entity_cmp_total}
use Rattle.entity_state.specs.{declared.record.Held.Held, declared.record.Record.Record, Record.blank, Table.after_putting, Table.has_room}
use Rattle.entity_state.specs.Tabled.{Tabled}
use Rattle.text_region.specs.declared.piece.Piece.{Piece}
use Rattle.slot_keys.specs.{declared.key.Key.Key, declared.keys.Keys.Keys}
use Rattle.triple_store.specs.Counts.{Exchanges}
use Rattle.triple_store.specs.StoreState.{AreKeysOf, IsSound, KeepsKeys, StoreState, beside, counts_in}
use Rattle.replay_model.specs.{Records.Bytes, Records.Records, Records.record_of, Union.Meaning, Union.triples_held}
use Rattle.holdings.specs.{declared.kept.KeptPage.KeptPage, InStep.IsKept, InStep.triples_kept}
use Rattle.holders.specs.Pieces.{PieceTexts}
use Rattle.holdings.specs.Keeping.{KeptRecords, held_keys, held_with, kept_of, keys_held}
use Rattle.holdings.specs.Keeping.{piece_at, piece_held, record_with, seen, with_keys}
use Rattle.holders.proofs.{Keyed.exchanged_same, Records.record_here, Records.record_elsewhere, Keyed.keys_same}
use Rattle.holdings.proofs.Moving.{kept_put, seen_of, seen_put}
use Rattle.holders.proofs.{Pieced.held_again, Records.id_tells}

piece_same : (h : Option (Held KeptPage)) (keys : Keys) → piece_held (held_keys h keys) ≡ piece_held h
piece_same None keys = refl
piece_same (Some h) keys = refl

keys_are : (h : Option (Held KeptPage)) (keys : Keys) → is_some h ≡ true → keys_held (held_keys h keys) ≡ keys.rising.items
keys_are None keys is = absurd (true≢false (sym is))
keys_are (Some h) keys is = refl

text_same : (f k : PieceTexts) (h : Option (Held KeptPage)) (keys : Keys) → ((p : Piece) → k p ≡ f p) → held_with k (held_keys h keys) ≡ held_with f h
text_same f k None keys texts = refl
text_same f k (Some h) keys texts = ap (λ (o : Option Bytes). Some (record { revision = h.revision; content = unwrap_or o [] })) (texts h.content.piece)

-- a record that is there is put in
put_same : (records : Records) (x : EntityId) → is_some (record_of records x).held ≡ true → map.insert records x (record_of records x) ≡ records
put_same records x there = by (map.get records x) refl
  where
    by : (found : Option (Record Bytes)) → map.get records x ≡ found → map.insert records x (record_of records x) ≡ records
    by None e = absurd (true≢false (sym there ∙ ap (λ o. is_some (unwrap_or o blank).held) e))
    by (Some r) e = map.same_map entity_cmp_total entity_cmp_same _ _ (λ y.
        map.get-insert entity_cmp_total records x (record_of records x) y ∙ ⊎_elim
        (λ own. ap (λ b. cond b (Some (record_of records x)) (map.get records y)) own.0 ∙ ap (λ o. Some (unwrap_or o blank)) e ∙ sym e ∙ ap (map.get records) (sym own.1))
        (λ other. ap (λ b. cond b (Some (record_of records x)) (map.get records y)) other.0)
        (id_tells y x))

-- a record that is there gets other keys
pub keys_set : (kept : KeptRecords) (x : EntityId) (b : Record KeptPage) (h : Held KeptPage) (keys : Keys) (gone n : Record KeptPage) (one two : KeptRecords)
    → map.get kept x ≡ Some b → b.held ≡ Some h
    → one ≡ map.insert kept x gone → two ≡ map.insert one x n
    → n ≡ record { state = b.state; held = Some (record { revision = h.revision; content = record { piece = h.content.piece; keys = keys; times = None } }); reconciled = b.reconciled }
    → two ≡ map.insert kept x (with_keys (kept_of kept x) keys)
keys_set kept x b h keys gone n one two was held put_one put_two is =
    let there : kept_of kept x ≡ b = ap (λ o. unwrap_or o blank) was in
    let with_held : with_keys (kept_of kept x) keys ≡ n =
    ap (λ (r : Record KeptPage). with_keys r keys) there
    ∙ ap (λ (o : Option (Held KeptPage)). record { state = b.state; held = held_keys o keys; reconciled = b.reconciled }) held
    ∙ sym is in
    put_two ∙ ap (λ (records : KeptRecords). map.insert records x n) put_one ∙ put_twice ∙ ap (map.insert kept x) (sym with_held)
  where
    put_twice : map.insert (map.insert kept x gone) x n ≡ map.insert kept x n
    put_twice = map.same_map entity_cmp_total entity_cmp_same _ _ (λ y.
        map.get-insert entity_cmp_total (map.insert kept x gone) x n y
        ∙ ap (cond (eq_by_cmp entity_cmp y x) (Some n)) (map.get-insert entity_cmp_total kept x gone y)
        ∙ by (eq_by_cmp entity_cmp y x) (map.get kept y) ∙ sym (map.get-insert entity_cmp_total kept x n y))
      where
        by : (b : Bool) (o : Option (Record KeptPage)) → cond b (Some n) (cond b (Some gone) o) ≡ cond b (Some n) o
        by true o = refl
        by false o = refl

-- an id that was put in has room
pub room_after : (t t2 : Tabled KeptPage) (id : EntityId) (r : Record KeptPage) → t2 ≡ after_putting t id r → has_room t2 id ≡ true
room_after t t2 id r is =
    ap (λ (u : Tabled KeptPage). has_room u id) is
    ∙ ap (λ (o : Option (Record KeptPage)). is_some o || list_any (eq_by_cmp entity_cmp id) (after_putting t id r).room)
    (map.get-insert entity_cmp_total t.records id r id ∙ ap (λ b. cond b (Some r) (map.get t.records id)) ((eq_by_cmp_equiv entity_cmp_total).refl id))

module _ (m m2 : Meaning Triple) (x : EntityId) (agree : (y : EntityId) → y ≢ x → (rev : ℕ) (bytes : Bytes) → m2 y rev bytes ≡ m y rev bytes)
    (s s2 : StoreState) (kept : KeptRecords) (keys : Keys) (h : IsKept m s kept)
    (there : is_some (kept_of kept x).held ≡ true)
    (texts : (p : Piece) → beside s2 p ≡ beside s p) where
  abbrev anew : Record KeptPage
  anew = with_keys (kept_of kept x) keys

  pieces_same : (y : EntityId) → piece_at (map.insert kept x anew) y ≡ piece_at kept y
  pieces_same y = ⊎_elim
      (λ own.
      ap (λ z. piece_at (map.insert kept x anew) z) own.1 ∙ ap (λ (was : Record KeptPage). piece_held was.held) (record_here kept x anew)
      ∙ piece_same (kept_of kept x).held keys ∙ ap (piece_at kept) (sym own.1))
      (λ other. ap (λ (was : Record KeptPage). piece_held was.held) (record_elsewhere kept x anew y other.1))
      (id_tells y x)

  held_there : held_with (beside s2) anew.held ≡ held_with (beside s) (kept_of kept x).held
  held_there = text_same (beside s) (beside s2) (kept_of kept x).held keys texts

  seen_there : (held : Option (Held KeptPage)) → is_some held ≡ true → is_some (held_with (beside s) held) ≡ true
  seen_there None is = is
  seen_there (Some held) is = refl

  -- what is seen is as it was
  pub anew_seen : seen s2 (map.insert kept x anew) ≡ seen s kept
  anew_seen =
      let same : record_with (beside s2) anew ≡ record_of (seen s kept) x =
      ap (λ (held : Option (Held Bytes)). record { state = (kept_of kept x).state; held = held; reconciled = (kept_of kept x).reconciled }) held_there
      ∙ sym (seen_of (beside s) kept x) in
      seen_put m m2 x agree s s2 kept anew h (λ _ p _ _. texts p)
      ∙ ap (map.insert (seen s kept) x) same
      ∙ put_same (seen s kept) x (ap (λ (was : Record Bytes). is_some was.held) (seen_of (beside s) kept x) ∙ seen_there (kept_of kept x).held there)

  -- and all is in step
  pub anew_kept : (old : List Key) (ts : List Triple)
      → IsSound s2
      → old ≡ keys_held (kept_of kept x).held
      → ((gone : List Triple) → AreKeysOf s old gone → Exchanges (counts_in s) (counts_in s2) gone ts)
      → KeepsKeys s s2
      → AreKeysOf s2 keys.rising.items ts
      → ((t : Triple) → has triple_cmp t ts ≡ has triple_cmp t (triples_held m2 x (held_with (beside s) (kept_of kept x).held)))
      → IsKept m2 s2 (map.insert kept x anew)
  anew_kept old ts sound were exchanges keeps keyed meant =
      let gone : AreKeysOf s old (triples_kept m (beside s) kept x) =
      subst (λ (ks : List Key). AreKeysOf s ks (triples_kept m (beside s) kept x)) (sym were) (h.keyed x) in
      let same : (t : Triple) → has triple_cmp t ts ≡ has triple_cmp t (triples_held m2 x (held_with (beside s2) anew.held)) =
      λ t. meant t ∙ ap (λ (held : Option (Held Bytes)). has triple_cmp t (triples_held m2 x held)) (sym held_there) in
      kept_put m m2 x agree s s2 kept anew h (λ _ p _ _. texts p) sound
      (held_again (beside s) (beside s2) (piece_at kept) (piece_at (map.insert kept x anew)) h.held texts pieces_same)
      (exchanged_same (counts_in s) (counts_in s2) (triples_kept m (beside s) kept x) ts (triples_held m2 x (held_with (beside s2) anew.held)) same
      (exchanges (triples_kept m (beside s) kept x) gone))
      keeps
      (subst (λ (ks : List Key). AreKeysOf s2 ks (triples_held m2 x (held_with (beside s2) anew.held))) (sym (keys_are (kept_of kept x).held keys there))
      (keys_same s2 keys.rising.items ts (triples_held m2 x (held_with (beside s2) anew.held)) same keyed))
