-- A page comes, goes or stays, or is refused: what is kept stays in step with store and region.
use Rattle.std.proofs.Common.{◌≡◌, ◌≢◌, ℕ, ◌<◌, true, List, [], Option, Some, None, is_some, unwrap_or, refl, sym, ◌∙◌, ap, subst, true≢false, ⊎_elim, arith}
use Rattle.std.specs.FinMap as map
use Rattle.sorted_sets.specs.Rising.{has}
use Rattle.rdf_term.specs.{declared.triple.Triple.Triple, Order.triple_cmp}
use Rattle.entity_model.specs.{declared.id.EntityId.EntityId, declared.event.Event.Event}
use Rattle.entity_state.specs.{declared.state.State.State, declared.record.Held.Held, declared.record.Record.Record}
use Rattle.text_region.specs.declared.piece.Piece.{Piece}
use Rattle.text_region.proofs.Pieces.{piece_tells}
use Rattle.slot_keys.specs.declared.key.Key.{Key}
use Rattle.triple_store.specs.Counts.{Counts, Exchanges, count_of}
use Rattle.triple_store.specs.StoreState.{AreKeysOf, HasKey, IsSound, KeepsKeys, StoreState, beside, counts_in}
use Rattle.triple_store.specs.Stored.{Changes}
use Rattle.replay_model.specs.{Records.Bytes, Records.Records, Records.record_of, Union.Meaning, Union.owners, Union.triples_held}
use Rattle.holders.specs.{Counted.CountsOwners, Pieces.IsHeld, Pieces.PieceTexts}
use Rattle.holdings.specs.{declared.kept.KeptPage.KeptPage, InStep.IsKept, InStep.triples_kept}
use Rattle.holdings.specs.Keeping.{FreesPiece, KeptRecords, held_with, kept_of, keys_held, piece_at, piece_held, record_with, seen}
use Rattle.holders.proofs.Keyed.{exchanged_through, keeps_through, keys_moved, keys_same, keys_stay}
use Rattle.holders.proofs.Records.{id_tells, record_elsewhere, record_here}
use Rattle.holdings.proofs.Moving.{held_same, kept_put, seen_again, seen_of, seen_put}
use Rattle.holders.proofs.{Owning.has_owner, Pieced.beside as others_text, Pieced.held_again, Pieced.moved_held}

freed_other : (old : Option Piece) (f k : PieceTexts) → FreesPiece old f k → (p : Piece) → old ≢ Some p → k p ≡ f p
freed_other None f k h p other = h p
freed_other (Some q) f k h p other = h.others p (λ e. other (ap (λ z. Some z) (sym e)))

freed_gone : (old : Option Piece) (f k : PieceTexts) → FreesPiece old f k → (p : Piece) → old ≡ Some p → k p ≡ None
freed_gone None f k h p is = absurd (true≢false (sym (ap is_some is)))
freed_gone (Some q) f k h p is = let same : q ≡ p = cc in ap k (sym same) ∙ h.is

module _ (m m2 : Meaning Triple) (x : EntityId) (agree : (y : EntityId) → y ≢ x → (rev : ℕ) (bytes : Bytes) → m2 y rev bytes ≡ m y rev bytes)
    (s s2 s3 : StoreState) (kept : KeptRecords) (n : Record KeptPage) (h : IsKept m s kept)
    (middle : (p : Piece) → piece_held n.held ≢ Some p → beside s2 p ≡ beside s p)
    (fresh : (p : Piece) → piece_held n.held ≡ Some p → (beside s p ≡ None) × (is_some (beside s2 p) ≡ true))
    (freed : FreesPiece (piece_at kept x) (beside s2) (beside s3)) where
  after_is : piece_at (map.insert kept x n) x ≡ piece_held n.held
  after_is = ap (λ (was : Record KeptPage). piece_held was.held) (record_here kept x n)

  -- the piece that comes isn't the one that is freed
  pub new_text : (p : Piece) → piece_held n.held ≡ Some p → beside s3 p ≡ beside s2 p
  new_text p is = freed_other (piece_at kept x) (beside s2) (beside s3) freed p
      (λ was. true≢false (sym (h.held.live x p was) ∙ ap is_some (fresh p is).0))

  elsewhere : (y : EntityId) → y ≢ x → piece_at (map.insert kept x n) y ≡ piece_at kept y
  elsewhere y other = ap (λ (was : Record KeptPage). piece_held was.held) (record_elsewhere kept x n y other)

  comes : (p : Piece) → piece_at (map.insert kept x n) x ≡ Some p → (beside s p ≡ None) × (is_some (beside s3 p) ≡ true)
  comes p is =
      let own : piece_held n.held ≡ Some p = sym after_is ∙ is in
      ((fresh p own).0, ap is_some (new_text p own) ∙ (fresh p own).1)

  same : (p : Piece) → piece_at kept x ≢ Some p → piece_at (map.insert kept x n) x ≢ Some p → beside s3 p ≡ beside s p
  same p wasnt isnt =
      freed_other (piece_at kept x) (beside s2) (beside s3) freed p wasnt ∙ middle p (λ is. isnt (after_is ∙ is))

  is_held : IsHeld (beside s3) (piece_at (map.insert kept x n))
  is_held = moved_held (beside s) (beside s3) (piece_at kept) (piece_at (map.insert kept x n)) x h.held elsewhere comes same
      (freed_gone (piece_at kept x) (beside s2) (beside s3) freed)

  others : (y : EntityId) (p : Piece) → y ≢ x → piece_at kept y ≡ Some p → beside s3 p ≡ beside s p
  others = others_text (beside s) (beside s3) (piece_at kept) (piece_at (map.insert kept x n)) x h.held elsewhere comes same

  -- what is held is replaced
  replaced : IsSound s3 → KeepsKeys s s3
      → Exchanges (counts_in s) (counts_in s3) (triples_kept m (beside s) kept x) (triples_held m2 x (held_with (beside s3) n.held))
      → AreKeysOf s3 (keys_held n.held) (triples_held m2 x (held_with (beside s3) n.held))
      → IsKept m2 s3 (map.insert kept x n)
  replaced sound keeps moves keyed = kept_put m m2 x agree s s3 kept n h others sound is_held moves keeps keyed

  replaced_seen : seen s3 (map.insert kept x n) ≡ map.insert (seen s kept) x (record_with (beside s3) n)
  replaced_seen = seen_put m m2 x agree s s3 kept n h others

-- what an application leaves of a record that holds this
abbrev pub with_page : State → Option Event → ℕ → KeptPage → Record KeptPage
with_page state reconciled rev content = record { state = state; held = Some (record { revision = rev; content = content }); reconciled = reconciled }

abbrev pub with_bytes : State → Option Event → ℕ → Bytes → Record Bytes
with_bytes state reconciled rev bytes = record { state = state; held = Some (record { revision = rev; content = bytes }); reconciled = reconciled }

module _ (m m2 : Meaning Triple) (x : EntityId) (agree : (y : EntityId) → y ≢ x → (rev : ℕ) (bytes : Bytes) → m2 y rev bytes ≡ m y rev bytes)
    (s s1 s2 s3 : StoreState) (kept : KeptRecords)
    (state : State) (reconciled : Option Event) (rev : ℕ) (content : KeptPage) (bytes : Bytes) (ts : List Triple) (old : List Key)
    (h : IsKept m s kept)
    (placed : Changes (beside s) (beside s1) content.piece None (Some bytes))
    (place_kept : (key : Key) (t : Triple) → HasKey s key t → HasKey s1 key t)
    (place_counts : counts_in s1 ≡ counts_in s)
    (keeps : KeepsKeys s1 s2)
    (texts : (p : Piece) → beside s2 p ≡ beside s1 p)
    (counts : counts_in s3 ≡ counts_in s2)
    (put_kept : (key : Key) (t : Triple) → HasKey s2 key t → HasKey s3 key t)
    (freed : FreesPiece (piece_at kept x) (beside s2) (beside s3)) where
  page_middle : (p : Piece) → Some content.piece ≢ Some p → beside s2 p ≡ beside s p
  page_middle p other = texts p ∙ placed.others p (λ e. other (ap (λ z. Some z) (sym e)))

  page_fresh : (p : Piece) → Some content.piece ≡ Some p → (beside s p ≡ None) × (is_some (beside s2 p) ≡ true)
  page_fresh p is =
      let one : content.piece ≡ p = cc in
      (ap (beside s) (sym one) ∙ placed.was, ap is_some (texts p ∙ ap (beside s1) (sym one) ∙ placed.is))

  page_text : beside s3 content.piece ≡ Some bytes
  page_text = new_text m m2 x agree s s2 s3 kept (with_page state reconciled rev content) h page_middle page_fresh freed content.piece refl ∙ texts content.piece ∙ placed.is

  pub page_held : held_with (beside s3) (Some (record { revision = rev; content = content })) ≡ Some (record { revision = rev; content = bytes })
  page_held = ap (λ (o : Option Bytes). Some (record { revision = rev; content = unwrap_or o [] })) page_text

  -- the records after a page came
  pub came_seen : seen s3 (map.insert kept x (with_page state reconciled rev content)) ≡ map.insert (seen s kept) x (with_bytes state reconciled rev bytes)
  came_seen =
      replaced_seen m m2 x agree s s2 s3 kept (with_page state reconciled rev content) h page_middle page_fresh freed
      ∙ ap (λ (held : Option (Held Bytes)). map.insert (seen s kept) x (record { state = state; held = held; reconciled = reconciled })) page_held

  -- a page came in the place of what was held
  pub came : IsSound s3
      → old ≡ keys_held (kept_of kept x).held
      → ((gone : List Triple) → AreKeysOf s1 old gone → Exchanges (counts_in s1) (counts_in s2) gone ts)
      → AreKeysOf s2 content.keys.rising.items ts
      → ((t : Triple) → has triple_cmp t ts ≡ has triple_cmp t (m2 x rev bytes))
      → IsKept m2 s3 (map.insert kept x (with_page state reconciled rev content))
  came sound were exchanges keyed meant =
      let keys : AreKeysOf s1 old (triples_kept m (beside s) kept x) =
      keys_moved s s1 old (triples_kept m (beside s) kept x) place_kept
      (subst (λ (ks : List Key). AreKeysOf s ks (triples_kept m (beside s) kept x)) (sym were) (h.keyed x)) in
      let moves : Exchanges (counts_in s) (counts_in s3) (triples_kept m (beside s) kept x) (m2 x rev bytes) =
      exchanged_through (counts_in s) (counts_in s1) (counts_in s2) (counts_in s3) (triples_kept m (beside s) kept x) ts (m2 x rev bytes)
      place_counts counts meant (exchanges (triples_kept m (beside s) kept x) keys) in
      let new : AreKeysOf s3 content.keys.rising.items (m2 x rev bytes) =
      keys_moved s2 s3 content.keys.rising.items (m2 x rev bytes) put_kept (keys_same s2 content.keys.rising.items ts (m2 x rev bytes) meant keyed) in
      replaced m m2 x agree s s2 s3 kept (with_page state reconciled rev content) h page_middle page_fresh freed sound
      (keeps_through s s1 s2 s3 place_kept keeps counts put_kept)
      (subst (λ (held : Option (Held Bytes)). Exchanges (counts_in s) (counts_in s3) (triples_kept m (beside s) kept x) (triples_held m2 x held)) (sym page_held) moves)
      (subst (λ (held : Option (Held Bytes)). AreKeysOf s3 content.keys.rising.items (triples_held m2 x held)) (sym page_held) new)

-- a page can't come: all is as it was
pub kept_refused : (m : Meaning Triple) (s s2 : StoreState) (kept : KeptRecords) → IsKept m s kept → IsSound s2 → counts_in s2 ≡ counts_in s
    → KeepsKeys s s2 → ((p : Piece) → beside s2 p ≡ beside s p) → IsKept m s2 kept
kept_refused m s s2 kept h sound counts keeps texts = record {
  sound = sound;
  counted = subst (λ (c : Counts). CountsOwners m c (seen s2 kept)) (sym counts)
      (subst (λ (records : Records). CountsOwners m (counts_in s) records) (sym (seen_again (beside s) (beside s2) kept texts)) h.counted);
  held = held_again (beside s) (beside s2) (piece_at kept) (piece_at kept) h.held texts (λ _. refl);
  keyed = λ x.
      let same : triples_kept m (beside s2) kept x ≡ triples_kept m (beside s) kept x =
      ap (triples_held m x) (held_same (beside s) (beside s2) (kept_of kept x).held (λ p _. texts p)) in
      let owned : (t : Triple) → has triple_cmp t (triples_kept m (beside s) kept x) ≡ true → 0 < count_of (counts_in s2) t = λ t there.
      let held : triples_held m x (record_of (seen s kept) x).held ≡ triples_kept m (beside s) kept x =
      ap (λ (was : Record Bytes). triples_held m x was.held) (seen_of (beside s) kept x) in
      let some : 0 < owners triple_cmp m (seen s kept) t = has_owner m (seen s kept) x t (ap (has triple_cmp t) held ∙ there) in
      let count : count_of (counts_in s) t ≡ owners triple_cmp m (seen s kept) t = h.counted.owned t in
      let now : count_of (counts_in s2) t ≡ count_of (counts_in s) t = ap (λ (c : Counts). count_of c t) counts in
      omega arith in
      subst (λ (ts : List Triple). AreKeysOf s2 (keys_held (kept_of kept x).held) ts) (sym same)
      (keys_stay s s2 (keys_held (kept_of kept x).held) (triples_kept m (beside s) kept x) (h.keyed x) keeps owned);
}

-- a piece that was placed and freed again
pub placed_freed : (f f1 f2 k : PieceTexts) (piece : Piece) (bytes : Bytes) → Changes f f1 piece None (Some bytes) → ((p : Piece) → f2 p ≡ f1 p) → Changes f2 k piece (f2 piece) None → (p : Piece) → k p ≡ f p
placed_freed f f1 f2 k piece bytes placed texts freed p = ⊎_elim
    (λ own. ap k own.1 ∙ freed.is ∙ sym placed.was ∙ ap f (sym own.1))
    (λ other. freed.others p other.1 ∙ texts p ∙ placed.others p other.1)
    (piece_tells p piece)

module _ (m m2 : Meaning Triple) (x : EntityId) (agree : (y : EntityId) → y ≢ x → (rev : ℕ) (bytes : Bytes) → m2 y rev bytes ≡ m y rev bytes)
    (s s2 s3 : StoreState) (kept : KeptRecords) (state : State) (reconciled : Option Event)
    (h : IsKept m s kept)
    (texts : (p : Piece) → beside s2 p ≡ beside s p)
    (freed : FreesPiece (piece_at kept x) (beside s2) (beside s3)) where
  abbrev empty_record : Record KeptPage
  empty_record = record { state = state; held = None; reconciled = reconciled }

  no_page : (p : Piece) → piece_held None ≡ Some p → (beside s p ≡ None) × (is_some (beside s2 p) ≡ true)
  no_page p is = absurd (true≢false (sym (ap is_some is)))

  -- the records after the page went
  pub went_seen : seen s3 (map.insert kept x empty_record) ≡ map.insert (seen s kept) x (record { state = state; held = None; reconciled = reconciled })
  went_seen = replaced_seen m m2 x agree s s2 s3 kept empty_record h (λ p _. texts p) no_page freed

  -- the page that was held went
  pub went : (old : List Key)
      → IsSound s3
      → old ≡ keys_held (kept_of kept x).held
      → ((gone : List Triple) → AreKeysOf s old gone → Exchanges (counts_in s) (counts_in s2) gone [])
      → KeepsKeys s s2
      → counts_in s3 ≡ counts_in s2
      → ((key : Key) (t : Triple) → HasKey s2 key t → HasKey s3 key t)
      → IsKept m2 s3 (map.insert kept x empty_record)
  went old sound were exchanges keeps counts put_kept =
      let keys : AreKeysOf s old (triples_kept m (beside s) kept x) =
      subst (λ (ks : List Key). AreKeysOf s ks (triples_kept m (beside s) kept x)) (sym were) (h.keyed x) in
      replaced m m2 x agree s s2 s3 kept empty_record h (λ p _. texts p) no_page freed sound
      (keeps_through s s s2 s3 (λ _ _ is. is) keeps counts put_kept)
      (exchanged_through (counts_in s) (counts_in s) (counts_in s2) (counts_in s3) (triples_kept m (beside s) kept x) [] []
      refl counts (λ _. refl) (exchanges (triples_kept m (beside s) kept x) keys))
      (record { rising = tt; each = λ _ there. absurd (true≢false (sym there)); all = λ _ there. absurd (true≢false (sym there)) })

-- the page that is held stays
module _ (m : Meaning Triple) (s : StoreState) (kept : KeptRecords) (x : EntityId) (state : State) (reconciled : Option Event) (h : IsKept m s kept) where
  abbrev kept_record : Record KeptPage
  kept_record = record { state = state; held = (kept_of kept x).held; reconciled = reconciled }

  pieces_stay : (y : EntityId) → piece_at (map.insert kept x kept_record) y ≡ piece_at kept y
  pieces_stay y = ⊎_elim
      (λ own. ap (λ z. piece_at (map.insert kept x kept_record) z) own.1 ∙ ap (λ (was : Record KeptPage). piece_held was.held) (record_here kept x kept_record) ∙ ap (piece_at kept) (sym own.1))
      (λ other. ap (λ (was : Record KeptPage). piece_held was.held) (record_elsewhere kept x kept_record y other.1))
      (id_tells y x)

  pub stayed_seen : seen s (map.insert kept x kept_record) ≡ map.insert (seen s kept) x (record { state = state; held = (record_of (seen s kept) x).held; reconciled = reconciled })
  stayed_seen =
      seen_put m m x (λ _ _ _ _. refl) s s kept kept_record h (λ _ _ _ _. refl)
      ∙ ap (λ (was : Record Bytes). map.insert (seen s kept) x (record { state = state; held = was.held; reconciled = reconciled })) (sym (seen_of (beside s) kept x))

  pub stayed : IsKept m s (map.insert kept x kept_record)
  stayed = kept_put m m x (λ _ _ _ _. refl) s s kept kept_record h (λ _ _ _ _. refl) h.sound
      (held_again (beside s) (beside s) (piece_at kept) (piece_at (map.insert kept x kept_record)) h.held (λ _. refl) pieces_stay)
      (record { counts = λ _. refl })
      (record { kept = λ _ _ is _. is })
      (h.keyed x)
