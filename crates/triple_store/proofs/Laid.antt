-- The region has the texts of the stored terms, each once, and what lies beside them.
use Rattle.std.proofs.Common.{◌≡◌, ℕ, ◌≤◌, ◌⊎◌, inl, inr, Bool, true, false, List, [], Option, Some, None, is_some, refl, sym, ◌∙◌, ap, subst, true≢false, arith}
use Rattle.std.specs.Prelude.{slice_index_or}
use Rattle.std.specs.FinMap as map
use Rattle.sorted_sets.specs.Rising.{has}
use Rattle.rdf_term.specs.{declared.term.Term.Term, declared.triple.Triple.Triple, Order.term_cmp, Order.triple_cmp, Text.term_text}
use Rattle.rdf_term.specs.Undo.{undo}
use Rattle.rdf_term.proofs.Texts.{undo-term_text}
use Rattle.text_region.specs.{declared.piece.Piece.Piece, Region.bytes_of}
use Rattle.term_pool.specs.{declared.slots.Entry.Entry, Pool.IsCanonical, Pool.owns, Pool.text_in_slot, Pool.live_text}
use Rattle.term_pool.proofs.Beside.{beside_is, live_beside}
use Rattle.term_pool.proofs.OthersTexts.{Owner, of_owned, owned as mine_there, owner}
use Rattle.term_pool.proofs.Lying.{stands, text_there}
use Rattle.slot_keys.specs.declared.key.Key.{Key}
use Rattle.triple_catalog.specs.{Counts.HaveOwners, Interning.HasTermsOf, Room.room_for, Room.terms_of}
use Rattle.triple_store.specs.StoreState.{AreLaid, HasKey, IsSound, StoreState, beside, counts_in, limit_of, terms_in}
use Rattle.triple_catalog.proofs.{Rooming.terms_among, Standing.key_stored, Standing.owned, Storing.canonical_back, Storing.terms_stored}
use Rattle.triple_store.proofs.Stocked.{in_slot, term_of, terms_counted}

abbrev term_read : Option (List ℕ) → Option Term
term_read None = None
term_read (Some text) = Some (undo text)

abbrev piece_of : Option Entry → Option Piece
piece_of None = None
piece_of (Some entry) = Some entry.piece

module _ (s : StoreState) (h : IsSound s) where
  -- each stored triple has an owner
  pub sound_owned : HaveOwners (counts_in s)
  sound_owned = owned s.catalog s.texts h

  -- and their terms have room
  pub sound_room : room_for (counts_in s) [] ≤ limit_of s
  sound_room = omega (arith, h.lies.few, terms_counted s.catalog s.texts h)

  abbrev slot_term : ℕ → Option Term
  slot_term slot = term_read (text_in_slot s.catalog.pool s.texts slot)

  abbrev slot_piece : ℕ → Option Piece
  slot_piece slot = piece_of (slice_index_or s.catalog.pool.slots.slots slot None)

  canonical_at : (slot : ℕ) (text : List ℕ) → text_in_slot s.catalog.pool s.texts slot ≡ Some text → IsCanonical text
  canonical_at slot text at =
      let there = stands s.catalog.pool s.texts slot text at in
      let e = h.lies.textual slot there.entry there.there in
      let same : Some e.text ≡ Some text = sym e.is ∙ there.is in
      let one : e.text ≡ text = cc in
      subst IsCanonical one e.canonical

  text_read : (slot : ℕ) (t : Term) (found : Option (List ℕ)) → text_in_slot s.catalog.pool s.texts slot ≡ found → term_read found ≡ Some t → text_in_slot s.catalog.pool s.texts slot ≡ Some (term_text t)
  text_read slot t None at e = absurd (true≢false (sym (ap is_some e)))
  text_read slot t (Some text) at e =
      let term : undo text ≡ t = cc in
      at ∙ ap (λ z. Some z) (sym (canonical_back text (canonical_at slot text at)) ∙ ap term_text term)

  slot_text : (slot : ℕ) (t : Term) → slot_term slot ≡ Some t → text_in_slot s.catalog.pool s.texts slot ≡ Some (term_text t)
  slot_text slot t e = text_read slot t (text_in_slot s.catalog.pool s.texts slot) refl e

  term_stored : (t : Term) → has term_cmp t (terms_in s) ≡ true → (slot : ℕ) × (slot_term slot ≡ Some t)
  term_stored t there =
      let one : (u : Triple) × (has triple_cmp u (map.keys (counts_in s)) ≡ true) × (has term_cmp t (terms_of u) ≡ true) = term_of (map.keys (counts_in s)) t there in
      let key : (k : Key) × HasKey s k one.0 = key_stored s.catalog s.texts h one.0 (map.contains_key-keys (counts_in s) one.0 ∙ one.1) in
      let slot : (slot : ℕ) × (text_in_slot s.catalog.pool s.texts slot ≡ Some (term_text t)) = in_slot s.catalog.pool s.texts key.0 one.0 key.1.has t one.2 in
      (slot.0, ap term_read slot.1 ∙ ap (λ z. Some z) (undo-term_text t))

  all_terms : HasTermsOf s.catalog.pool s.texts (terms_in s)
  all_terms = terms_stored s.catalog s.texts (terms_in s) h
      (record { each = λ u there. terms_among (map.keys (counts_in s)) u (sym (map.contains_key-keys (counts_in s) u) ∙ there) })

  slot_stored : (slot : ℕ) (t : Term) → slot_term slot ≡ Some t → has term_cmp t (terms_in s) ≡ true
  slot_stored slot t e =
      subst (λ (u : Term). has term_cmp u (terms_in s) ≡ true) (undo-term_text t) (all_terms.each slot (term_text t) (slot_text slot t e))

  slot_place : (slot : ℕ) (t : Term) → slot_term slot ≡ Some t → (piece : Piece) × (slot_piece slot ≡ Some piece) × (bytes_of s.texts piece ≡ Some (term_text t))
  slot_place slot t e =
      let there = stands s.catalog.pool s.texts slot (term_text t) (slot_text slot t e) in
      (there.entry.piece, ap piece_of there.there, there.is)

  entry_by : (slot : ℕ) (piece : Piece) (found : Option Entry) → slice_index_or s.catalog.pool.slots.slots slot None ≡ found → piece_of found ≡ Some piece → (entry : Entry) × (slice_index_or s.catalog.pool.slots.slots slot None ≡ Some entry) × (entry.piece ≡ piece)
  entry_by slot piece None e is = absurd (true≢false (sym (ap is_some is)))
  entry_by slot piece (Some entry) e is = let same : entry.piece ≡ piece = cc in (entry, e, same)

  entry_at : (slot : ℕ) (piece : Piece) → slot_piece slot ≡ Some piece → (entry : Entry) × (slice_index_or s.catalog.pool.slots.slots slot None ≡ Some entry) × (entry.piece ≡ piece)
  entry_at slot piece e = entry_by slot piece (slice_index_or s.catalog.pool.slots.slots slot None) refl e

  text_piece : (slot : ℕ) (piece : Piece) → slot_piece slot ≡ Some piece → text_in_slot s.catalog.pool s.texts slot ≡ bytes_of s.texts piece
  text_piece slot piece e =
      let one : (entry : Entry) × (slice_index_or s.catalog.pool.slots.slots slot None ≡ Some entry) × (entry.piece ≡ piece) = entry_at slot piece e in
      ap (live_text s.texts) one.1 ∙ ap (bytes_of s.texts) one.2

  lies_by : (piece : Piece) (b : Bool) → owns s.catalog.pool piece ≡ b → is_some (bytes_of s.texts piece) ≡ true
      → ((slot : ℕ) × (t : Term) × (slot_term slot ≡ Some t) × (slot_piece slot ≡ Some piece)) ⊎ (is_some (beside s piece) ≡ true)
  lies_by piece true mine live =
      let o : Owner piece s.catalog.pool.slots.slots = owner piece s.catalog.pool.slots.slots mine in
      let text : (text : List ℕ) × (text_in_slot s.catalog.pool s.texts o.slot ≡ Some text) = text_there s.catalog.pool s.texts h.lies o.slot o.entry o.there in
      inl (o.slot, undo text.0, ap term_read text.1, ap piece_of o.there ∙ ap (λ z. Some z) o.is)
  lies_by piece false mine live = inr (ap is_some (beside_is s.catalog.pool s.texts piece mine) ∙ live)

  pub are_laid : AreLaid s
  are_laid = record {
    term = slot_term;
    text = slot_piece;
    stored = slot_stored;
    each = term_stored;
    once = λ a b t e f. h.lies.once a b (term_text t) (slot_text a t e) (slot_text b t f);
    texts = slot_place;
    own = λ a b piece e f.
        let one : (entry : Entry) × (slice_index_or s.catalog.pool.slots.slots a None ≡ Some entry) × (entry.piece ≡ piece) = entry_at a piece e in
        let text : (text : List ℕ) × (text_in_slot s.catalog.pool s.texts a ≡ Some text) = text_there s.catalog.pool s.texts h.lies a one.0 one.1 in
        h.lies.once a b text.0 text.1 (text_piece b piece f ∙ sym (text_piece a piece e) ∙ text.1);
    apart = λ slot piece e.
        let one : (entry : Entry) × (slice_index_or s.catalog.pool.slots.slots slot None ≡ Some entry) × (entry.piece ≡ piece) = entry_at slot piece e in
        of_owned s.catalog.pool s.texts piece (mine_there piece s.catalog.pool.slots.slots slot one.0 one.1 one.2);
    live = λ piece live. sym (live_beside s.catalog.pool s.texts piece live);
    only = λ piece live. lies_by piece (owns s.catalog.pool piece) refl live;
  }
