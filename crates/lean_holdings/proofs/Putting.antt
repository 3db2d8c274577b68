-- A page comes in the place of what was held, or what was held goes, and all stays in step.
use Rattle.std.proofs.Common.{◌≡◌, ◌≢◌, ℕ, ◌+◌, true, List, [], Option, Some, None, is_some, unwrap_or, refl, sym, ◌∙◌, ap, subst, true≢false}
use Rattle.std.specs.FinMap as map
use Rattle.sorted_sets.specs.{Counting.one_if, Rising.has, Rising.sorted}
use Rattle.sorted_sets.proofs.Rising.{has-sorted}
use Rattle.rdf_term.specs.{declared.triple.Triple.Triple, Order.triple_cmp, Order.triple_cmp-total}
use Rattle.entity_model.specs.{declared.id.EntityId.EntityId, declared.event.Event.Event, EntityId.entity_cmp}
use Rattle.entity_state.specs.{declared.state.State.State, declared.record.Held.Held, declared.record.Record.Record}
use Rattle.text_region.specs.{declared.piece.Piece.Piece, Region.Texts, Region.Updates, Region.bytes_of}
use Rattle.triple_catalog.specs.Counts.{Exchanges, count_of}
use Rattle.triple_store.specs.StoreState.{AreKeysOf, IsSound, KeepsKeys, StoreState, counts_in}
use Rattle.replay_model.specs.{Records.Bytes, Union.Meaning, Union.triples_held}
use Rattle.shared_triples.specs.Lean.{AreCounted, stored_of, strangers, triples_of}
use Rattle.entity_counts.specs.Naming.{Naming, pages_naming}
use Rattle.lean_holdings.specs.declared.kept.LeanPage.{LeanPage}
use Rattle.lean_holdings.specs.{Freeing.FreesPiece, Going.PutsIn, Holding.IsKept, Holding.counted_by}
use Rattle.lean_holdings.specs.Kept.{KeptRecords, held_with, kept_of, keys_held, piece_at, piece_held, seen}
use Rattle.holders.proofs.Keyed.{keys_same}
use Rattle.lean_holdings.proofs.{Going.goes_in, Pieces.new_text, Pieces.pieces_come, Pieces.texts_stay, Seen.seen_moved}

-- the entities that what is held names go by the entities that were named
module _ (m n : Meaning Triple) (x : EntityId) (agree : (y : EntityId) → y ≢ x → (rev : ℕ) (bytes : Bytes) → n y rev bytes ≡ m y rev bytes)
    (s s2 : StoreState) (pages pages2 pages3 : Texts) (names names2 : Naming) (kept : KeptRecords) (state : State) (reconciled : Option Event)
    (gone come : List EntityId) (shared : List Triple)
    (h : IsKept m s pages names kept)
    (freed : FreesPiece (piece_at kept x) pages2 pages3)
    (counted : counted_by names2 ≡ counted_by names)
    (named : (y : EntityId) → pages_naming names2 y + one_if (has entity_cmp y gone) ≡ pages_naming names y + one_if (has entity_cmp y come))
    (gone_are : (y : EntityId) → has entity_cmp y gone ≡ has entity_cmp y (strangers x (triples_of m (seen pages kept) x)))
    (sound : IsSound s2) (keeps : KeepsKeys s s2)
    (counts : (triples : List Triple) → AreKeysOf s (keys_held (kept_of kept x).held) triples → Exchanges (counts_in s) (counts_in s2) triples shared) where
  -- ---- a page comes

  module _ (rev : ℕ) (content : LeanPage) (bytes : Bytes)
      (vacant : bytes_of pages content.piece ≡ None)
      (placed : Updates pages pages2 content.piece (Some bytes))
      (come_are : (y : EntityId) → has entity_cmp y come ≡ has entity_cmp y (strangers x (n x rev bytes)))
      (known : AreCounted (counted_by names) come)
      (keyed : AreKeysOf s2 content.keys.rising.items shared)
      (stored : sorted triple_cmp shared ≡ stored_of (counted_by names) n x rev bytes) where
    abbrev page : Record LeanPage
    page = record { state = state; held = Some (record { revision = rev; content = content }); reconciled = reconciled }

    page_middle : (p : Piece) → Some content.piece ≢ Some p → bytes_of pages2 p ≡ bytes_of pages p
    page_middle p other = placed.others p (λ e. other (ap (λ z. Some z) (sym e)))

    page_vacant : (p : Piece) → Some content.piece ≡ Some p → (bytes_of pages p ≡ None) × (is_some (bytes_of pages2 p) ≡ true)
    page_vacant p is =
        let one : content.piece ≡ p = cc in
        (ap (bytes_of pages) (sym one) ∙ vacant, ap is_some (ap (bytes_of pages2) (sym one) ∙ placed.changed))

    page_text : bytes_of pages3 content.piece ≡ Some bytes
    page_text = new_text kept x page pages pages2 pages3 h.pieces page_middle page_vacant freed content.piece refl ∙ placed.changed

    page_held : held_with (bytes_of pages3) page.held ≡ Some (record { revision = rev; content = bytes })
    page_held = ap (λ (o : Option Bytes). Some (record { revision = rev; content = unwrap_or o [] })) page_text

    still : (y : EntityId) (p : Piece) → y ≢ x → piece_at kept y ≡ Some p → bytes_of pages3 p ≡ bytes_of pages p
    still = texts_stay kept x page pages pages2 pages3 h.pieces page_middle page_vacant freed

    meant : (t : Triple) → has triple_cmp t shared ≡ has triple_cmp t (stored_of (counted_by names) n x rev bytes)
    meant t = sym (has-sorted triple_cmp-total t shared) ∙ ap (has triple_cmp t) stored

    puts_page : PutsIn m n x s s2 pages pages3 names names2 kept page
    puts_page = record {
      agree = agree;
      texts = still;
      pieces = pieces_come kept x page pages pages2 pages3 h.pieces page_middle page_vacant freed;
      counted = counted;
      named = λ y.
          ap (λ b. pages_naming names2 y + one_if b) (sym (gone_are y)) ∙ named y
          ∙ ap (λ b. pages_naming names y + one_if b) (come_are y ∙ ap (λ (held : Option (Held Bytes)). has entity_cmp y (strangers x (triples_held n x held))) (sym page_held));
      known = subst (λ (held : Option (Held Bytes)). AreCounted (counted_by names) (strangers x (triples_held n x held))) (sym page_held) (λ y there. known y (come_are y ∙ there));
      sound = sound;
      moves = subst (λ (held : Option (Held Bytes)). Exchanges (counts_in s) (counts_in s2) (triples_of (stored_of (counted_by names) m) (seen pages kept) x) (triples_held (stored_of (counted_by names) n) x held)) (sym page_held)
          (record { counts = λ t. (counts (triples_of (stored_of (counted_by names) m) (seen pages kept) x) (h.keyed x)).counts t ∙ ap (λ b. count_of (counts_in s) t + one_if b) (meant t) });
      keeps = keeps;
      keyed = subst (λ (held : Option (Held Bytes)). AreKeysOf s2 content.keys.rising.items (triples_held (stored_of (counted_by names) n) x held)) (sym page_held)
          (keys_same s2 content.keys.rising.items shared (stored_of (counted_by names) n x rev bytes) meant keyed);
    }

    pub page_comes : IsKept n s2 pages3 names2 (map.insert kept x page)
    page_comes = goes_in m n x s s2 pages pages3 names names2 kept page h puts_page

    -- and so it is seen
    pub page_seen : seen pages3 (map.insert kept x page) ≡ map.insert (seen pages kept) x (record { state = state; held = Some (record { revision = rev; content = bytes }); reconciled = reconciled })
    page_seen = seen_moved (bytes_of pages) (bytes_of pages3) kept x page still
        ∙ ap (λ (held : Option (Held Bytes)). map.insert (seen pages kept) x (record { state = state; held = held; reconciled = reconciled })) page_held

  -- ---- what was held goes

  module _ (texts : (p : Piece) → bytes_of pages2 p ≡ bytes_of pages p) (come_none : (y : EntityId) → has entity_cmp y come ≡ has entity_cmp y [])
      (shared_none : (t : Triple) → has triple_cmp t shared ≡ has triple_cmp t []) where
    abbrev blank_page : Record LeanPage
    blank_page = record { state = state; held = None; reconciled = reconciled }

    none_vacant : (p : Piece) → piece_held None ≡ Some p → (bytes_of pages p ≡ None) × (is_some (bytes_of pages2 p) ≡ true)
    none_vacant p is = absurd (true≢false (sym (ap is_some is)))

    others_still : (y : EntityId) (p : Piece) → y ≢ x → piece_at kept y ≡ Some p → bytes_of pages3 p ≡ bytes_of pages p
    others_still = texts_stay kept x blank_page pages pages2 pages3 h.pieces (λ p _. texts p) none_vacant freed

    puts_none : PutsIn m n x s s2 pages pages3 names names2 kept blank_page
    puts_none = record {
      agree = agree;
      texts = others_still;
      pieces = pieces_come kept x blank_page pages pages2 pages3 h.pieces (λ p _. texts p) none_vacant freed;
      counted = counted;
      named = λ y.
          ap (λ b. pages_naming names2 y + one_if b) (sym (gone_are y)) ∙ named y
          ∙ ap (λ b. pages_naming names y + one_if b) (come_none y);
      known = λ y there. absurd (true≢false (sym there));
      sound = sound;
      moves = record { counts = λ t. (counts (triples_of (stored_of (counted_by names) m) (seen pages kept) x) (h.keyed x)).counts t ∙ ap (λ b. count_of (counts_in s) t + one_if b) (shared_none t) };
      keeps = keeps;
      keyed = record { rising = tt; each = λ _ there. absurd (true≢false (sym there)); all = λ _ there. absurd (true≢false (sym there)) };
    }

    pub page_goes : IsKept n s2 pages3 names2 (map.insert kept x blank_page)
    page_goes = goes_in m n x s s2 pages pages3 names names2 kept blank_page h puts_none

    -- and so it is seen
    pub gone_seen : seen pages3 (map.insert kept x blank_page) ≡ map.insert (seen pages kept) x (record { state = state; held = None; reconciled = reconciled })
    gone_seen = seen_moved (bytes_of pages) (bytes_of pages3) kept x blank_page others_still
