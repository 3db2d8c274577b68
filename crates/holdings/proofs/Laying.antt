-- The region has the texts of the stored terms and the held pages, and nothing else.
use Rattle.std.proofs.Common.{◌≡◌, inl, inr, true, List, [], Option, Some, None, is_some, unwrap_or, refl, sym, ◌∙◌, ap, subst, true≢false, ⊎_elim}
use Rattle.std.specs.List.{flat_map}
use Rattle.sorted_sets.specs.Rising.{has}
use Rattle.rdf_term.specs.{declared.term.Term.Term, declared.triple.Triple.Triple, Order.term_cmp}
use Rattle.entity_model.specs.declared.id.EntityId.{EntityId}
use Rattle.entity_state.specs.declared.record.Held.{Held}
use Rattle.text_region.specs.{declared.piece.Piece.Piece, Region.bytes_of}
use Rattle.triple_store.specs.Room.{terms_of}
use Rattle.triple_store.specs.StoreState.{AreLaid, StoreState, beside, terms_in as terms_stored}
use Rattle.replay_model.specs.{Records.Bytes, Records.record_of, Union.Meaning}
use Rattle.holdings.specs.{declared.kept.KeptPage.KeptPage, InStep.IsKept, Laid.IsLaid, Laid.terms_in}
use Rattle.holdings.specs.Keeping.{KeptRecords, held_with, kept_of, piece_at, piece_held, seen}
use Rattle.holdings.proofs.{Moving.held_is, Rooming.stored_union}

some_is : (o : Option Bytes) → is_some o ≡ true → o ≡ Some (unwrap_or o [])
some_is None h = absurd (true≢false (sym h))
some_is (Some v) h = refl

abbrev content_held : Option (Held Bytes) → Bytes
content_held None = []
content_held (Some h) = h.content

module _ (m : Meaning Triple) (s : StoreState) (kept : KeptRecords) (h : IsKept m s kept) (lies : AreLaid s) where
  same_terms : terms_stored s ≡ terms_in m (seen s kept)
  same_terms = ap (flat_map terms_of) (stored_union m s kept h)

  page_by : (x : EntityId) (hb : Held Bytes) (found : Option (Held KeptPage)) → (kept_of kept x).held ≡ found → held_with (beside s) found ≡ Some hb
      → (piece : Piece) × (piece_at kept x ≡ Some piece) × (bytes_of s.texts piece ≡ Some hb.content)
  page_by x hb None e is = absurd (true≢false (sym (ap is_some is)))
  page_by x hb (Some hk) e is =
      let at : piece_at kept x ≡ Some hk.content.piece = ap piece_held e in
      let live : is_some (beside s hk.content.piece) ≡ true = h.held.live x hk.content.piece at in
      (hk.content.piece, at, lies.live hk.content.piece live ∙ some_is (beside s hk.content.piece) live ∙ ap (λ z. Some z) (ap content_held is))

  page_there : (x : EntityId) (piece : Piece) (found : Option (Held KeptPage)) → (kept_of kept x).held ≡ found → piece_held found ≡ Some piece → (hb : Held Bytes) × ((record_of (seen s kept) x).held ≡ Some hb)
  page_there x piece None e is = absurd (true≢false (sym (ap is_some is)))
  page_there x piece (Some hk) e is = (record { revision = hk.revision; content = unwrap_or (beside s hk.content.piece) [] }, held_is s kept x ∙ ap (held_with (beside s)) e)

  held_by : (piece : Piece) → is_some (beside s piece) ≡ true → (x : EntityId) × (hb : Held Bytes) × ((record_of (seen s kept) x).held ≡ Some hb) × (piece_at kept x ≡ Some piece)
  held_by piece live =
      let holder : (x : EntityId) × (piece_at kept x ≡ Some piece) = h.held.only piece live in
      let page : (hb : Held Bytes) × ((record_of (seen s kept) holder.0).held ≡ Some hb) = page_there holder.0 piece (kept_of kept holder.0).held refl holder.1 in
      (holder.0, page.0, page.1, holder.1)

  pub laid : IsLaid m s.texts (seen s kept)
  laid = record {
    term = lies.term;
    text = lies.text;
    page = piece_at kept;
    stored = λ slot t e. subst (λ (ts : List Term). has term_cmp t ts ≡ true) same_terms (lies.stored slot t e);
    each = λ t there. lies.each t (subst (λ (ts : List Term). has term_cmp t ts ≡ true) (sym same_terms) there);
    once = lies.once;
    texts = lies.texts;
    pages = λ x hb e. page_by x hb (kept_of kept x).held refl (sym (held_is s kept x) ∙ e);
    only = λ piece live. ⊎_elim (λ mine. inl mine) (λ other. inr (held_by piece other)) (lies.only piece live);
    own_texts = lies.own;
    own_pages = h.held.once;
    apart = λ slot x piece e f. true≢false (sym (h.held.live x piece f) ∙ ap is_some (lies.apart slot piece e));
  }
