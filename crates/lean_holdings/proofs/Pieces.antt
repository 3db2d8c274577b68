-- Each page that is held keeps a piece of its own where another page comes or goes.
use Rattle.std.proofs.Common.{◌≡◌, ◌≢◌, true, Option, Some, None, is_some, sym, ◌∙◌, ap, true≢false}
use Rattle.std.specs.FinMap as map
use Rattle.entity_model.specs.declared.id.EntityId.{EntityId}
use Rattle.entity_state.specs.declared.record.Record.{Record}
use Rattle.text_region.specs.{declared.piece.Piece.Piece, Region.Texts, Region.bytes_of}
use Rattle.lean_holdings.specs.declared.kept.LeanPage.{LeanPage}
use Rattle.holders.specs.Pieces.{IsHeld}
use Rattle.lean_holdings.specs.Freeing.{FreesPiece}
use Rattle.lean_holdings.specs.Kept.{KeptRecords, piece_at, piece_held}
use Rattle.holders.proofs.{Pieced.beside, Pieced.moved_held, Records.record_elsewhere, Records.record_here}

freed_other : (old : Option Piece) (f k : Texts) → FreesPiece old f k → (p : Piece) → old ≢ Some p → bytes_of k p ≡ bytes_of f p
freed_other None f k h p other = h p
freed_other (Some q) f k h p other = h.others p (λ e. other (ap (λ z. Some z) (sym e)))

freed_gone : (old : Option Piece) (f k : Texts) → FreesPiece old f k → (p : Piece) → old ≡ Some p → bytes_of k p ≡ None
freed_gone None f k h p is = absurd (true≢false (sym (ap is_some is)))
freed_gone (Some q) f k h p is = let same : q ≡ p = cc in ap (bytes_of k) (sym same) ∙ h.changed

module _ (kept : KeptRecords) (x : EntityId) (r : Record LeanPage) (pages pages2 pages3 : Texts)
    (h : IsHeld (bytes_of pages) (piece_at kept))
    (middle : (p : Piece) → piece_held r.held ≢ Some p → bytes_of pages2 p ≡ bytes_of pages p)
    (vacant : (p : Piece) → piece_held r.held ≡ Some p → (bytes_of pages p ≡ None) × (is_some (bytes_of pages2 p) ≡ true))
    (freed : FreesPiece (piece_at kept x) pages2 pages3) where
  after_is : piece_at (map.insert kept x r) x ≡ piece_held r.held
  after_is = ap (λ (was : Record LeanPage). piece_held was.held) (record_here kept x r)

  -- the piece that comes isn't the one that is freed
  pub new_text : (p : Piece) → piece_held r.held ≡ Some p → bytes_of pages3 p ≡ bytes_of pages2 p
  new_text p is = freed_other (piece_at kept x) pages2 pages3 freed p
      (λ was. true≢false (sym (h.live x p was) ∙ ap is_some (vacant p is).0))

  elsewhere : (y : EntityId) → y ≢ x → piece_at (map.insert kept x r) y ≡ piece_at kept y
  elsewhere y other = ap (λ (was : Record LeanPage). piece_held was.held) (record_elsewhere kept x r y other)

  comes : (p : Piece) → piece_at (map.insert kept x r) x ≡ Some p → (bytes_of pages p ≡ None) × (is_some (bytes_of pages3 p) ≡ true)
  comes p is =
      let own : piece_held r.held ≡ Some p = sym after_is ∙ is in
      ((vacant p own).0, ap is_some (new_text p own) ∙ (vacant p own).1)

  same : (p : Piece) → piece_at kept x ≢ Some p → piece_at (map.insert kept x r) x ≢ Some p → bytes_of pages3 p ≡ bytes_of pages p
  same p wasnt isnt =
      freed_other (piece_at kept x) pages2 pages3 freed p wasnt ∙ middle p (λ is. isnt (after_is ∙ is))

  -- each entity's page has a piece of its own again
  pub pieces_come : IsHeld (bytes_of pages3) (piece_at (map.insert kept x r))
  pieces_come = moved_held (bytes_of pages) (bytes_of pages3) (piece_at kept) (piece_at (map.insert kept x r)) x h elsewhere comes same
      (freed_gone (piece_at kept x) pages2 pages3 freed)

  -- and the others' have the bytes that they had
  pub texts_stay : (y : EntityId) (p : Piece) → y ≢ x → piece_at kept y ≡ Some p → bytes_of pages3 p ≡ bytes_of pages p
  texts_stay = beside (bytes_of pages) (bytes_of pages3) (piece_at kept) (piece_at (map.insert kept x r)) x h elsewhere comes same
