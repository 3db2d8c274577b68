-- Each held page keeps a piece of its own where another page comes or goes.
use Rattle.std.proofs.Common.{◌≡◌, ◌≢◌, ◌⊎◌, inl, inr, true, Option, Some, None, is_some, sym, ◌∙◌, ap, true≢false, ⊎_elim}
use Rattle.entity_model.specs.declared.id.EntityId.{EntityId}
use Rattle.text_region.specs.declared.piece.Piece.{Piece}
use Rattle.text_region.proofs.Pieces.{piece_tells}
use Rattle.holders.specs.Pieces.{IsHeld, PieceTexts}
use Rattle.holders.proofs.Records.{id_tells}

held_tells : (found : Option Piece) (p : Piece) → (found ≡ Some p) ⊎ (found ≢ Some p)
held_tells None p = inr (λ e. true≢false (sym (ap is_some e)))
held_tells (Some q) p = ⊎_elim (λ h. inl (ap (λ z. Some z) h.1)) (λ h. inr (λ e. h.1 (inside e))) (piece_tells q p)
  where
    inside : Some q ≡ Some p → q ≡ p
    inside e = cc

module _ (f k : PieceTexts) (at after : EntityId → Option Piece) (x : EntityId) (h : IsHeld f at)
    (elsewhere : (y : EntityId) → y ≢ x → after y ≡ at y)
    (new : (p : Piece) → after x ≡ Some p → (f p ≡ None) × (is_some (k p) ≡ true))
    (same : (p : Piece) → at x ≢ Some p → after x ≢ Some p → k p ≡ f p) where
  -- a piece that comes is no other's
  fresh : (p : Piece) (y : EntityId) → at y ≡ Some p → after x ≢ Some p
  fresh p y there is = true≢false (sym (h.live y p there) ∙ ap is_some (new p is).0)

  -- what another entity holds has its bytes
  pub beside : (y : EntityId) (p : Piece) → y ≢ x → at y ≡ Some p → k p ≡ f p
  beside y p other there = same p (λ is. other (h.once y x p there is)) (fresh p y there)

  pub moved_held : ((p : Piece) → at x ≡ Some p → k p ≡ None) → IsHeld k after
  moved_held gone = record {
    live = λ y p is. ⊎_elim
        (λ own. (new p (ap after (sym own.1) ∙ is)).1)
        (λ other.
        let there : at y ≡ Some p = sym (elsewhere y other.1) ∙ is in
        ap is_some (beside y p other.1 there) ∙ h.live y p there)
        (id_tells y x);
    once = λ y z p is also. ⊎_elim
        (λ own. ⊎_elim
        (λ one. own.1 ∙ sym one.1)
        (λ other. absurd (fresh p z (sym (elsewhere z other.1) ∙ also) (ap after (sym own.1) ∙ is)))
        (id_tells z x))
        (λ other. ⊎_elim
        (λ own. absurd (fresh p y (sym (elsewhere y other.1) ∙ is) (ap after (sym own.1) ∙ also)))
        (λ too. h.once y z p (sym (elsewhere y other.1) ∙ is) (sym (elsewhere z too.1) ∙ also))
        (id_tells z x))
        (id_tells y x);
    only = λ p live. ⊎_elim
        (λ is. (x, is))
        (λ isnt. ⊎_elim
        (λ was. absurd (true≢false (sym live ∙ ap is_some (gone p was))))
        (λ wasnt.
        let found : (y : EntityId) × (at y ≡ Some p) = h.only p (ap is_some (sym (same p wasnt isnt)) ∙ live) in
        (found.0, elsewhere found.0 (λ own. wasnt (ap at (sym own) ∙ found.1)) ∙ found.1))
        (held_tells (at x) p))
        (held_tells (after x) p);
  }

-- where the texts and the pieces are what they were
pub held_again : (f k : PieceTexts) (at after : EntityId → Option Piece) → IsHeld f at → ((p : Piece) → k p ≡ f p) → ((y : EntityId) → after y ≡ at y) → IsHeld k after
held_again f k at after h texts pieces = record {
  live = λ y p is. ap is_some (texts p) ∙ h.live y p (sym (pieces y) ∙ is);
  once = λ y z p is also. h.once y z p (sym (pieces y) ∙ is) (sym (pieces z) ∙ also);
  only = λ p live.
      let found : (y : EntityId) × (at y ≡ Some p) = h.only p (ap is_some (sym (texts p)) ∙ live) in
      (found.0, pieces found.0 ∙ found.1);
}
