-- The pieces of a region that have the pages.
use Rattle.std.specs.Prelude.{◌≡◌, true, Option, Some, is_some}
use Rattle.entity_model.specs.declared.id.EntityId.{EntityId}
use Rattle.text_region.specs.declared.piece.Piece.{Piece}
use Rattle.replay_model.specs.Records.{Bytes}

-- the text of each piece, none where it isn't live
abbrev pub PieceTexts : Type 0
PieceTexts = Piece → Option Bytes

-- what each entity holds has a piece of its own, and no other piece is live
pub record IsHeld (text : PieceTexts) (at : EntityId → Option Piece) : Type 0 where
  pub live : (x : EntityId) (piece : Piece) → at x ≡ Some piece → is_some (text piece) ≡ true
  pub once : (x y : EntityId) (piece : Piece) → at x ≡ Some piece → at y ≡ Some piece → x ≡ y
  pub only : (piece : Piece) → is_some (text piece) ≡ true → (x : EntityId) × (at x ≡ Some piece)
