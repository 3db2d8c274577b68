-- The piece of the page that an entity held before is freed.
use Rattle.std.specs.Prelude.{◌≡◌, Option, None, Some}
use Rattle.text_region.specs.{declared.piece.Piece.Piece, Region.Texts, Region.Updates, Region.bytes_of}

-- the piece, if there is one, is freed; all others are as they were
abbrev pub FreesPiece : Option Piece → Texts → Texts → Type 0
FreesPiece None old new = (piece : Piece) → bytes_of new piece ≡ bytes_of old piece
FreesPiece (Some gone) old new = Updates old new gone None
