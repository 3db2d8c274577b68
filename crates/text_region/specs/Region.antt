-- What a contract sees of a region: the blocks of each class.
use Rattle.std.specs.Prelude.{Bool, ◌&&◌, ◌≡◌, ◌≢◌, ℕ, ◌+◌, List, [], length, Option, Some, is_some, count_by, slice_index_or, ◌==◌, if◌then◌else◌}
use Rattle.std.specs.Coded.{Coded, coded_ℕ, coded_list, coded_option}
use Rattle.text_region.specs.declared.piece.Piece.{Piece}
use Rattle.text_region.specs.Class.{IsClassOf}
use Rattle.text_region.specs.Blocks.{Blocks, block_at}

-- the blocks of each class
abbrev pub Texts : Type 0
Texts = List Blocks

-- how a region is stored as a value
abbrev pub texts_code : Coded Texts
texts_code = coded_list (coded_list (coded_option (coded_list coded_ℕ)))

-- the blocks of a class
abbrev pub blocks_of : Texts → ℕ → Blocks
blocks_of texts class = slice_index_or texts class []

-- the text of a piece: none where it isn't live
abbrev pub bytes_of : Texts → Piece → Option (List ℕ)
bytes_of texts piece = block_at (blocks_of texts piece.class) piece.number

-- how many blocks of a class are in use
abbrev pub live : Texts → ℕ → ℕ
live texts class = count_by is_some (blocks_of texts class)

-- how many blocks of a class there are, in use or not
abbrev pub made : Texts → ℕ → ℕ
made texts class = length (blocks_of texts class)

-- whether two pieces are one
abbrev pub same_piece : Piece → Piece → Bool
same_piece a b = (a.class == b.class) && (a.number == b.number)

-- the piece has this text now, or none, and every other piece is as it was
pub record Updates (old new : Texts) (piece : Piece) (text : Option (List ℕ)) : Type 0 where
  pub changed : bytes_of new piece ≡ text
  pub others : (other : Piece) → other ≢ piece → bytes_of new other ≡ bytes_of old other

-- one more block of the class is in use; it is a new one only if all were in use
pub record Places (old new : Texts) (class : ℕ) : Type 0 where
  pub one_more : live new class ≡ live old class + 1
  pub one_made : made new class ≡ made old class + (if live old class == made old class then 1 else 0)
  pub others_live : (other : ℕ) → other ≢ class → live new other ≡ live old other
  pub others_made : (other : ℕ) → other ≢ class → made new other ≡ made old other

-- one block less of the class is in use, and there are as many as before
pub record Frees (old new : Texts) (class : ℕ) : Type 0 where
  pub one_less : live new class + 1 ≡ live old class
  pub others_live : (other : ℕ) → other ≢ class → live new other ≡ live old other
  pub none_made : (other : ℕ) → made new other ≡ made old other

-- each live text lies in a block of its class
abbrev pub AreInTheirClass : Texts → Type 0
AreInTheirClass texts = (piece : Piece) (text : List ℕ) → bytes_of texts piece ≡ Some text → IsClassOf (length text) piece.class
