-- The ids of forms and senses, and which lexemes are small: those that a page of the allowed size can have.
use Rattle.std.specs.Prelude.{◌≡◌, ℕ, Bool, ◌&&◌, ◌<◌, ◌≤◌, ◌^◌, nat_lt, List, ◌++◌, length, take, drop, codes, decimal}
use Rattle.std.specs.List.{All}
use Rattle.std.specs.Str.{bytes_eq}
use Rattle.std.specs.Str.Parse.{digits_value}
use Rattle.entity_model.specs.declared.id.EntityId.{EntityId}
use Rattle.entity_model.specs.declared.lexeme.Lexeme.{Lexeme}
use Rattle.entity_model.specs.declared.lexeme.Part.{Part}
use Rattle.entity_model.specs.EntityId.{id_text}
use Rattle.entity_model.specs.Statement.{IsSmallStatement}
use Rattle.entity_model.specs.Value.{IsSmallTagged, optional_length}

-- what stands between a lexeme's id and the number of a form, and of a sense
unfoldable pub form_mark : List ℕ
form_mark = codes "-F"

unfoldable pub sense_mark : List ℕ
sense_mark = codes "-S"

-- the id of a part: the lexeme's, the mark and the part's number from 1 to 4,294,967,295 in decimal
pub record IsPartId (x : EntityId) (mark id : List ℕ) : Type 0 where
  pub number : ℕ
  pub low : 0 < number
  pub high : number < 2 ^ 32
  pub is : id ≡ id_text x ++ mark ++ decimal number

-- whether the digits are a number from 1 to 4,294,967,295 in decimal
abbrev pub is_id_number : List ℕ → Bool
is_id_number digits =
    let n = digits_value 10 digits in nat_lt 0 n && (nat_lt n (2 ^ 32) && bytes_eq (decimal n) digits)

-- whether the text begins so, and such a number follows
abbrev pub is_part_id : List ℕ → List ℕ → Bool
is_part_id front text = bytes_eq (take (length front) text) front && is_id_number (drop (length front) text)

-- the id is one of a part of x, and the texts and statements are small
pub record IsSmallPart (x : EntityId) (mark : List ℕ) (part : Part) : Type 0 where
  pub id : IsPartId x mark part.id
  pub texts : All IsSmallTagged part.texts
  pub statements : All IsSmallStatement part.statements

-- each text has at most 8 MiB, and the parts are small
pub record IsSmallLexeme (lexeme : Lexeme) : Type 0 where
  pub modified : optional_length lexeme.modified ≤ 8388608
  pub lemmas : All IsSmallTagged lexeme.lemmas
  pub statements : All IsSmallStatement lexeme.statements
  pub forms : All (IsSmallPart lexeme.id form_mark) lexeme.forms
  pub senses : All (IsSmallPart lexeme.id sense_mark) lexeme.senses
