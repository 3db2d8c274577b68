-- The JSON value of a line is what is read from it where it is UTF-8.
use Rattle.std.proofs.Common.{◌≡◌, ℕ, Bool, true, false, cond, List, Some, None, refl}
use Rattle.std.specs.Str.{IsUtf8, is_utf8}
use Rattle.std.proofs.lemmas.Str.{IsUtf8-from_is_utf8, is_utf8-from_IsUtf8}
use Rattle.serde_json.specs.Data.{Data}
use Rattle.serde_json.specs.Read.{read}
use Rattle.event_line.specs.Line.{data_of}

-- what is read from UTF-8
pub data_of-read : (line : List ℕ) (value : Data) → IsUtf8 line → read line ≡ Some value → data_of line ≡ Some value
data_of-read line value utf8 is =
    let valid : is_utf8 line ≡ true = is_utf8-from_IsUtf8 line utf8 in
    rw valid is

by_test : (line : List ℕ) (valid : Bool) → is_utf8 line ≡ valid → (IsUtf8 line → read line ≡ None) → cond valid (read line) None ≡ None
by_test line true valid none = none (IsUtf8-from_is_utf8 line valid)
by_test line false valid none = refl

-- where UTF-8 isn't read, the line has no value
pub data_of-unread : (line : List ℕ) → (IsUtf8 line → read line ≡ None) → data_of line ≡ None
data_of-unread line none = by_test line (is_utf8 line) refl none
