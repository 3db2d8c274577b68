-- The text is there exactly where the bytes pass std's test for UTF-8.
use Rattle.std.proofs.Common.{ℕ, List, Bool, true, false, ◌≡◌, refl}
use Rattle.std.specs.Str.{IsUtf8, is_utf8}
use Rattle.std.proofs.lemmas.Str.{IsUtf8-from_is_utf8, is_utf8-from_IsUtf8}
use Rattle.json_reader.proofs.bytes.utf8.Goals as goal

refused : (bytes : List ℕ) (b : Bool) → is_utf8 bytes ≡ b → ¬ (IsUtf8 bytes) → is_utf8 bytes ≡ false
refused bytes true e h = absurd (h (IsUtf8-from_is_utf8 bytes e))
refused bytes false e h = e

pub returns-in-Ok : goal.returns-in-Ok
returns-in-Ok c = let h = c.in-Ok.ensures.cases in (h.0, is_utf8-from_IsUtf8 c.args.bytes.now h.1)

pub returns-in-Err : goal.returns-in-Err
returns-in-Err c = refused c.args.bytes.now (is_utf8 c.args.bytes.now) refl (c.in-Err.ensures.cases).0
