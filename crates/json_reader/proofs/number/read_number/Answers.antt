-- The bytes of a number are a text.
use Rattle.std.proofs.Common.{sym, subst}
use Rattle.std.specs.Str.{IsUtf8}
use Rattle.std.proofs.lemmas.Str.{IsUtf8-from_is_utf8}
use Rattle.json_spell.specs.Reading.{before}
use Rattle.json_spell.proofs.Numbers.{number_at-utf8}
use Rattle.json_reader.proofs.number.read_number.Goals as goal

pub text_of-spelling-requires : goal.text_of-spelling-requires
text_of-spelling-requires c =
    let bytes = c.args.bytes.now in
    let rest = c.in-Some.rest.now in
    subst IsUtf8 (sym c.before-2.ensures) (IsUtf8-from_is_utf8 (before rest bytes) (number_at-utf8 bytes rest (sym c.in-Some.ensures.rest)))
