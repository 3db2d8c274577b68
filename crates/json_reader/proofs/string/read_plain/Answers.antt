-- Where a quotation mark follows the plain bytes, they are the content.
use Rattle.std.proofs.Common.{◌≡◌, ◌∷◌, Some, sym, ap, ◌∙◌, subst}
use Rattle.std.specs.Str.{IsUtf8}
use Rattle.json_spell.specs.Runs.{is_plain}
use Rattle.json_spell.specs.Reading.{skip, before}
use Rattle.json_spell.proofs.Lists.{after_byte-sound}
use Rattle.json_spell.proofs.PlainRuns.{plain-utf8, plain-closed}
use Rattle.json_reader.proofs.string.read_plain.Goals as goal

pub text_of-requires : goal.text_of-requires
text_of-requires c =
    let s = c.args.bytes.now in
    let run_is : c.before-2.result.now ≡ before (skip is_plain s) s = c.before-2.ensures ∙ ap (λ q. before q s) c.skip_plain-end.ensures.rest in
    subst IsUtf8 (sym run_is) (plain-utf8 s)

pub returns-clause-read : goal.returns-clause-read
returns-clause-read c =
    let s = c.args.bytes.now in
    let rest = c.in_ok-rest.rest.now in
    let run_is : c.before-2.result.now ≡ before (skip is_plain s) s = c.before-2.ensures ∙ ap (λ q. before q s) c.skip_plain-end.ensures.rest in
    let closes : skip is_plain s ≡ 0x22 ∷ rest = sym c.skip_plain-end.ensures.rest ∙ after_byte-sound 0x22 c.skip_plain-end.result.now rest (sym c.in_ok-rest.ensures.rest) in
    plain-closed s rest closes ∙ ap (λ q. Some (q, rest)) (sym run_is ∙ sym c.text_of.ensures)
