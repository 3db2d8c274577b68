-- Where the string ends at the first stop, its content is what was passed over.
use Rattle.std.proofs.Common.{◌≡◌, ◌∷◌, List, ℕ, Some, None, true, false, refl, sym, ap, ◌∙◌}
use Rattle.std.specs.Str.{is_utf8}
use Rattle.json_spell.specs.Text.{is_unescaped}
use Rattle.json_spell.specs.Reading.{skip, before, run_at}
use Rattle.json_spell.proofs.Lists.{after_byte-sound}
use Rattle.json_spell.proofs.ContentSteps.{content_at-no_run, content_at-closed}
use Rattle.json_reader.proofs.string.read_any_string.Goals as goal

run_at-some : (s : List ℕ) → is_utf8 (before (skip is_unescaped s) s) ≡ true → run_at s ≡ Some (skip is_unescaped s)
run_at-some s e = rw e refl

run_at-none : (s : List ℕ) → is_utf8 (before (skip is_unescaped s) s) ≡ false → run_at s ≡ None
run_at-none s e = rw e refl

pub returns-in_default-utf8-clause-read : goal.returns-in_default-utf8-clause-read
returns-in_default-utf8-clause-read c =
    let s = c.args.bytes.now in
    let run_is : c.before-in-Some.result.now ≡ before (skip is_unescaped s) s = c.before-in-Some.ensures ∙ ap (λ q. before q s) c.skip_unescaped-end.ensures.rest in
    content_at-no_run s (run_at-none s (ap is_utf8 (sym run_is) ∙ c.in_default-utf8.ensures))

pub returns-in-Some-clause-read : goal.returns-in-Some-clause-read
returns-in-Some-clause-read c =
    let s = c.args.bytes.now in
    let rest = c.in-Some.rest.now in
    let run_is : c.before-in-Some.result.now ≡ before (skip is_unescaped s) s = c.before-in-Some.ensures ∙ ap (λ q. before q s) c.skip_unescaped-end.ensures.rest in
    let closes : skip is_unescaped s ≡ 0x22 ∷ rest = sym c.skip_unescaped-end.ensures.rest ∙ after_byte-sound 0x22 c.skip_unescaped-end.result.now rest (sym c.in-Some.ensures.rest) in
    content_at-closed s (skip is_unescaped s) rest (run_at-some s (ap is_utf8 (sym run_is) ∙ c.in-Some-utf8.ensures.1)) closes
    ∙ ap (λ q. Some (q, rest)) (sym run_is ∙ sym c.in-Some-utf8.ensures.0)
