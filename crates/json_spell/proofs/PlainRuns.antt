-- A run of plain bytes is UTF-8, and up to a quotation mark it is the content of a string.
use Rattle.std.proofs.Common.{◌≡◌, ℕ, ◌<◌, true, List, [], ◌∷◌, ◌++◌, Some, refl, sym, ap, subst, ◌∙◌, arith}
use Rattle.std.specs.Str.{IsUtf8, is_utf8}
use Rattle.std.proofs.lemmas.Str.{IsUtf8-from_ascii, is_utf8-from_IsUtf8}
use Rattle.std.proofs.lemmas.Bool.Decides.{nat_tests}
use Rattle.json_spell.specs.Number.{EachPasses}
use Rattle.json_spell.specs.Text.{is_unescaped}
use Rattle.json_spell.specs.Reading.{skip, before, run_at, content_at}
use Rattle.json_spell.specs.Runs.{is_plain}
use Rattle.json_spell.proofs.Skips.{skip-split, skip-all, before-append}
use Rattle.json_spell.proofs.Numbers.{each-ascii}
use Rattle.json_spell.proofs.ContentSteps.{content_at-closed}

plain-low : (x : ℕ) → is_plain x ≡ true → x < 128
plain-low x h = grind (arith, nat_tests)

plain-unescaped : (x : ℕ) → is_plain x ≡ true → is_unescaped x ≡ true
plain-unescaped x h = grind (arith, nat_tests)

each-unescaped : (x : List ℕ) → EachPasses is_plain x → EachPasses is_unescaped x
each-unescaped [] h = tt
each-unescaped (x ∷ xs) h = (plain-unescaped x h.0, each-unescaped xs h.1)

pub plain-utf8 : (s : List ℕ) → IsUtf8 (before (skip is_plain s) s)
plain-utf8 s =
    let f = skip-split is_plain s in
    let run_is : before (skip is_plain s) s ≡ f.text = ap (before (skip is_plain s)) f.is ∙ before-append f.text (skip is_plain s) in
    subst IsUtf8 (sym run_is) (IsUtf8-from_ascii f.text (each-ascii is_plain plain-low f.text f.holds))

-- the run ends where the one of all bytes that stand for themselves does
plain-same : (s r : List ℕ) → skip is_plain s ≡ 0x22 ∷ r → skip is_unescaped s ≡ 0x22 ∷ r
plain-same s r e =
    let f = skip-split is_plain s in
    let whole : s ≡ f.text ++ 0x22 ∷ r = f.is ∙ ap (λ q. f.text ++ q) e in
    ap (skip is_unescaped) whole ∙ skip-all is_unescaped f.text (0x22 ∷ r) (each-unescaped f.text f.holds) refl

run_at-some : (s : List ℕ) → is_utf8 (before (skip is_unescaped s) s) ≡ true → run_at s ≡ Some (skip is_unescaped s)
run_at-some s e = rw e refl

pub plain-closed : (s r : List ℕ) → skip is_plain s ≡ 0x22 ∷ r → content_at s ≡ Some (before (skip is_plain s) s, r)
plain-closed s r e =
    let f = plain-same s r e in
    let one : before (skip is_unescaped s) s ≡ before (skip is_plain s) s = ap (λ q. before q s) (f ∙ sym e) in
    let utf8 : is_utf8 (before (skip is_unescaped s) s) ≡ true = ap is_utf8 one ∙ is_utf8-from_IsUtf8 (before (skip is_plain s) s) (plain-utf8 s) in
    content_at-closed s (skip is_unescaped s) r (run_at-some s utf8) f ∙ ap (λ q. Some (q, r)) one
