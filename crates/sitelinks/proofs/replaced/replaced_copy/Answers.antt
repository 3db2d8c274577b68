-- A character more is copied.
use Rattle.std.proofs.Common.{◌≡◌, ◌<◌, ◌∙◌, ℕ, List, ◌++◌, length, length-append, ap, sym, append_assoc, arith}
use Rattle.std.proofs.lemmas.List.{map-append}
use Rattle.std.proofs.lemmas.Str.{length-encode, len_utf8_bounds}
use Rattle.sitelinks.specs.Replaced.{replaced, replaced_byte}
use Rattle.sitelinks.proofs.replaced.replaced_copy.Goals as goal
use lib.Utf8.{encode}

one_more : (from to : ℕ) (before after new left rest : List ℕ) {text : List ℕ} → after ≡ before ++ replaced from to new → left ≡ new ++ rest
    → before ++ replaced from to left ≡ text → after ++ replaced from to rest ≡ text
one_more from to before after new left rest copied comes so_far =
    ap (λ l. l ++ replaced from to rest) copied
    ∙ append_assoc before (replaced from to new) (replaced from to rest)
    ∙ ap (λ l. before ++ l) (sym (map-append (replaced_byte from to) new rest) ∙ ap (replaced from to) (sym comes))
    ∙ so_far

pub loop-c-preserved : goal.loop-c-preserved
loop-c-preserved c = one_more c.args.from c.args.to _ _ _ _ _ c.in_ok-push_replaced.ensures c.in-Some.ensures.steps.0 c.loop-c.invariant

fewer_left : (c : ℕ) (left rest : List ℕ) → left ≡ encode c ++ rest → length rest < length left
fewer_left c left rest comes = omega (arith, ap length comes, length-append (encode c) rest, length-encode c, (len_utf8_bounds c).0)

pub loop-c-smaller : goal.loop-c-smaller
loop-c-smaller c = fewer_left c.in-Some.c _ _ c.in-Some.ensures.steps.0
