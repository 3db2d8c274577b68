-- Behind the first line feed, or at the end.
use Rattle.std.proofs.Common.{sym, ◌∙◌, refl, ◌==◌, arith}
use Rattle.std.proofs.lemmas.List.Quantifiers.{position-Some}
use Rattle.patch_stream.proofs.printing.line_end.Goals as goal

pub returns-in-Some-clause-first : goal.returns-in-Some-clause-first
returns-in-Some-clause-first c = rw (sym c.line_feed.ensures ∙ c.in-Some.is) refl

pub returns-in-None-clause-first : goal.returns-in-None-clause-first
returns-in-None-clause-first c = rw (sym c.line_feed.ensures ∙ c.in-None.is) refl

pub returns-in-Some-clause-within : goal.returns-in-Some-clause-within
returns-in-Some-clause-within c =
    let at = position-Some (λ b. b == 10) c.args.text.now c.in-Some.index 0 (sym c.line_feed.ensures ∙ c.in-Some.is) in
    omega (arith, at.0)
