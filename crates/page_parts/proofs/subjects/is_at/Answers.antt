-- The text at the place is compared.
use Rattle.std.proofs.Common.{sym, ◌∙◌, arith, true≢false}
use Rattle.std.proofs.lemmas.Slice.Eq.{bytes_eq-Decides}
use Rattle.page_parts.proofs.Sought.{none_behind, text_among, text_there}
use Rattle.page_parts.proofs.subjects.is_at.Goals as goal

pub returns-then-place-subjects-clause-there : goal.returns-then-place-subjects-clause-there
returns-then-place-subjects-clause-there c e =
    text_among c.args.subjects.now c.args.place _ c.if-place-subjects.true c.args.text.now ((bytes_eq-Decides _ _).0 (sym c.eq.ensures ∙ e))

pub returns-then-place-subjects-clause-none : goal.returns-then-place-subjects-clause-none
returns-then-place-subjects-clause-none c e at =
    absurd (true≢false (sym ((bytes_eq-Decides _ _).1 (text_there c.args.subjects.now c.args.place _ c.if-place-subjects.true c.args.text.now at)) ∙ sym c.eq.ensures ∙ e))

pub returns-else-place-subjects-clause-none : goal.returns-else-place-subjects-clause-none
returns-else-place-subjects-clause-none c e at = none_behind c.args.subjects.now c.args.place c.args.text.now (omega (arith, c.if-place-subjects.false)) at
