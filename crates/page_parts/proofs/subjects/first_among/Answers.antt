-- One subject more is compared.
use Rattle.std.proofs.Common.{sym, ◌∙◌, true≢false}
use Rattle.std.proofs.lemmas.Slice.Eq.{bytes_eq-Decides}
use Rattle.page_parts.proofs.Sought.{first_found, still_none}
use Rattle.page_parts.proofs.subjects.first_among.Goals as goal
use Rattle.page_parts.proofs.subjects.first_among.Goals.{else-may_be-via-then-may_be+else-eq, else-may_be-via-else-may_be}

pub returns-then-eq-clause-first : goal.returns-then-eq-clause-first
returns-then-eq-clause-first c =
    first_found c.args.subjects.now c.loop-index.index _ c.args.text.now c.requires.sorted c.loop-index-test.true ((bytes_eq-Decides _ _).0 (sym c.eq.ensures ∙ c.if-eq.true)) c.loop-index.invariant

pub loop-index-preserved : goal.loop-index-preserved
loop-index-preserved c =
    still_none c.args.subjects.now c.loop-index.index _ c.args.text.now c.loop-index-test.true c.loop-index.invariant
    (λ same. elim c.else-may_be.branch [
      | else-may_be-via-then-may_be+else-eq w ↦ true≢false (sym ((bytes_eq-Decides _ _).1 same) ∙ sym w.eq.ensures ∙ w.if-eq.false)
      | else-may_be-via-else-may_be w ↦ true≢false (sym (c.may_be.ensures same) ∙ w.if-may_be.false)
    ])
