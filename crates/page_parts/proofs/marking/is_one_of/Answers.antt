-- One row more is compared.
use Rattle.std.proofs.Common.{◌≡◌, Bool, true, false, refl, sym, ◌∙◌, true≢false}
use Rattle.std.specs.Ordering.{eq_by_cmp}
use Rattle.std.proofs.lemmas.List.Folds.{list_any_at}
use Rattle.page_parts.specs.Row.{row_cmp}
use Rattle.page_parts.proofs.Sought.{still_no_row}
use Rattle.page_parts.proofs.marking.is_one_of.Goals as goal
use Rattle.page_parts.proofs.marking.is_one_of.Goals.{else-may_be_row-via-then-may_be_row+else-eq, else-may_be_row-via-else-may_be_row}

never : (b r : Bool) → (b ≡ true → r ≡ true) → r ≡ false → b ≡ false
never false r h e = refl
never true r h e = absurd (true≢false (sym (h refl) ∙ e))

pub returns-then-eq : goal.returns-then-eq
returns-then-eq c = sym (list_any_at (eq_by_cmp row_cmp c.args.row.now) c.args.rows.now c.loop-other.other-index _ c.loop-other-test.true (sym c.eq.ensures ∙ c.if-eq.true))

pub loop-other-preserved : goal.loop-other-preserved
loop-other-preserved c =
    still_no_row c.args.rows.now c.loop-other.other-index _ c.args.row.now c.loop-other-test.true c.loop-other.invariant
    (elim c.else-may_be_row.branch [
      | else-may_be_row-via-then-may_be_row+else-eq w ↦ sym w.eq.ensures ∙ w.if-eq.false
      | else-may_be_row-via-else-may_be_row w ↦ never _ _ c.may_be_row.ensures w.if-may_be_row.false
    ])
