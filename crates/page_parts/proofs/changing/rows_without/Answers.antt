-- One row more is looked for.
use Rattle.std.proofs.Common.{is_ok, sym, ◌∙◌, ap, arith}
use Rattle.std.proofs.lemmas.List.{take_all}
use Rattle.sorted_sets.specs.Rising.{difference}
use Rattle.page_parts.specs.Row.{row_cmp}
use Rattle.page_parts.proofs.Changed.{row_alone, row_among}
use Rattle.page_parts.proofs.changing.rows_without.Goals as goal
use Rattle.page_parts.proofs.changing.rows_without.Goals.{in-Ok, in-Err+in_ok-push-in-Err}

pub loop-row-preserved : goal.loop-row-preserved
loop-row-preserved c =
    elim c.match-find_from.branch [
      | in-Ok w ↦ rw (w.found-is) (row_among c.args.rows.now c.args.others.now c.loop-row.found.items c.loop-row.row-index _ c.loop-row-test.true c.loop-row.invariant (sym c.find_from.ensures.there ∙ ap is_ok w.in-Ok.is))
      | in-Err+in_ok-push-in-Err w ↦ rw (w.found-is) (row_alone c.args.rows.now c.args.others.now c.loop-row.found.items c.loop-row.row-index _ c.loop-row-test.true c.loop-row.invariant
          (sym c.find_from.ensures.there ∙ ap is_ok w.in-Err.is) w.push.new.self.items w.in_ok-push-in-Err.ensures.items)
    ]

pub returns : goal.returns
returns c = c.loop-row.invariant ∙ ap (λ ks. difference row_cmp ks c.args.others.now) (take_all c.loop-row.row-index c.args.rows.now (omega (arith, c.loop-row-test.false)))
