-- One row more is kept, or it isn't.
use Rattle.std.proofs.Common.{get_or}
use Rattle.page_parts.specs.Row.{row_has_more}
use Rattle.page_parts.proofs.StayingRows.{more_now, no_more, row_kept, row_passed}
use Rattle.page_parts.proofs.staying.rows_more.Goals as goal
use Rattle.page_parts.proofs.staying.rows_more.Goals.{then-count_of+in_ok-push, else-count_of}

pub loop-row-preserved : goal.loop-row-preserved
loop-row-preserved c =
    let all = c.args.all.now in
    let p = row_has_more all c.args.others.now in
    elim c.if-count_of.branch [
      | then-count_of+in_ok-push w ↦ rw (w.rows-is) (row_kept p all c.loop-row.row-index _ c.loop-row.rows.items w.push.new.self.items c.loop-row-test.true c.loop-row.invariant
          (more_now all c.args.others.now (get_or all c.loop-row.row-index _) _ _ c.count_of.ensures c.count_of-in-loop-row.ensures w.if-count_of.true) w.in_ok-push.ensures.items)
      | else-count_of w ↦ rw (w.rows-is) (row_passed p all c.loop-row.row-index _ c.loop-row.rows.items c.loop-row-test.true c.loop-row.invariant (no_more all c.args.others.now (get_or all c.loop-row.row-index _) _ _ c.count_of.ensures c.count_of-in-loop-row.ensures w.if-count_of.false))
    ]
