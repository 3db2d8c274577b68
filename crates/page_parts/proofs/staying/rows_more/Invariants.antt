-- The rows so far.
use Rattle.std.proofs.Common.{◌≡◌, filter, take}
use Rattle.page_parts.specs.Row.{row_has_more}
use Rattle.page_parts.proofs.staying.rows_more.Given as goal

abbrev pub invariant-loop-row : goal.invariant-loop-row
invariant-loop-row l = l.rows.items ≡ filter (row_has_more l.all l.others) (take l.row-index l.all)
