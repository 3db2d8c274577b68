-- The rows so far.
use Rattle.std.proofs.Common.{◌≡◌, take}
use Rattle.sorted_sets.specs.Rising.{difference}
use Rattle.page_parts.specs.Row.{row_cmp}
use Rattle.page_parts.proofs.changing.rows_without.Given as goal

abbrev pub invariant-loop-row : goal.invariant-loop-row
invariant-loop-row l = l.found.items ≡ difference row_cmp (take l.row-index l.rows) l.others
