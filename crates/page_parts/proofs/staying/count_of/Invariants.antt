-- The count so far.
use Rattle.std.proofs.Common.{◌≡◌, take}
use Rattle.std.specs.Prelude.{count_by}
use Rattle.std.specs.Ordering.{eq_by_cmp}
use Rattle.page_parts.specs.Row.{row_cmp}
use Rattle.page_parts.proofs.staying.count_of.Given as goal

abbrev pub invariant-loop-other : goal.invariant-loop-other
invariant-loop-other l = l.count ≡ count_by (eq_by_cmp row_cmp l.row) (take l.other-index l.rows)
