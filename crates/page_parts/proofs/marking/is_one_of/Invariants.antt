-- The rows so far are others.
use Rattle.std.proofs.Common.{◌≡◌, false, take}
use Rattle.sorted_sets.specs.Rising.{has}
use Rattle.page_parts.specs.Row.{row_cmp}
use Rattle.page_parts.proofs.marking.is_one_of.Given as goal

abbrev pub invariant-loop-other : goal.invariant-loop-other
invariant-loop-other l = has row_cmp l.row (take l.other-index l.rows) ≡ false
