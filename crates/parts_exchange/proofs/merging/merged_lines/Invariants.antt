-- The lines so far, and less is left each time.
use Rattle.std.proofs.Common.{◌+◌, ◌≤◌, length}
use Rattle.parts_exchange.proofs.MergedLines.{Merges}
use Rattle.parts_exchange.proofs.merging.merged_lines.Given as goal

abbrev pub invariant-loop-left : goal.invariant-loop-left
invariant-loop-left l = record {
  within : l.count ≤ length l.text.items;
  merging : Merges l.first l.second l.left l.right l.text.items l.count;
}

abbrev pub decreases-loop-left : goal.decreases-loop-left
decreases-loop-left l = length l.left + length l.right
