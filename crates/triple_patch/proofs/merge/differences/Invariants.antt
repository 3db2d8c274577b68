use Rattle.std.proofs.Common.{◌+◌, length}
use Rattle.rdf_term.specs.Order.{triple_cmp}
use Rattle.triple_patch.proofs.Merging.{Merging}
use Rattle.triple_patch.proofs.merge.differences.Given as goal

abbrev pub invariant-loop-x : goal.invariant-loop-x
invariant-loop-x l = Merging triple_cmp l.old l.new l.left l.right l.removes l.adds

abbrev pub decreases-loop-x : goal.decreases-loop-x
decreases-loop-x l = length l.left + length l.right
