use Rattle.std.proofs.Common.{◌≡◌, ◌-◌, ◌<◌, length}
use Rattle.block_index.specs.Groups.{index_of}
use Rattle.block_index.proofs.group.block_at.Given as goal

abbrev pub invariant-loop-left : goal.invariant-loop-left
invariant-loop-left g l = (l.group < length l.groups) × (index_of l.groups l.group l.left ≡ l.fn.index)

abbrev pub decreases-loop-left : goal.decreases-loop-left
decreases-loop-left g l = length l.groups - l.group
