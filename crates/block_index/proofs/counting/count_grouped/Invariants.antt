use Rattle.std.proofs.Common.{◌≡◌, length, take}
use Rattle.block_index.specs.Blocks.{keys_of}
use Rattle.block_index.proofs.counting.count_grouped.Given as goal

abbrev pub invariant-loop-group : goal.invariant-loop-group
invariant-loop-group g l = l.keys ≡ length (keys_of (keys_of (take l.group-index l.groups)))
