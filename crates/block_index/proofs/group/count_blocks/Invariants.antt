use Rattle.std.proofs.Common.{◌≡◌, length, take}
use Rattle.block_index.specs.Blocks.{keys_of}
use Rattle.block_index.proofs.group.count_blocks.Given as goal

abbrev pub invariant-loop-group : goal.invariant-loop-group
invariant-loop-group g l = l.blocks ≡ length (keys_of (take l.group-index l.groups))
