use Rattle.std.proofs.Common.{◌≡◌, length, take}
use Rattle.block_index.specs.Blocks.{keys_of}
use Rattle.block_index.proofs.counting.count_keys.Given as goal

abbrev pub invariant-loop-block : goal.invariant-loop-block
invariant-loop-block g l = l.keys ≡ length (keys_of (take l.block-index l.blocks))
