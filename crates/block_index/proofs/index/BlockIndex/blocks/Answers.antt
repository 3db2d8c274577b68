-- There are no more blocks than keys, whose number the index has.
use Rattle.std.proofs.Common.{length, ap, arith}
use Rattle.block_index.specs.Blocks.{keys_of}
use Rattle.block_index.proofs.Parts.{blocks_few}
use Rattle.block_index.proofs.index.BlockIndex.blocks.Goals as goal

pub count_blocks-requires : goal.count_blocks-requires
count_blocks-requires g c =
    let few = blocks_few (keys_of c.self.inside.groups.items) c.self.invariant.index.filled in
    let counted = c.self.invariant.index.counted in
    let same = ap (λ gs. length (keys_of gs)) c.deref.ensures.value in
    omega arith
