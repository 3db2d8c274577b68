-- The keys of the blocks so far are no more than all.
use Rattle.std.proofs.Common.{◌<◌, [], length, ap, arith}
use Rattle.std.proofs.lemmas.List.{get_or_read}
use Rattle.block_index.proofs.Lengths.{keys_fit, keys_more}
use Rattle.block_index.proofs.counting.count_keys.Goals as goal

pub overflow_add-keys : goal.overflow_add-keys
overflow_add-keys g c =
    let i = c.loop-block.block-index in
    let bs = c.args.blocks.now in
    let within : i < length bs = c.loop-block-test.true in
    let so_far = c.loop-block.invariant in
    let same = ap length (get_or_read bs i c.block-item.result within c.block-item.is []) in
    let fits = keys_fit bs i within in
    let all = c.requires in
    omega arith

pub loop-block-preserved : goal.loop-block-preserved
loop-block-preserved g c =
    let i = c.loop-block.block-index in
    let bs = c.args.blocks.now in
    let within : i < length bs = c.loop-block-test.true in
    let so_far = c.loop-block.invariant in
    let same = ap length (get_or_read bs i c.block-item.result within c.block-item.is []) in
    let next = keys_more bs i within in
    omega arith
