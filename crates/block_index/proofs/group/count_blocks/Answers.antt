-- The blocks of the groups so far are no more than all.
use Rattle.std.proofs.Common.{◌<◌, [], length, ap, arith}
use Rattle.std.proofs.lemmas.List.{get_or_read}
use Rattle.block_index.proofs.Grouped.{before_next, fits_before}
use Rattle.block_index.proofs.group.count_blocks.Goals as goal

pub overflow_add-blocks : goal.overflow_add-blocks
overflow_add-blocks g c =
    let i = c.loop-group.group-index in
    let gs = c.args.groups.now in
    let within : i < length gs = c.loop-group-test.true in
    let so_far = c.loop-group.invariant in
    let same = ap length (get_or_read gs i c.group-item.result within c.group-item.is []) in
    let fits = fits_before gs i within in
    let all = c.requires in
    omega arith

pub loop-group-preserved : goal.loop-group-preserved
loop-group-preserved g c =
    let i = c.loop-group.group-index in
    let gs = c.args.groups.now in
    let within : i < length gs = c.loop-group-test.true in
    let so_far = c.loop-group.invariant in
    let same = ap length (get_or_read gs i c.group-item.result within c.group-item.is []) in
    let next = before_next gs i within in
    omega arith
