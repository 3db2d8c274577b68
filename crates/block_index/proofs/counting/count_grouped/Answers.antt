-- The keys of the groups so far are no more than all.
use Rattle.std.proofs.Common.{◌∙◌, ◌<◌, [], length, ap, arith}
use Rattle.std.proofs.lemmas.List.{get_or_read}
use Rattle.block_index.specs.Blocks.{keys_of}
use Rattle.block_index.proofs.Lengths.{grouped_fit, grouped_more}
use Rattle.block_index.proofs.counting.count_grouped.Goals as goal

pub count_keys-keys-requires : goal.count_keys-keys-requires
count_keys-keys-requires g c =
    let i = c.loop-group.group-index in
    let gs = c.args.groups.now in
    let within : i < length gs = c.loop-group-test.true in
    let same = ap (λ bs. length (keys_of bs)) (c.blocks-in-loop-group.ensures ∙ get_or_read gs i c.group-item.result within c.group-item.is []) in
    let fits = grouped_fit gs i within in
    let all = c.requires in
    omega arith

pub overflow_add-keys : goal.overflow_add-keys
overflow_add-keys g c =
    let i = c.loop-group.group-index in
    let gs = c.args.groups.now in
    let within : i < length gs = c.loop-group-test.true in
    let so_far = c.loop-group.invariant in
    let same = ap (λ bs. length (keys_of bs)) (c.blocks-in-loop-group.ensures ∙ get_or_read gs i c.group-item.result within c.group-item.is []) in
    let fits = grouped_fit gs i within in
    let all = c.requires in
    omega arith

pub loop-group-preserved : goal.loop-group-preserved
loop-group-preserved g c =
    let i = c.loop-group.group-index in
    let gs = c.args.groups.now in
    let within : i < length gs = c.loop-group-test.true in
    let so_far = c.loop-group.invariant in
    let same = ap (λ bs. length (keys_of bs)) (c.blocks-in-loop-group.ensures ∙ get_or_read gs i c.group-item.result within c.group-item.is []) in
    let next = grouped_more gs i within in
    omega arith
