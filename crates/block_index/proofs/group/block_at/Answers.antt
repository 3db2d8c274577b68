-- Either the block is in this group, or as many fewer behind it.
use Rattle.std.proofs.Common.{◌≡◌, ◌∙◌, ◌+◌, ◌-◌, ◌<◌, [], length, get_or, ap, sym, arith}
use Rattle.std.proofs.lemmas.List.{get_or_read}
use Rattle.block_index.specs.Blocks.{keys_of}
use Rattle.block_index.specs.Groups.{index_of}
use Rattle.block_index.proofs.Grouped.{block_at, next_group}
use Rattle.block_index.proofs.group.block_at.Goals as goal

pub loop-left-preserved : goal.loop-left-preserved
loop-left-preserved g c =
    let gs = c.args.groups.now in
    let inv = c.loop-left.invariant in
    let past = c.loop-left-test.true in
    let one = ap length (get_or_read gs c.loop-left.group c.index-groups-group.result inv.0 c.index-groups-group.is []) in
    let two = ap length (get_or_read gs c.loop-left.group c.index-groups-group-in-loop-left.result inv.0 c.index-groups-group-in-loop-left.is []) in
    let next = next_group gs c.loop-left.group c.loop-left.left c.args.index inv.0 (omega arith) inv.1 c.requires in
    let same : c.loop-left.left - length (get_or gs c.loop-left.group []) ≡ c.loop-left.left - c.len-left.result = omega arith in
    (next.0, ap (λ n. index_of gs (c.loop-left.group + 1) n) (sym same) ∙ next.1)

pub returns : goal.returns
returns g c =
    let gs = c.args.groups.now in
    let inv = c.loop-left.invariant in
    let ended = c.loop-left-test.false in
    let one = ap length (get_or_read gs c.loop-left.group c.index-groups-group.result inv.0 c.index-groups-group.is []) in
    let is = c.blocks-2.ensures ∙ get_or_read gs c.loop-left.group c.index-groups-group-2.result inv.0 c.index-groups-group-2.is [] in
    let two = ap length is in
    let here : c.loop-left.left < length (get_or gs c.loop-left.group []) = omega arith in
    let within : c.loop-left.left < length c.blocks-2.result.now = omega arith in
    get_or_read c.blocks-2.result.now c.loop-left.left c.index-blocks-left.result within c.index-blocks-left.is []
    ∙ ap (λ bs. get_or bs c.loop-left.left []) is
    ∙ sym (block_at gs c.loop-left.group c.loop-left.left inv.0 here)
    ∙ ap (λ n. get_or (keys_of gs) n []) inv.1
