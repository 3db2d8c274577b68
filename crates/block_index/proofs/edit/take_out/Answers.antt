-- The key goes from a group, and so from all blocks.
use Rattle.std.proofs.Common.{◌<◌, ◌∙◌, [], length, get_or, set, sym, ap, subst, arith}
use Rattle.std.specs.List.{remove}
use Rattle.std.proofs.lemmas.List.{get_or_read, get_or-set_same, length-set}
use Rattle.block_index.specs.Blocks.{AreFilled, keys_of}
use Rattle.block_index.specs.Edit.{Edits}
use Rattle.block_index.specs.Groups.{index_of}
use Rattle.block_index.proofs.Grouped.{block_read, filled_group, groups_taken, short_taken, taken_lifted}
use Rattle.block_index.proofs.edit.take_out.Goals as goal

pub take_out-requires-clause-filled : goal.take_out-requires-clause-filled
take_out-requires-clause-filled g c =
    subst AreFilled (sym (get_or_read c.args.groups.now.items c.args.position.group c.index_mut.result.now c.requires.inside.0 c.index_mut.ensures.value [])) (filled_group c.args.groups.now.items c.args.position.group c.requires.filled)

pub take_out-requires-clause-within : goal.take_out-requires-clause-within
take_out-requires-clause-within g c =
    subst (λ x. c.args.position.at < length x) (sym (block_read c.args.groups.now.items c.args.position.group c.args.position.block c.index_mut.result.now c.requires.inside c.index_mut.ensures.value)) c.requires.within

pub refill-requires : goal.refill-requires
refill-requires g c =
    let gs = c.args.groups.now.items in
    let new = c.take_out.new.self in
    let l = c.requires.inside.0 in
    let within : c.args.position.group < length (set gs c.args.position.group new) = omega (arith, length-set gs c.args.position.group new) in
    let same = ap length (get_or_read (set gs c.args.position.group new) c.args.position.group c.index.result.now within c.index.ensures [] ∙ get_or-set_same gs c.args.position.group new [] l) in
    short_taken gs c.args.position.group c.args.position.block c.index_mut.result.now new c.requires.groups c.requires.inside c.index_mut.ensures.value c.take_out.ensures.shrunk.0 (omega arith)

pub returns-then-len-lt-HALF_BLOCKS-clause-edits : goal.returns-then-len-lt-HALF_BLOCKS-clause-edits
returns-then-len-lt-HALF_BLOCKS-clause-edits g c =
    let gs = c.args.groups.now.items in
    let i = index_of gs c.args.position.group c.args.position.block in
    subst (λ bs. Edits (keys_of gs) bs i (remove (get_or (keys_of gs) i []) c.args.position.at)) (sym c.refill.ensures.blocks)
    (taken_lifted gs c.args.position.group c.args.position.block c.args.position.at c.index_mut.result.now c.take_out.new.self c.requires.inside c.index_mut.ensures.value c.take_out.ensures.edits)

pub returns-else-len-lt-HALF_BLOCKS-clause-edits : goal.returns-else-len-lt-HALF_BLOCKS-clause-edits
returns-else-len-lt-HALF_BLOCKS-clause-edits g c =
    taken_lifted c.args.groups.now.items c.args.position.group c.args.position.block c.args.position.at c.index_mut.result.now c.take_out.new.self c.requires.inside c.index_mut.ensures.value c.take_out.ensures.edits

pub returns-else-len-lt-HALF_BLOCKS-clause-groups : goal.returns-else-len-lt-HALF_BLOCKS-clause-groups
returns-else-len-lt-HALF_BLOCKS-clause-groups g c =
    let gs = c.args.groups.now.items in
    let new = c.take_out.new.self in
    let l = c.requires.inside.0 in
    let within : c.args.position.group < length (set gs c.args.position.group new) = omega (arith, length-set gs c.args.position.group new) in
    let same = ap length (get_or_read (set gs c.args.position.group new) c.args.position.group c.index.result.now within c.index.ensures [] ∙ get_or-set_same gs c.args.position.group new [] l) in
    groups_taken gs c.args.position.group c.args.position.block c.index_mut.result.now new c.requires.groups c.requires.inside c.index_mut.ensures.value c.take_out.ensures.shrunk.1 (omega arith)
