-- The halves of a full group stand in its place.
use Rattle.std.proofs.Common.{◌∙◌, ◌+◌, [], length, get_or, set, ap, arith}
use Rattle.std.specs.List.{insert}
use Rattle.std.proofs.lemmas.List.{get_or_read}
use Rattle.block_index.specs.Groups.{least}
use Rattle.block_index.proofs.Grouped.{sized_at}
use Rattle.block_index.proofs.Regrouped.{blocks_split, groups_split, place_high, place_low}
use Rattle.block_index.proofs.edit.make_room.Goals as goal

pub split-requires : goal.split-requires
split-requires g c =
    let gs = c.args.groups.now.items in
    let l = c.requires.inside.0 in
    let one = ap length (get_or_read gs c.args.position.group c.index.result.now l c.index.ensures []) in
    let two = ap length (get_or_read gs c.args.position.group c.index_mut.result.now l (c.index_mut.ensures.value ∙ ap (λ hs. get_or hs c.args.position.group c.index_mut.result.now) c.reserve.ensures.items) []) in
    let most = (sized_at (least (length gs)) gs c.args.position.group l c.requires.groups).1 in
    omega arith

pub returns-then-position-lt-HALF_BLOCKS-clause-blocks : goal.returns-then-position-lt-HALF_BLOCKS-clause-blocks
returns-then-position-lt-HALF_BLOCKS-clause-blocks g c =
    let gs = c.args.groups.now.items in
    blocks_split gs c.insert.new.self.items c.args.position.group c.index_mut.result.now c.split.new.self c.in_ok-upper.upper c.requires.inside.0
    (c.index_mut.ensures.value ∙ ap (λ hs. get_or hs c.args.position.group c.index_mut.result.now) c.reserve.ensures.items) c.in_ok-upper.ensures.parts
    (c.in_ok-insert.ensures.items ∙ ap (λ hs. insert (set hs c.args.position.group c.split.new.self) (c.args.position.group + 1) c.in_ok-upper.upper) c.reserve.ensures.items)

pub returns-then-position-lt-HALF_BLOCKS-clause-groups : goal.returns-then-position-lt-HALF_BLOCKS-clause-groups
returns-then-position-lt-HALF_BLOCKS-clause-groups g c =
    groups_split c.args.groups.now.items c.insert.new.self.items c.args.position.group c.split.new.self c.in_ok-upper.upper c.requires.groups c.requires.inside.0 c.in_ok-upper.ensures.low c.in_ok-upper.ensures.high
    (c.in_ok-insert.ensures.items ∙ ap (λ hs. insert (set hs c.args.position.group c.split.new.self) (c.args.position.group + 1) c.in_ok-upper.upper) c.reserve.ensures.items)

pub returns-then-position-lt-HALF_BLOCKS-clause-room : goal.returns-then-position-lt-HALF_BLOCKS-clause-room
returns-then-position-lt-HALF_BLOCKS-clause-room g c =
    place_low c.args.groups.now.items c.insert.new.self.items c.args.position.group c.args.position.block c.split.new.self c.in_ok-upper.upper c.requires.inside.0 c.in_ok-upper.ensures.low c.if-position-lt-HALF_BLOCKS.true
    (c.in_ok-insert.ensures.items ∙ ap (λ hs. insert (set hs c.args.position.group c.split.new.self) (c.args.position.group + 1) c.in_ok-upper.upper) c.reserve.ensures.items)

pub returns-clause-blocks : goal.returns-clause-blocks
returns-clause-blocks g c =
    let gs = c.args.groups.now.items in
    blocks_split gs c.insert.new.self.items c.args.position.group c.index_mut.result.now c.split.new.self c.in_ok-upper.upper c.requires.inside.0
    (c.index_mut.ensures.value ∙ ap (λ hs. get_or hs c.args.position.group c.index_mut.result.now) c.reserve.ensures.items) c.in_ok-upper.ensures.parts
    (c.in_ok-insert.ensures.items ∙ ap (λ hs. insert (set hs c.args.position.group c.split.new.self) (c.args.position.group + 1) c.in_ok-upper.upper) c.reserve.ensures.items)

pub returns-clause-groups : goal.returns-clause-groups
returns-clause-groups g c =
    groups_split c.args.groups.now.items c.insert.new.self.items c.args.position.group c.split.new.self c.in_ok-upper.upper c.requires.groups c.requires.inside.0 c.in_ok-upper.ensures.low c.in_ok-upper.ensures.high
    (c.in_ok-insert.ensures.items ∙ ap (λ hs. insert (set hs c.args.position.group c.split.new.self) (c.args.position.group + 1) c.in_ok-upper.upper) c.reserve.ensures.items)

pub returns-clause-room : goal.returns-clause-room
returns-clause-room g c =
    let gs = c.args.groups.now.items in
    let l = c.requires.inside.0 in
    let read = c.index_mut.ensures.value ∙ ap (λ hs. get_or hs c.args.position.group c.index_mut.result.now) c.reserve.ensures.items in
    let one = ap length (get_or_read gs c.args.position.group c.index.result.now l c.index.ensures []) in
    let two = ap length (get_or_read gs c.args.position.group c.index_mut.result.now l read []) in
    let most = (sized_at (least (length gs)) gs c.args.position.group l c.requires.groups).1 in
    place_high gs c.insert.new.self.items c.args.position.group c.args.position.block c.index_mut.result.now c.split.new.self c.in_ok-upper.upper c.requires.inside read (omega arith) c.in_ok-upper.ensures.low c.in_ok-upper.ensures.high c.if-position-lt-HALF_BLOCKS.false
    (c.in_ok-insert.ensures.items ∙ ap (λ hs. insert (set hs c.args.position.group c.split.new.self) (c.args.position.group + 1) c.in_ok-upper.upper) c.reserve.ensures.items)
