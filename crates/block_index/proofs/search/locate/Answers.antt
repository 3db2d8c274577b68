-- The groups' search says in which group to look, and that its place is the key's among all blocks.
use Rattle.std.proofs.Common.{◌∙◌, ◌-◌, ◌<◌, [], length, ap, sym, subst, arith}
use Rattle.std.proofs.lemmas.List.{get_or_read}
use Rattle.block_index.specs.Blocks.{AreFilled, keys_of}
use Rattle.block_index.proofs.Costs.{one, by_groups}
use Rattle.block_index.proofs.Grouped.{groups_filled, filled_group, several_sized}
use Rattle.block_index.proofs.Located.{above_first_key, at_group, before_groups, group_rising, group_within, half_full, in_group, long_map}
use Rattle.block_index.proofs.Parts.{blocks_few, filled_at}
use Rattle.block_index.proofs.search.locate.Goals as goal

pub search_groups-requires-clause-some : goal.search_groups-requires-clause-some
search_groups-requires-clause-some g c = groups_filled c.args.groups.now c.requires.groups

pub returns-in-Ok-clause-stands : goal.returns-in-Ok-clause-stands
returns-in-Ok-clause-stands g c =
    let ends = c.in-Ok.ensures.ends in
    at_group g.met.K.Ranked.total c.args.key.now c.args.groups.now c.in-Ok.group (groups_filled c.args.groups.now c.requires.groups) c.requires.filled c.requires.rising ends.0 ends.1

pub returns-in-Ok-clause-inside : goal.returns-in-Ok-clause-inside
returns-in-Ok-clause-inside g c =
    let ends = c.in-Ok.ensures.ends.0 in
    let l : c.in-Ok.group < length c.args.groups.now = omega (arith, long_map c.args.groups.now) in
    λ some. (l, (filled_at c.args.groups.now c.in-Ok.group l (groups_filled c.args.groups.now c.requires.groups)).0)

pub returns-in-Ok-clause-cost : goal.returns-in-Ok-clause-cost
returns-in-Ok-clause-cost g c =
    let gs = c.args.groups.now in
    let few = blocks_few gs (groups_filled gs c.requires.groups) in
    let fewer = blocks_few (keys_of gs) c.requires.filled in
    one (length gs) (length (keys_of (keys_of gs))) _ _ (omega arith) c.in-Ok.ensures.cost

pub returns-then-next-eq0-clause-stands : goal.returns-then-next-eq0-clause-stands
returns-then-next-eq0-clause-stands g c =
    before_groups g.met.K.Ranked.total c.args.key.now c.args.groups.now c.in-Err.next (groups_filled c.args.groups.now c.requires.groups) c.requires.filled c.requires.rising c.if-next-eq0.true c.in-Err.ensures.ends.3

pub returns-then-next-eq0-clause-cost : goal.returns-then-next-eq0-clause-cost
returns-then-next-eq0-clause-cost g c =
    let gs = c.args.groups.now in
    let few = blocks_few gs (groups_filled gs c.requires.groups) in
    let fewer = blocks_few (keys_of gs) c.requires.filled in
    one (length gs) (length (keys_of (keys_of gs))) _ _ (omega arith) c.in-Err.ensures.cost

pub locate_in-block-requires-clause-some : goal.locate_in-block-requires-clause-some
locate_in-block-requires-clause-some g c =
    let few = c.in-Err.ensures.ends.1 in
    let l : c.in-Err.next - 1 < length c.args.groups.now = omega (arith, long_map c.args.groups.now) in
    let is = c.blocks-2.ensures ∙ get_or_read c.args.groups.now (c.in-Err.next - 1) c.index-groups-group.result l c.index-groups-group.is [] in
    subst (λ bs. 0 < length bs) (sym is) (filled_at c.args.groups.now (c.in-Err.next - 1) l (groups_filled c.args.groups.now c.requires.groups)).0

pub locate_in-block-requires-clause-filled : goal.locate_in-block-requires-clause-filled
locate_in-block-requires-clause-filled g c =
    let few = c.in-Err.ensures.ends.1 in
    let l : c.in-Err.next - 1 < length c.args.groups.now = omega (arith, long_map c.args.groups.now) in
    let is = c.blocks-2.ensures ∙ get_or_read c.args.groups.now (c.in-Err.next - 1) c.index-groups-group.result l c.index-groups-group.is [] in
    subst AreFilled (sym is) (filled_group c.args.groups.now (c.in-Err.next - 1) c.requires.filled)

pub locate_in-block-requires-clause-rising : goal.locate_in-block-requires-clause-rising
locate_in-block-requires-clause-rising g c =
    let few = c.in-Err.ensures.ends.1 in
    let l : c.in-Err.next - 1 < length c.args.groups.now = omega (arith, long_map c.args.groups.now) in
    let is = c.blocks-2.ensures ∙ get_or_read c.args.groups.now (c.in-Err.next - 1) c.index-groups-group.result l c.index-groups-group.is [] in
    group_rising g.met.K.Ranked.total c.args.key.now c.args.groups.now (c.in-Err.next - 1) c.blocks-2.result.now l is c.requires.rising

pub locate_in-block-requires-clause-above : goal.locate_in-block-requires-clause-above
locate_in-block-requires-clause-above g c =
    let few = c.in-Err.ensures.ends.1 in
    let l : c.in-Err.next - 1 < length c.args.groups.now = omega (arith, long_map c.args.groups.now) in
    let is = c.blocks-2.ensures ∙ get_or_read c.args.groups.now (c.in-Err.next - 1) c.index-groups-group.result l c.index-groups-group.is [] in
    above_first_key g.K.Ranked.cmp c.args.key.now c.args.groups.now (c.in-Err.next - 1) c.in-Err.next c.blocks-2.result.now l (omega arith) (groups_filled c.args.groups.now c.requires.groups) c.requires.filled is c.in-Err.ensures.ends.2

pub returns-clause-stands : goal.returns-clause-stands
returns-clause-stands g c =
    let few = c.in-Err.ensures.ends.1 in
    let l : c.in-Err.next - 1 < length c.args.groups.now = omega (arith, long_map c.args.groups.now) in
    let is = c.blocks-2.ensures ∙ get_or_read c.args.groups.now (c.in-Err.next - 1) c.index-groups-group.result l c.index-groups-group.is [] in
    let some = groups_filled c.args.groups.now c.requires.groups in
    in_group g.met.K.Ranked.total c.args.key.now c.args.groups.now (c.in-Err.next - 1) c.locate_in-block.result.block c.locate_in-block.result.at c.in-Err.next c.locate_in-block.result.found c.blocks-2.result.now some c.requires.filled c.requires.rising l (omega arith) is
    (above_first_key g.K.Ranked.cmp c.args.key.now c.args.groups.now (c.in-Err.next - 1) c.in-Err.next c.blocks-2.result.now l (omega arith) some c.requires.filled is c.in-Err.ensures.ends.2)
    c.in-Err.ensures.ends.3 c.locate_in-block.ensures.stands

pub returns-clause-inside : goal.returns-clause-inside
returns-clause-inside g c =
    let few = c.in-Err.ensures.ends.1 in
    let l : c.in-Err.next - 1 < length c.args.groups.now = omega (arith, long_map c.args.groups.now) in
    let is = c.blocks-2.ensures ∙ get_or_read c.args.groups.now (c.in-Err.next - 1) c.index-groups-group.result l c.index-groups-group.is [] in
    let some = (filled_at c.args.groups.now (c.in-Err.next - 1) l (groups_filled c.args.groups.now c.requires.groups)).0 in
    λ _. (l, subst (λ bs. c.locate_in-block.result.block < length bs) is (c.locate_in-block.ensures.stands.inside (subst (λ bs. 0 < length bs) (sym is) some)))

pub returns-clause-cost : goal.returns-clause-cost
returns-clause-cost g c =
    let gs = c.args.groups.now in
    let next = c.in-Err.ensures.ends.1 in
    let l : c.in-Err.next - 1 < length gs = omega (arith, long_map gs) in
    let same = ap length (c.blocks-2.ensures ∙ get_or_read gs (c.in-Err.next - 1) c.index-groups-group.result l c.index-groups-group.is []) in
    let some = groups_filled gs c.requires.groups in
    let most = (filled_at gs (c.in-Err.next - 1) l some).1 in
    let fewer = blocks_few (keys_of gs) c.requires.filled in
    let few = group_within gs (c.in-Err.next - 1) l in
    by_groups (length gs) (length c.blocks-2.result.now) (length (keys_of (keys_of gs))) _ _ _
    (λ several. let half = half_full gs (several_sized gs several c.requires.groups) in omega arith)
    (omega arith) (omega arith) c.in-Err.ensures.cost c.locate_in-block.ensures.cost
