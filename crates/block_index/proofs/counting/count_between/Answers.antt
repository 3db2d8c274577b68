-- The keys of the groups from the first on and before the last, and those before the last position, but for those before the first.
use Rattle.std.proofs.Common.{◌∙◌, ◌<◌, ◌≤◌, [], length, get_or, sym, ap, subst, arith}
use Rattle.std.proofs.lemmas.List.{get_or_read}
use Rattle.block_index.specs.Blocks.{keys_of}
use Rattle.block_index.specs.Search.{keys_before}
use Rattle.block_index.proofs.Grouped.{block_at}
use Rattle.block_index.proofs.Lengths.{between_fit, grouped_fit, grouped_parts, none_between, some_between}
use Rattle.block_index.proofs.counting.count_between.Goals as goal

pub returns-then-high-low : goal.returns-then-high-low
returns-then-high-low g c =
    none_between c.args.groups.now c.args.low.group c.args.low.block c.args.low.at c.args.high.group c.args.high.block c.args.high.at c.requires.low c.requires.high c.if-high-low.true

pub count_grouped-between-requires : goal.count_grouped-between-requires
count_grouped-between-requires g c =
    let gs = c.args.groups.now in
    let parts = grouped_parts gs c.args.low.group c.args.high.group c.if-high-low.false in
    let fits = grouped_fit gs c.args.high.group c.requires.high.0 in
    let all = c.requires.few in
    omega arith

pub count_before-last-requires-clause-few : goal.count_before-last-requires-clause-few
count_before-last-requires-clause-few g c =
    let gs = c.args.groups.now in
    let same = ap (λ bs. length (keys_of bs)) (c.blocks-2.ensures ∙ get_or_read gs c.args.high.group c.index-groups-high.result c.requires.high.0 c.index-groups-high.is []) in
    let fits = grouped_fit gs c.args.high.group c.requires.high.0 in
    let all = c.requires.few in
    omega arith

pub count_before-last-requires-clause-inside : goal.count_before-last-requires-clause-inside
count_before-last-requires-clause-inside g c =
    let is = c.blocks-2.ensures ∙ get_or_read c.args.groups.now c.args.high.group c.index-groups-high.result c.requires.high.0 c.index-groups-high.is [] in
    subst (λ bs. c.args.high.block < length bs) (sym is) c.requires.high.1

pub count_before-last-requires-clause-within : goal.count_before-last-requires-clause-within
count_before-last-requires-clause-within g c =
    let gs = c.args.groups.now in
    let p = c.args.high in
    let is = c.blocks-2.ensures ∙ get_or_read gs p.group c.index-groups-high.result c.requires.high.0 c.index-groups-high.is [] in
    subst (λ bs. p.at ≤ length (get_or bs p.block [])) (sym is)
    (subst (λ b. p.at ≤ length b) (block_at gs p.group p.block c.requires.high.0 c.requires.high.1) c.requires.high_within)

pub count_before-first-requires-clause-few : goal.count_before-first-requires-clause-few
count_before-first-requires-clause-few g c =
    let gs = c.args.groups.now in
    let same = ap (λ bs. length (keys_of bs)) (c.blocks-3.ensures ∙ get_or_read gs c.args.low.group c.index-groups-low.result c.requires.low.0 c.index-groups-low.is []) in
    let fits = grouped_fit gs c.args.low.group c.requires.low.0 in
    let all = c.requires.few in
    omega arith

pub count_before-first-requires-clause-inside : goal.count_before-first-requires-clause-inside
count_before-first-requires-clause-inside g c =
    let is = c.blocks-3.ensures ∙ get_or_read c.args.groups.now c.args.low.group c.index-groups-low.result c.requires.low.0 c.index-groups-low.is [] in
    subst (λ bs. c.args.low.block < length bs) (sym is) c.requires.low.1

pub count_before-first-requires-clause-within : goal.count_before-first-requires-clause-within
count_before-first-requires-clause-within g c =
    let gs = c.args.groups.now in
    let p = c.args.low in
    let is = c.blocks-3.ensures ∙ get_or_read gs p.group c.index-groups-low.result c.requires.low.0 c.index-groups-low.is [] in
    subst (λ bs. p.at ≤ length (get_or bs p.block [])) (sym is)
    (subst (λ b. p.at ≤ length b) (block_at gs p.group p.block c.requires.low.0 c.requires.low.1) c.requires.low_within)

pub overflow_add-between : goal.overflow_add-between
overflow_add-between g c =
    let gs = c.args.groups.now in
    let p = c.args.high in
    let is = c.blocks-2.ensures ∙ get_or_read gs p.group c.index-groups-high.result c.requires.high.0 c.index-groups-high.is [] in
    let fits = between_fit gs c.args.low.group p.group p.block p.at c.count_grouped-between.result c.count_before-last.result c.requires.high c.if-high-low.false c.count_grouped-between.ensures
    (c.count_before-last.ensures ∙ ap (λ bs. length (keys_before bs p.block p.at)) is) in
    let all = c.requires.few in
    omega arith

pub returns : goal.returns
returns g c =
    let gs = c.args.groups.now in
    let low = c.args.low in
    let high = c.args.high in
    let last = c.blocks-2.ensures ∙ get_or_read gs high.group c.index-groups-high.result c.requires.high.0 c.index-groups-high.is [] in
    let first = c.blocks-3.ensures ∙ get_or_read gs low.group c.index-groups-low.result c.requires.low.0 c.index-groups-low.is [] in
    c.saturating_sub.ensures
    ∙ some_between gs low.group low.block low.at high.group high.block high.at c.count_grouped-between.result c.count_before-last.result c.count_before-first.result c.requires.low c.requires.high c.if-high-low.false
    c.count_grouped-between.ensures
    (c.count_before-last.ensures ∙ ap (λ bs. length (keys_before bs high.block high.at)) last)
    (c.count_before-first.ensures ∙ ap (λ bs. length (keys_before bs low.block low.at)) first)
