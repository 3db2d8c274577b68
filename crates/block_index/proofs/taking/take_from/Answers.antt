-- What is left of a group, and the groups after it.
use Rattle.std.proofs.Common.{◌∙◌, ◌≡◌, false, Ok, Err, suc, ◌+◌, ◌<◌, ◌≤◌, [], length, map, get_or, drop, sym, ap, subst, add-one}
use Rattle.std.proofs.lemmas.List.{get_or_read, take_rest}
use Rattle.block_index.specs.Blocks.{keys_of}
use Rattle.block_index.specs.Search.{keys_from}
use Rattle.block_index.specs.Taking.{Took}
use Rattle.block_index.proofs.Grouped.{block_at}
use Rattle.block_index.proofs.Located.{from_is, keys_mapped}
use Rattle.block_index.proofs.Refused.{took_refused, took_stop, took_then}
use Rattle.block_index.proofs.taking.take_from.Goals as goal

pub take_within-requires-clause-inside : goal.take_within-requires-clause-inside
take_within-requires-clause-inside g c =
    let is = c.blocks-blocks.ensures ∙ get_or_read c.args.groups.now c.args.position.group c.index-groups-position.result c.requires.inside.0 c.index-groups-position.is [] in
    subst (λ bs. c.args.position.block < length bs) (sym is) c.requires.inside.1

pub take_within-requires-clause-within : goal.take_within-requires-clause-within
take_within-requires-clause-within g c =
    let is = c.blocks-blocks.ensures ∙ get_or_read c.args.groups.now c.args.position.group c.index-groups-position.result c.requires.inside.0 c.index-groups-position.is [] in
    subst (λ bs. c.args.position.at ≤ length (get_or bs c.args.position.block [])) (sym is)
    (subst (λ b. c.args.position.at ≤ length b) (block_at c.args.groups.now c.args.position.group c.args.position.block c.requires.inside.0 c.requires.inside.1) c.requires.within)

pub returns-in-Ok-true : goal.returns-in-Ok-true
returns-in-Ok-true g c =
    let gs = c.args.groups.now in
    let p = c.args.position in
    let R = g.K.Ranked.cmp in
    let to = c.args.to.now in
    let is = ap (λ bs. keys_from bs p.block p.at) (c.blocks-blocks.ensures ∙ get_or_read gs p.group c.index-groups-position.result c.requires.inside.0 c.index-groups-position.is []) in
    let rest = ap (λ hs. keys_of (map keys_of hs)) (take_rest gs (p.group + 1) ∙ ap (λ j. drop j gs) (add-one p.group)) ∙ keys_mapped (drop (suc p.group) gs) in
    let before = c.args.taken.now.items in
    let some = c.take_within.new.taken.items in
    let after = c.take_groups.new.taken.items in
    let old = g.C.StepCounter.total c.args.steps.now in
    let now = g.C.StepCounter.total c.take_within.new.steps in
    let new = g.C.StepCounter.total c.take_groups.new.steps in
    subst (λ l. Took R to l before after old new c.take_groups.result) (sym (from_is gs p.group p.block p.at c.requires.inside.0 c.requires.inside.1))
    (took_then R to (keys_from (get_or gs p.group []) p.block p.at) (keys_of (keys_of (drop (suc p.group) gs))) before some after old now new c.take_groups.result c.in-Ok-true.field-0 c.in-Ok-true.field-0-test
    (subst (λ l. Took R to l before some old now (Ok c.in-Ok-true.field-0)) is c.in-Ok-true.ensures)
    (subst (λ l. Took R to l some after now new c.take_groups.result) rest c.take_groups.ensures))

pub returns-in-Ok-false : goal.returns-in-Ok-false
returns-in-Ok-false g c =
    let gs = c.args.groups.now in
    let p = c.args.position in
    let R = g.K.Ranked.cmp in
    let to = c.args.to.now in
    let is = ap (λ bs. keys_from bs p.block p.at) (c.blocks-blocks.ensures ∙ get_or_read gs p.group c.index-groups-position.result c.requires.inside.0 c.index-groups-position.is []) in
    let before = c.args.taken.now.items in
    let some = c.take_within.new.taken.items in
    let old = g.C.StepCounter.total c.args.steps.now in
    let now = g.C.StepCounter.total c.take_within.new.steps in
    subst (λ l. Took R to l before some old now (Ok false)) (sym (from_is gs p.group p.block p.at c.requires.inside.0 c.requires.inside.1))
    (took_stop R to (keys_from (get_or gs p.group []) p.block p.at) (keys_of (keys_of (drop (suc p.group) gs))) before some old now c.in-Ok-false.field-0 c.in-Ok-false.field-0-test
    (subst (λ l. Took R to l before some old now (Ok c.in-Ok-false.field-0)) is c.in-Ok-false.ensures))

pub returns-in-Err : goal.returns-in-Err
returns-in-Err g c =
    let gs = c.args.groups.now in
    let p = c.args.position in
    let R = g.K.Ranked.cmp in
    let to = c.args.to.now in
    let is = ap (λ bs. keys_from bs p.block p.at) (c.blocks-blocks.ensures ∙ get_or_read gs p.group c.index-groups-position.result c.requires.inside.0 c.index-groups-position.is []) in
    let before = c.args.taken.now.items in
    let some = c.take_within.new.taken.items in
    let old = g.C.StepCounter.total c.args.steps.now in
    let now = g.C.StepCounter.total c.take_within.new.steps in
    subst (λ l. Took R to l before some old now (Err c.in-Err.refused)) (sym (from_is gs p.group p.block p.at c.requires.inside.0 c.requires.inside.1))
    (took_refused R to (keys_from (get_or gs p.group []) p.block p.at) (keys_of (keys_of (drop (suc p.group) gs))) before some old now c.in-Err.refused
    (subst (λ l. Took R to l before some old now (Err c.in-Err.refused)) is c.in-Err.ensures))
