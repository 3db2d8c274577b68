-- What is left of a block, and the blocks after it.
use Rattle.std.proofs.Common.{◌∙◌, ◌≡◌, ◌++◌, false, suc, ◌+◌, [], get_or, drop, ap, subst, add-one, Ok, Err}
use Rattle.std.proofs.lemmas.List.{get_or_read, take_rest}
use Rattle.block_index.specs.Blocks.{keys_of}
use Rattle.block_index.specs.Taking.{Took}
use Rattle.block_index.proofs.Refused.{took_refused, took_stop, took_then}
use Rattle.block_index.proofs.taking.take_within.Goals as goal

pub returns-in-Ok-true : goal.returns-in-Ok-true
returns-in-Ok-true g c =
    let blocks = c.args.blocks.now in
    let b = c.args.position.block in
    let at = c.args.position.at in
    let is = take_rest c.keys-first.result.now at ∙ ap (drop at) (c.keys-first.ensures ∙ get_or_read blocks b c.index-blocks-position.result c.requires.inside c.index-blocks-position.is []) in
    let others = ap keys_of (take_rest blocks (b + 1) ∙ ap (λ j. drop j blocks) (add-one b)) in
    let before = c.args.taken.now.items in
    let some = c.take_keys.new.taken.items in
    let after = c.take_blocks.new.taken.items in
    let old = g.C.StepCounter.total c.args.steps.now in
    let now = g.C.StepCounter.total c.take_keys.new.steps in
    let new = g.C.StepCounter.total c.take_blocks.new.steps in
    took_then g.K.Ranked.cmp c.args.to.now (drop at (get_or blocks b [])) (keys_of (drop (suc b) blocks)) before some after old now new c.take_blocks.result c.in-Ok-true.field-0 c.in-Ok-true.field-0-test
    (subst (λ l. Took g.K.Ranked.cmp c.args.to.now l before some old now (Ok c.in-Ok-true.field-0)) is c.in-Ok-true.ensures)
    (subst (λ l. Took g.K.Ranked.cmp c.args.to.now l some after now new c.take_blocks.result) others c.take_blocks.ensures)

pub returns-in-Ok-false : goal.returns-in-Ok-false
returns-in-Ok-false g c =
    let blocks = c.args.blocks.now in
    let b = c.args.position.block in
    let at = c.args.position.at in
    let is = take_rest c.keys-first.result.now at ∙ ap (drop at) (c.keys-first.ensures ∙ get_or_read blocks b c.index-blocks-position.result c.requires.inside c.index-blocks-position.is []) in
    let before = c.args.taken.now.items in
    let some = c.take_keys.new.taken.items in
    let old = g.C.StepCounter.total c.args.steps.now in
    let now = g.C.StepCounter.total c.take_keys.new.steps in
    took_stop g.K.Ranked.cmp c.args.to.now (drop at (get_or blocks b [])) (keys_of (drop (suc b) blocks)) before some old now c.in-Ok-false.field-0 c.in-Ok-false.field-0-test
    (subst (λ l. Took g.K.Ranked.cmp c.args.to.now l before some old now (Ok c.in-Ok-false.field-0)) is c.in-Ok-false.ensures)

pub returns-in-Err : goal.returns-in-Err
returns-in-Err g c =
    let blocks = c.args.blocks.now in
    let b = c.args.position.block in
    let at = c.args.position.at in
    let is = take_rest c.keys-first.result.now at ∙ ap (drop at) (c.keys-first.ensures ∙ get_or_read blocks b c.index-blocks-position.result c.requires.inside c.index-blocks-position.is []) in
    let before = c.args.taken.now.items in
    let some = c.take_keys.new.taken.items in
    let old = g.C.StepCounter.total c.args.steps.now in
    let now = g.C.StepCounter.total c.take_keys.new.steps in
    took_refused g.K.Ranked.cmp c.args.to.now (drop at (get_or blocks b [])) (keys_of (drop (suc b) blocks)) before some old now c.in-Err.refused
    (subst (λ l. Took g.K.Ranked.cmp c.args.to.now l before some old now (Err c.in-Err.refused)) is c.in-Err.ensures)
