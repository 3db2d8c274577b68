-- The groups that are left.
use Rattle.std.proofs.Common.{◌∙◌, ◌≡◌, ◌+◌, ◌++◌, ◌<◌, [], length, map, drop, suc, ap, sym, add-one, arith}
use Rattle.std.proofs.lemmas.List.{drop_all, get_or_read}
use Rattle.std.proofs.Math.Seq.{drop-cons}
use Rattle.block_index.specs.Blocks.{keys_of}
use Rattle.block_index.proofs.Refused.{leads_end, leads_refused, leads_stop, leads_then}
use Rattle.block_index.proofs.taking.take_groups.Goals as goal

pub loop-group-init : goal.loop-group-init
loop-group-init g c = λ after new r h. h

pub loop-group-preserved : goal.loop-group-preserved
loop-group-preserved g c =
    let i = c.loop-group.group-index in
    let gs = c.args.groups.now in
    let within : i < length gs = c.loop-group-test.true in
    let is = ap keys_of (c.blocks-in-loop-group.ensures ∙ get_or_read gs i c.group-item.result within c.group-item.is []) in
    let here = keys_of c.blocks-in-loop-group.result.now in
    let cut : keys_of (map keys_of (drop i gs)) ≡ here ++ keys_of (map keys_of (drop (i + 1) gs)) =
    ap (λ hs. keys_of (map keys_of hs)) (drop-cons gs i [] within) ∙ ap (λ b. b ++ keys_of (map keys_of (drop (suc i) gs))) (sym is) ∙ ap (λ n. here ++ keys_of (map keys_of (drop n gs))) (sym (add-one i)) in
    leads_then g.K.Ranked.cmp c.args.to.now (keys_of (map keys_of gs)) (keys_of (map keys_of (drop i gs))) here (keys_of (map keys_of (drop (i + 1) gs))) c.args.taken.now.items c.loop-group.taken.items c.take_blocks.new.taken.items
    (g.C.StepCounter.total c.args.steps.now) (g.C.StepCounter.total c.loop-group.steps) (g.C.StepCounter.total c.take_blocks.new.steps) c.in-Ok-true.field-0 c.in-Ok-true.field-0-test cut c.in-Ok-true.ensures c.loop-group.invariant

pub returns-in-Ok-false : goal.returns-in-Ok-false
returns-in-Ok-false g c =
    let i = c.loop-group.group-index in
    let gs = c.args.groups.now in
    let within : i < length gs = c.loop-group-test.true in
    let is = ap keys_of (c.blocks-in-loop-group.ensures ∙ get_or_read gs i c.group-item.result within c.group-item.is []) in
    let here = keys_of c.blocks-in-loop-group.result.now in
    let cut : keys_of (map keys_of (drop i gs)) ≡ here ++ keys_of (map keys_of (drop (suc i) gs)) =
    ap (λ hs. keys_of (map keys_of hs)) (drop-cons gs i [] within) ∙ ap (λ b. b ++ keys_of (map keys_of (drop (suc i) gs))) (sym is) in
    leads_stop g.K.Ranked.cmp c.args.to.now (keys_of (map keys_of gs)) (keys_of (map keys_of (drop i gs))) here (keys_of (map keys_of (drop (suc i) gs))) c.args.taken.now.items c.loop-group.taken.items c.take_blocks.new.taken.items
    (g.C.StepCounter.total c.args.steps.now) (g.C.StepCounter.total c.loop-group.steps) (g.C.StepCounter.total c.take_blocks.new.steps) c.in-Ok-false.field-0 c.in-Ok-false.field-0-test cut c.in-Ok-false.ensures c.loop-group.invariant

pub returns-in-Err : goal.returns-in-Err
returns-in-Err g c =
    let i = c.loop-group.group-index in
    let gs = c.args.groups.now in
    let within : i < length gs = c.loop-group-test.true in
    let is = ap keys_of (c.blocks-in-loop-group.ensures ∙ get_or_read gs i c.group-item.result within c.group-item.is []) in
    let here = keys_of c.blocks-in-loop-group.result.now in
    let cut : keys_of (map keys_of (drop i gs)) ≡ here ++ keys_of (map keys_of (drop (suc i) gs)) =
    ap (λ hs. keys_of (map keys_of hs)) (drop-cons gs i [] within) ∙ ap (λ b. b ++ keys_of (map keys_of (drop (suc i) gs))) (sym is) in
    leads_refused g.K.Ranked.cmp c.args.to.now (keys_of (map keys_of gs)) (keys_of (map keys_of (drop i gs))) here (keys_of (map keys_of (drop (suc i) gs))) c.args.taken.now.items c.loop-group.taken.items c.take_blocks.new.taken.items
    (g.C.StepCounter.total c.args.steps.now) (g.C.StepCounter.total c.loop-group.steps) (g.C.StepCounter.total c.take_blocks.new.steps) c.in-Err.refused cut c.in-Err.ensures c.loop-group.invariant

pub returns : goal.returns
returns g c =
    let ended = c.loop-group-test.false in
    leads_end g.K.Ranked.cmp c.args.to.now (keys_of (map keys_of c.args.groups.now)) (keys_of (map keys_of (drop c.loop-group.group-index c.args.groups.now))) c.args.taken.now.items c.loop-group.taken.items
    (g.C.StepCounter.total c.args.steps.now) (g.C.StepCounter.total c.loop-group.steps) (ap (λ hs. keys_of (map keys_of hs)) (drop_all c.loop-group.group-index c.args.groups.now (omega arith))) c.loop-group.invariant
