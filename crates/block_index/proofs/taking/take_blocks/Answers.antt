-- The keys of the block at hand come first among those of the blocks that are left.
use Rattle.std.proofs.Common.{◌∙◌, ◌≡◌, ◌+◌, ◌++◌, ◌<◌, [], length, drop, suc, ap, sym, add-one, arith}
use Rattle.std.proofs.lemmas.List.{drop_all, get_or_read}
use Rattle.std.proofs.Math.Seq.{drop-cons}
use Rattle.block_index.specs.Blocks.{keys_of}
use Rattle.block_index.proofs.Refused.{leads_end, leads_refused, leads_stop, leads_then}
use Rattle.block_index.proofs.taking.take_blocks.Goals as goal

pub loop-block-init : goal.loop-block-init
loop-block-init g c = λ after new r h. h

pub loop-block-preserved : goal.loop-block-preserved
loop-block-preserved g c =
    let i = c.loop-block.block-index in
    let blocks = c.args.blocks.now in
    let within : i < length blocks = c.loop-block-test.true in
    let is = c.keys.ensures ∙ get_or_read blocks i c.block-item.result within c.block-item.is [] in
    let cut : keys_of (drop i blocks) ≡ c.keys.result.now ++ keys_of (drop (i + 1) blocks) =
    ap keys_of (drop-cons blocks i [] within) ∙ ap (λ b. b ++ keys_of (drop (suc i) blocks)) (sym is) ∙ ap (λ n. c.keys.result.now ++ keys_of (drop n blocks)) (sym (add-one i)) in
    leads_then g.K.Ranked.cmp c.args.to.now (keys_of blocks) (keys_of (drop i blocks)) c.keys.result.now (keys_of (drop (i + 1) blocks)) c.args.taken.now.items c.loop-block.taken.items c.take_keys.new.taken.items
    (g.C.StepCounter.total c.args.steps.now) (g.C.StepCounter.total c.loop-block.steps) (g.C.StepCounter.total c.take_keys.new.steps) c.in-Ok-true.field-0 c.in-Ok-true.field-0-test cut c.in-Ok-true.ensures c.loop-block.invariant

pub returns-in-Ok-false : goal.returns-in-Ok-false
returns-in-Ok-false g c =
    let i = c.loop-block.block-index in
    let blocks = c.args.blocks.now in
    let within : i < length blocks = c.loop-block-test.true in
    let is = c.keys.ensures ∙ get_or_read blocks i c.block-item.result within c.block-item.is [] in
    let cut : keys_of (drop i blocks) ≡ c.keys.result.now ++ keys_of (drop (suc i) blocks) =
    ap keys_of (drop-cons blocks i [] within) ∙ ap (λ b. b ++ keys_of (drop (suc i) blocks)) (sym is) in
    leads_stop g.K.Ranked.cmp c.args.to.now (keys_of blocks) (keys_of (drop i blocks)) c.keys.result.now (keys_of (drop (suc i) blocks)) c.args.taken.now.items c.loop-block.taken.items c.take_keys.new.taken.items
    (g.C.StepCounter.total c.args.steps.now) (g.C.StepCounter.total c.loop-block.steps) (g.C.StepCounter.total c.take_keys.new.steps) c.in-Ok-false.field-0 c.in-Ok-false.field-0-test cut c.in-Ok-false.ensures c.loop-block.invariant

pub returns-in-Err : goal.returns-in-Err
returns-in-Err g c =
    let i = c.loop-block.block-index in
    let blocks = c.args.blocks.now in
    let within : i < length blocks = c.loop-block-test.true in
    let is = c.keys.ensures ∙ get_or_read blocks i c.block-item.result within c.block-item.is [] in
    let cut : keys_of (drop i blocks) ≡ c.keys.result.now ++ keys_of (drop (suc i) blocks) =
    ap keys_of (drop-cons blocks i [] within) ∙ ap (λ b. b ++ keys_of (drop (suc i) blocks)) (sym is) in
    leads_refused g.K.Ranked.cmp c.args.to.now (keys_of blocks) (keys_of (drop i blocks)) c.keys.result.now (keys_of (drop (suc i) blocks)) c.args.taken.now.items c.loop-block.taken.items c.take_keys.new.taken.items
    (g.C.StepCounter.total c.args.steps.now) (g.C.StepCounter.total c.loop-block.steps) (g.C.StepCounter.total c.take_keys.new.steps) c.in-Err.refused cut c.in-Err.ensures c.loop-block.invariant

pub returns : goal.returns
returns g c =
    let ended = c.loop-block-test.false in
    leads_end g.K.Ranked.cmp c.args.to.now (keys_of c.args.blocks.now) (keys_of (drop c.loop-block.block-index c.args.blocks.now)) c.args.taken.now.items c.loop-block.taken.items
    (g.C.StepCounter.total c.args.steps.now) (g.C.StepCounter.total c.loop-block.steps) (ap keys_of (drop_all c.loop-block.block-index c.args.blocks.now (omega arith))) c.loop-block.invariant
