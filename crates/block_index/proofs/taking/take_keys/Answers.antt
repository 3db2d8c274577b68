-- The key at hand comes first among those that are left.
use Rattle.std.proofs.Common.{◌≡◌, Ordering, is_gt, true, false, ◌∙◌, ◌+◌, ◌<◌, [], ◌∷◌, ◌++◌, suc, length, drop, refl, sym, ap, add-one, arith}
use Rattle.std.specs.declared.cmp.Ordering.TheVariants.{Less, Equal, Greater}
use Rattle.std.specs.Ordering.{is_le}
use Rattle.std.proofs.lemmas.List.{drop_all}
use Rattle.std.proofs.Math.Seq.{drop-cons}
use Rattle.base.specs.declared.memory.OutOfMemory.{OutOfMemory}
use Rattle.block_index.proofs.Refused.{leads_end, leads_refused, leads_stop, leads_then, took_end, took_key, took_nothing}
use Rattle.block_index.proofs.taking.take_keys.Goals as goal

above : (o : Ordering) → is_gt o ≡ true → is_le o ≡ false
above Less is = sym is
above Equal is = sym is
above Greater is = refl

not_above : (o : Ordering) → is_gt o ≡ false → is_le o ≡ true
not_above Less is = refl
not_above Equal is = refl
not_above Greater is = sym is

pub loop-key-init : goal.loop-key-init
loop-key-init g c = λ after new r h. h

pub loop-key-preserved : goal.loop-key-preserved
loop-key-preserved g c =
    let i = c.loop-key.key-index in
    let keys = c.args.keys.now in
    let x = c.key-item.result in
    let within : i < length keys = c.loop-key-test.true in
    let cut : drop i keys ≡ (x ∷ []) ++ drop (i + 1) keys = drop-cons keys i x within ∙ ap (λ y. y ∷ drop (suc i) keys) (sym c.key-item.is) ∙ ap (λ n. x ∷ drop n keys) (sym (add-one i)) in
    let low = not_above (g.K.Ranked.cmp x c.args.to.now) (sym (c.is_gt.ensures ∙ ap is_gt c.rank.ensures.value) ∙ c.if-is_gt.false) in
    leads_then g.K.Ranked.cmp c.args.to.now keys (drop i keys) (x ∷ []) (drop (i + 1) keys) c.args.taken.now.items c.loop-key.taken.items c.push.new.self.items
    (g.C.StepCounter.total c.args.steps.now) (g.C.StepCounter.total c.loop-key.steps) (g.C.StepCounter.total c.rank.new.steps) true refl cut
    (took_key g.K.Ranked.cmp c.args.to.now x c.loop-key.taken.items c.push.new.self.items (g.C.StepCounter.total c.loop-key.steps) (g.C.StepCounter.total c.rank.new.steps) low c.in-Ok.ensures.items c.rank.ensures.forward c.rank.ensures.step) c.loop-key.invariant

pub returns-then-is_gt : goal.returns-then-is_gt
returns-then-is_gt g c =
    let i = c.loop-key.key-index in
    let keys = c.args.keys.now in
    let x = c.key-item.result in
    let within : i < length keys = c.loop-key-test.true in
    let cut : drop i keys ≡ (x ∷ []) ++ drop (suc i) keys = drop-cons keys i x within ∙ ap (λ y. y ∷ drop (suc i) keys) (sym c.key-item.is) in
    let high = above (g.K.Ranked.cmp x c.args.to.now) (sym (c.is_gt.ensures ∙ ap is_gt c.rank.ensures.value) ∙ c.if-is_gt.true) in
    leads_stop g.K.Ranked.cmp c.args.to.now keys (drop i keys) (x ∷ []) (drop (suc i) keys) c.args.taken.now.items c.loop-key.taken.items c.loop-key.taken.items
    (g.C.StepCounter.total c.args.steps.now) (g.C.StepCounter.total c.loop-key.steps) (g.C.StepCounter.total c.rank.new.steps) false refl cut
    (took_end g.K.Ranked.cmp c.args.to.now x c.loop-key.taken.items (g.C.StepCounter.total c.loop-key.steps) (g.C.StepCounter.total c.rank.new.steps) high c.rank.ensures.forward c.rank.ensures.step) c.loop-key.invariant

pub returns-in_default : goal.returns-in_default
returns-in_default g c =
    let i = c.loop-key.key-index in
    let keys = c.args.keys.now in
    let x = c.key-item.result in
    let within : i < length keys = c.loop-key-test.true in
    let cut : drop i keys ≡ (x ∷ []) ++ drop (suc i) keys = drop-cons keys i x within ∙ ap (λ y. y ∷ drop (suc i) keys) (sym c.key-item.is) in
    let low = not_above (g.K.Ranked.cmp x c.args.to.now) (sym (c.is_gt.ensures ∙ ap is_gt c.rank.ensures.value) ∙ c.if-is_gt.false) in
    leads_refused g.K.Ranked.cmp c.args.to.now keys (drop i keys) (x ∷ []) (drop (suc i) keys) c.args.taken.now.items c.loop-key.taken.items c.push.new.self.items
    (g.C.StepCounter.total c.args.steps.now) (g.C.StepCounter.total c.loop-key.steps) (g.C.StepCounter.total c.rank.new.steps) _ cut
    (took_nothing g.K.Ranked.cmp c.args.to.now x c.loop-key.taken.items c.push.new.self.items (g.C.StepCounter.total c.loop-key.steps) (g.C.StepCounter.total c.rank.new.steps) _ low c.rank.ensures.forward c.rank.ensures.step) c.loop-key.invariant

pub returns : goal.returns
returns g c =
    let ended = c.loop-key-test.false in
    leads_end g.K.Ranked.cmp c.args.to.now c.args.keys.now (drop c.loop-key.key-index c.args.keys.now) c.args.taken.now.items c.loop-key.taken.items
    (g.C.StepCounter.total c.args.steps.now) (g.C.StepCounter.total c.loop-key.steps) (drop_all c.loop-key.key-index c.args.keys.now (omega arith)) c.loop-key.invariant
