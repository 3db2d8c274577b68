-- The patch is the record's effect.
use Rattle.std.proofs.Common.{sym, subst}
use Rattle.triple_patch.specs.declared.changes.Patch.{Patch}
use Rattle.triple_store.specs.Updates.{IsPatched, MayCome, MayGo}
use Rattle.replica.proofs.Applied.{full_after, keys_after, may_come, may_go, once_after, within_after}
use Rattle.replica.proofs.applying.apply_effect.Goals as goal

pub apply-requires-clause-may_come : goal.apply-requires-clause-may_come
apply-requires-clause-may_come c =
    subst (λ (p : Patch). MayCome c.args.store.now p.adds) (sym c.in-Ok.ensures) (may_come c.args.store.now c.args.item.now c.requires.once c.requires.sound)

pub apply-requires-clause-may_go : goal.apply-requires-clause-may_go
apply-requires-clause-may_go c =
    subst (λ (p : Patch). MayGo c.args.store.now p.removes) (sym c.in-Ok.ensures) (may_go c.args.store.now c.args.item.now c.requires.once)

pub returns-clause-once : goal.returns-clause-once
returns-clause-once c =
    let patched = subst (λ (p : Patch). IsPatched c.args.store.now c.apply.new.self p.removes p.adds c.apply.result) c.in-Ok.ensures c.apply.ensures.patched in
    once_after c.args.store.now c.apply.new.self c.args.item.now c.requires.once c.requires.sound c.apply.ensures.rest c.apply.result patched

pub returns-clause-ok : goal.returns-clause-ok
returns-clause-ok c =
    let patched = subst (λ (p : Patch). IsPatched c.args.store.now c.apply.new.self p.removes p.adds c.apply.result) c.in-Ok.ensures c.apply.ensures.patched in
    keys_after c.args.store.now c.apply.new.self c.args.item.now c.requires.once c.requires.sound c.apply.ensures.rest c.apply.result patched

pub returns-clause-full : goal.returns-clause-full
returns-clause-full c =
    let patched = subst (λ (p : Patch). IsPatched c.args.store.now c.apply.new.self p.removes p.adds c.apply.result) c.in-Ok.ensures c.apply.ensures.patched in
    full_after c.args.store.now c.apply.new.self c.args.item.now c.requires.once c.requires.sound c.apply.ensures.rest c.apply.result patched

pub returns-clause-within : goal.returns-clause-within
returns-clause-within c =
    let patched = subst (λ (p : Patch). IsPatched c.args.store.now c.apply.new.self p.removes p.adds c.apply.result) c.in-Ok.ensures c.apply.ensures.patched in
    within_after c.args.store.now c.apply.new.self c.args.item.now c.requires.once c.requires.sound c.apply.ensures.rest c.apply.result patched
