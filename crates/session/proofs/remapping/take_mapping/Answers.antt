-- No page yet, one more, and all of them.
use Rattle.std.proofs.Common.{◌≡◌, ◌<◌, length, refl, sym, subst, ap, ◌∙◌, arith, Err}
use Rattle.std.proofs.lemmas.Result.{err_from_is_err_and}
use Rattle.splitting.specs.Graphs.{MayFollow}
use Rattle.splitting.proofs.{Following.may_be_fit, Fresh.follow_same, Roomed.may_have_room_anew}
use Rattle.holders.specs.Holding.{AreHolders}
use Rattle.world.specs.WorldState.{WorldState, stale}
use Rattle.term_pool.specs.declared.fault.PoolFault.TheVariants.{Full, OutOfMemory}
use Rattle.run_model.proofs.Pages.{told_all, told_before, told_but_last, told_next, told_none}
use Rattle.run_model.proofs.Reports.{never_unprinted, still_silent}
use Rattle.run_model.proofs.Versions.{Remaps, remaps_all, remaps_all_roomed, remaps_full, remaps_next, remaps_none}
use Rattle.session.proofs.remapping.take_mapping.Goals as goal

pub loop-replay-init : goal.loop-replay-init
loop-replay-init g c = rw (← c.replay.view_is) (record {
  told = told_none _ _ _ _ _ _ c.set_mapping.ensures.set (remaps_none _ _ _ c.set_mapping.ensures.set c.set_mapping.ensures.holders);
  written = record { faults = omega arith; most = refl };
  kept = (
    follow_same c.replay.inside.graphs c.replay.inside.world c.set_mapping.new.self (ap (λ (w : WorldState). w.replay.played.records) c.set_mapping.ensures.set) (ap (λ (w : WorldState). w.by_two) c.set_mapping.ensures.set)
        (ap (λ (w : WorldState). w.limit) c.set_mapping.ensures.set) c.replay.invariant.0,
    c.replay.invariant.1,
  );
  same = record { limit = ap (λ (w : WorldState). w.limit) c.set_mapping.ensures.set; routes = refl; earlier = refl };
  silent = λ answers. refl;
})

pub loop-replay-preserved : goal.loop-replay-preserved
loop-replay-preserved g c =
    let b = c.loop-replay.invariant in
    let call = c.in-Ok-Some.ensures in
    let some : 0 < length (stale c.loop-replay.replay-inside.world) = omega (arith, c.stale.ensures.count, c.loop-replay-test.true) in
    let remaps : Remaps c.args.version c.args.replay.now.world c.remap_next_with.new.self = remaps_next _ _ c.loop-replay.replay-inside.world c.remap_next_with.new.self b.told.remaps call.ok c.remap_next_with.ensures.holders call.within in
    let changed = rw (c.telling.ensures, c.in-Ok-Some.field-0-is) at call.change in
    let told = c.in-Ok.ensures.tells _ _ changed in
    record {
      told = told_next _ _ _ _ _ c.loop-replay.replay-inside.world c.remap_next_with.new.self _ _ _ b.told call.ok some c.in-Ok.now remaps told;
      written = record { faults = omega (arith, b.written.faults, c.in-Ok.ensures.written.faults); most = c.in-Ok.ensures.written.most ∙ b.written.most };
      kept = (
        subst (MayFollow c.follow_remapping-followed.new.graphs) (sym call.ok)
            (c.follow_remapping-followed.ensures.follow c.loop-replay.replay-inside.world (sym (rw c.in-Ok-Some.field-0-is at call.entity)) (rw c.in-Ok-Some.field-0-is at call.triples)
            (subst (λ (w : WorldState). AreHolders w.by_two w.replay.played.records) call.ok c.remap_next_with.ensures.holders) b.kept.0),
        b.kept.1,
      );
      same = record { limit = remaps.limit; routes = c.follow_remapping-followed.ensures.routes ∙ b.same.routes; earlier = b.same.earlier };
      silent = λ answers. still_silent _ _ _ _ _ _ answers told ∙ b.silent answers;
    }

pub follow_remapping-followed-requires-clause-fit : goal.follow_remapping-followed-requires-clause-fit
follow_remapping-followed-requires-clause-fit g c =
    may_be_fit c.loop-replay.replay-inside.graphs c.loop-replay.replay-inside.world _ _ _ _ c.loop-replay.invariant.kept.0 (rw c.in-Ok-Some.field-0-is at c.in-Ok-Some.ensures.triples)

pub follow_remapping-followed-requires-clause-room : goal.follow_remapping-followed-requires-clause-room
follow_remapping-followed-requires-clause-room g c =
    let call = c.in-Ok-Some.ensures in
    may_have_room_anew c.loop-replay.replay-inside.graphs c.loop-replay.replay-inside.world _ _ c.loop-replay.invariant.kept.0 (sym (rw c.in-Ok-Some.field-0-is at call.entity)) (rw c.in-Ok-Some.field-0-is at call.triples) call.within

pub loop-replay-smaller : goal.loop-replay-smaller
loop-replay-smaller g c =
    let fewer = rw c.in-Ok-Some.field-0-is at c.in-Ok-Some.ensures.fewer in
    omega (arith, fewer)

-- ---- a page that isn't told wholly

pub returns-in-Err-clause-state : goal.returns-in-Err-clause-state
returns-in-Err-clause-state g c =
    let call = c.in-Ok-Some.ensures in
    let remaps : Remaps c.args.version c.args.replay.now.world c.remap_next_with.new.self = remaps_next _ _ c.loop-replay.replay-inside.world c.remap_next_with.new.self c.loop-replay.invariant.told.remaps call.ok c.remap_next_with.ensures.holders call.within in
    remaps.replay

pub returns-in-Err-clause-err : goal.returns-in-Err-clause-err
returns-in-Err-clause-err g c =
    let b = c.loop-replay.invariant in
    let call = c.in-Ok-Some.ensures in
    let some : 0 < length (stale c.loop-replay.replay-inside.world) = omega (arith, c.stale.ensures.count, c.loop-replay-test.true) in
    let remaps : Remaps c.args.version c.args.replay.now.world c.remap_next_with.new.self = remaps_next _ _ c.loop-replay.replay-inside.world c.remap_next_with.new.self b.told.remaps call.ok c.remap_next_with.ensures.holders call.within in
    let changed = rw (c.telling.ensures, c.in-Ok-Some.field-0-is) at call.change in
    told_but_last _ _ _ _ _ c.loop-replay.replay-inside.world c.remap_next_with.new.self _ _ _ b.told call.ok some c.in-Err.why remaps b.written.faults (c.in-Err.ensures.tells _ _ changed)

pub returns-in-Err-clause-written : goal.returns-in-Err-clause-written
returns-in-Err-clause-written g c =
    let b = c.loop-replay.invariant in
    record { faults = omega (arith, b.written.faults, c.in-Err.ensures.written.faults); most = c.in-Err.ensures.written.most ∙ b.written.most }

pub returns-in-Err-clause-silent : goal.returns-in-Err-clause-silent
returns-in-Err-clause-silent g c =
    let changed = rw (c.telling.ensures, c.in-Ok-Some.field-0-is) at c.in-Ok-Some.ensures.change in
    λ answers. never_unprinted _ c.in-Err.why _ _ _ _ answers (c.in-Err.ensures.tells _ _ changed)

-- ---- the graphs are lost

pub returns-in_err-followed-in-Ok-Some-clause-state : goal.returns-in_err-followed-in-Ok-Some-clause-state
returns-in_err-followed-in-Ok-Some-clause-state g c =
    let call = c.in-Ok-Some.ensures in
    let remaps : Remaps c.args.version c.args.replay.now.world c.remap_next_with.new.self = remaps_next _ _ c.loop-replay.replay-inside.world c.remap_next_with.new.self c.loop-replay.invariant.told.remaps call.ok c.remap_next_with.ensures.holders call.within in
    remaps.replay

pub returns-in_err-followed-in-Ok-Some-clause-err : goal.returns-in_err-followed-in-Ok-Some-clause-err
returns-in_err-followed-in-Ok-Some-clause-err g c =
    let p = err_from_is_err_and c.from_residual.result c.from_residual.ensures.1 in
    let b = c.loop-replay.invariant in
    let call = c.in-Ok-Some.ensures in
    let some : 0 < length (stale c.loop-replay.replay-inside.world) = omega (arith, c.stale.ensures.count, c.loop-replay-test.true) in
    let remaps : Remaps c.args.version c.args.replay.now.world c.remap_next_with.new.self = remaps_next _ _ c.loop-replay.replay-inside.world c.remap_next_with.new.self b.told.remaps call.ok c.remap_next_with.ensures.holders call.within in
    let changed = rw (c.telling.ensures, c.in-Ok-Some.field-0-is) at call.change in
    let told = c.in-Ok.ensures.tells _ _ changed in
    rw (p.1, p.2) (told_before _ OutOfMemory _ _ _ _ c.remap_next_with.new.self c.remap_next_with.new.self _ _
    (told_next _ _ _ _ _ c.loop-replay.replay-inside.world c.remap_next_with.new.self _ _ _ b.told call.ok some c.in-Ok.now remaps told) refl tt)

pub returns-in_err-followed-in-Ok-Some-clause-written : goal.returns-in_err-followed-in-Ok-Some-clause-written
returns-in_err-followed-in-Ok-Some-clause-written g c =
    let b = c.loop-replay.invariant in
    record { faults = omega (arith, b.written.faults, c.in-Ok.ensures.written.faults); most = c.in-Ok.ensures.written.most ∙ b.written.most }

pub returns-in_err-followed-in-Ok-Some-clause-silent : goal.returns-in_err-followed-in-Ok-Some-clause-silent
returns-in_err-followed-in-Ok-Some-clause-silent g c =
    let changed = rw (c.telling.ensures, c.in-Ok-Some.field-0-is) at c.in-Ok-Some.ensures.change in
    λ answers. still_silent _ _ _ _ _ _ answers (c.in-Ok.ensures.tells _ _ changed) ∙ c.loop-replay.invariant.silent answers

-- ---- no room

pub returns-in-Err-Full-clause-state : goal.returns-in-Err-Full-clause-state
returns-in-Err-Full-clause-state g c = ap (λ (w : WorldState). w.replay) c.in-Err-Full.ensures.err ∙ c.loop-replay.invariant.told.remaps.replay

pub returns-in-Err-Full-clause-err : goal.returns-in-Err-Full-clause-err
returns-in-Err-Full-clause-err g c =
    let b = c.loop-replay.invariant in
    let call = c.in-Err-Full.ensures in
    let some : 0 < length (stale c.loop-replay.replay-inside.world) = omega (arith, c.stale.ensures.count, c.loop-replay-test.true) in
    told_before _ Full _ _ _ _ c.loop-replay.replay-inside.world c.remap_next_with.new.self _ _ b.told call.err (remaps_full _ _ c.loop-replay.replay-inside.world c.remap_next_with.new.self b.told.remaps call.err some (call.full (ap Err c.in-Err-Full.field-0-is)))

pub returns-in-Err-Full-clause-written : goal.returns-in-Err-Full-clause-written
returns-in-Err-Full-clause-written g c = c.loop-replay.invariant.written

pub returns-in-Err-Full-clause-silent : goal.returns-in-Err-Full-clause-silent
returns-in-Err-Full-clause-silent g c = c.loop-replay.invariant.silent

-- ---- no memory

pub returns-in-Err-OutOfMemory-clause-state : goal.returns-in-Err-OutOfMemory-clause-state
returns-in-Err-OutOfMemory-clause-state g c = ap (λ (w : WorldState). w.replay) c.in-Err-OutOfMemory.ensures.err ∙ c.loop-replay.invariant.told.remaps.replay

pub returns-in-Err-OutOfMemory-clause-err : goal.returns-in-Err-OutOfMemory-clause-err
returns-in-Err-OutOfMemory-clause-err g c =
    let b = c.loop-replay.invariant in
    let call = c.in-Err-OutOfMemory.ensures in
    told_before _ OutOfMemory _ _ _ _ c.loop-replay.replay-inside.world c.remap_next_with.new.self _ _ b.told call.err tt

pub returns-in-Err-OutOfMemory-clause-written : goal.returns-in-Err-OutOfMemory-clause-written
returns-in-Err-OutOfMemory-clause-written g c = c.loop-replay.invariant.written

pub returns-in-Err-OutOfMemory-clause-silent : goal.returns-in-Err-OutOfMemory-clause-silent
returns-in-Err-OutOfMemory-clause-silent g c = c.loop-replay.invariant.silent

-- ---- all of them

pub returns-clause-state : goal.returns-clause-state
returns-clause-state g c = c.loop-replay.invariant.told.remaps.replay

pub returns-clause-ok : goal.returns-clause-ok
returns-clause-ok g c =
    let none : c.stale.result ≡ 0 = omega (arith, c.loop-replay-test.false) in
    remaps_all _ _ c.loop-replay.replay-inside.world c.loop-replay.invariant.told.remaps (c.stale.ensures.none none)

pub returns-clause-roomed : goal.returns-clause-roomed
returns-clause-roomed g c =
    let none : length (stale c.loop-replay.replay-inside.world) ≡ 0 = omega (arith, c.stale.ensures.count, c.loop-replay-test.false) in
    remaps_all_roomed _ _ c.loop-replay.replay-inside.world c.loop-replay.invariant.told.remaps none

pub returns-clause-tells : goal.returns-clause-tells
returns-clause-tells g c =
    let none : length (stale c.loop-replay.replay-inside.world) ≡ 0 = omega (arith, c.stale.ensures.count, c.loop-replay-test.false) in
    told_all _ _ _ _ _ c.loop-replay.replay-inside.world _ _ c.loop-replay.invariant.told none

pub returns-clause-written : goal.returns-clause-written
returns-clause-written g c = c.loop-replay.invariant.written

pub returns-clause-silent : goal.returns-clause-silent
returns-clause-silent g c = c.loop-replay.invariant.silent
