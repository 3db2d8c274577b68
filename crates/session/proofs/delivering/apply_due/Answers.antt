-- One event more, and fewer wait.
use Rattle.std.proofs.Common.{refl, ap, ◌∙◌, arith, Err, inl, inr, ⊎_elim}
use Rattle.std.proofs.lemmas.Result.{err_from_is_err_and}
use Rattle.text_output.specs.Printing.{output}
use Rattle.drill_replay.proofs.Applying.{applies-fewer}
use Rattle.term_pool.specs.declared.fault.PoolFault.TheVariants.{Full, OutOfMemory}
use Rattle.splitting.specs.Graphs.{routes_of}
use Rattle.splitting.proofs.{Following.may_be_sound, Roomed.may_have_room}
use Rattle.run_model.specs.Moment.{counts, stage}
use Rattle.run_model.proofs.Due.{IsApplied, applies-leads, goes-further, goes-nowhere, gone-on, no_call, none_due, starved, unprinted}
use Rattle.run_model.proofs.{Needed.applied_has_room, Reports.never_unprinted, Reports.still_silent, Reports.unprinted_held_up}
use Rattle.run_model.proofs.Versions.{applies-versions, keeps-further}
use Rattle.session.proofs.delivering.apply_due.Goals as goal

pub loop-applied-init : goal.loop-applied-init
loop-applied-init g c = rw (← c.replay.view_is) (record {
  goes = goes-nowhere _ _ _;
  source = record { known = refl; faults = omega arith; misses = omega arith; most = refl };
  kept = c.replay.invariant;
  same = record { limit = refl; routes = refl; earlier = refl };
  versions = λ version is. is;
  written = record { faults = omega arith; most = refl };
  silent = λ answers. refl;
})

pub loop-applied-preserved : goal.loop-applied-preserved
loop-applied-preserved g c =
    let before = c.loop-applied.invariant in
    let call = c.in-Ok.ensures in
    let applied = rw before.source.known at call.applied in
    let keeps = applies-versions _ _ c.loop-applied.replay-inside.world c.apply_next_with.new.self _ applied call.mapping call.by_two in
    let changed = rw c.telling.ensures at call.change in
    let told = c.in-Ok-tell.ensures.tells _ _ changed in
    let is : IsApplied (g.R.Revisions.contents c.args.revisions.now) c.args.context.now.folder.now c.args.replay.now.world.limit
    (stage g.R.Revisions g.K.Sink c.loop-applied.revisions c.loop-applied.out c.loop-applied.replay-inside.world) (stage g.R.Revisions g.K.Sink c.apply_next_with.new.revisions c.tell.new.out c.apply_next_with.new.self) = record {
      applied = c.in-Ok.field-0.applied;
      applies = applied;
      rises = record { shown = call.shown; calls = call.calls; more_faults = call.more_faults; more_misses = call.more_misses };
      keeps = keeps;
      has_room = applied_has_room _ _ _ c.loop-applied.replay-inside.world c.apply_next_with.new.self.replay _ applied (rw before.same.limit at call.within);
    } in
    record {
      goes = goes-further _ _ _ _ _ _ _ before.versions before.goes (applies-leads _ _ _ _ _ c.loop-applied.reported c.in-Ok-tell.now _ _ is told);
      source = gone-on g.R.Revisions _ _ _ before.source (record { known = call.told; faults = call.more_faults; misses = call.more_misses; most = call.most });
      versions = keeps-further c.args.replay.now.world c.loop-applied.replay-inside.world c.apply_next_with.new.self before.versions keeps;
      kept = (c.follow_application-followed.ensures.follow _ _ c.loop-applied.replay-inside.world c.apply_next_with.new.self call.applied call.limit call.by_two call.holders (rw c.routes_of.ensures at call.routed) before.kept.0, before.kept.1);
      same = record { limit = call.limit ∙ before.same.limit; routes = c.follow_application-followed.ensures.routes ∙ before.same.routes; earlier = before.same.earlier };
      written = record { faults = omega (arith, before.written.faults, c.in-Ok-tell.ensures.written.faults); most = c.in-Ok-tell.ensures.written.most ∙ before.written.most };
      silent = λ answers. still_silent _ _ _ _ _ _ answers told ∙ before.silent answers;
    }

pub follow_application-followed-requires-clause-sound : goal.follow_application-followed-requires-clause-sound
follow_application-followed-requires-clause-sound g c = may_be_sound (routes_of c.loop-applied.replay-inside.graphs) _ _ _ _ _ (rw c.routes_of.ensures at c.in-Ok.ensures.routed)

pub follow_application-followed-requires-clause-room : goal.follow_application-followed-requires-clause-room
follow_application-followed-requires-clause-room g c =
    may_have_room c.loop-applied.replay-inside.graphs c.loop-applied.replay-inside.world _ _ _ _ c.loop-applied.invariant.kept.0 (rw c.routes_of.ensures at c.in-Ok.ensures.routed) c.in-Ok.ensures.within

pub loop-applied-smaller : goal.loop-applied-smaller
loop-applied-smaller g c = applies-fewer _ _ _ _ _ c.in-Ok.ensures.applied

pub returns-in-Err-clause-err : goal.returns-in-Err-clause-err
returns-in-Err-clause-err g c =
    let before = c.loop-applied.invariant in
    let call = c.in-Ok.ensures in
    let applied = rw before.source.known at call.applied in
    let changed = rw c.telling.ensures at call.change in
    let told = c.in-Err.ensures.tells _ _ changed in
    let is : IsApplied (g.R.Revisions.contents c.args.revisions.now) c.args.context.now.folder.now c.args.replay.now.world.limit
    (stage g.R.Revisions g.K.Sink c.loop-applied.revisions c.loop-applied.out c.loop-applied.replay-inside.world) (stage g.R.Revisions g.K.Sink c.apply_next_with.new.revisions c.tell.new.out c.apply_next_with.new.self) = record {
      applied = c.in-Ok.field-0.applied;
      applies = applied;
      rises = record { shown = call.shown; calls = call.calls; more_faults = call.more_faults; more_misses = call.more_misses };
      keeps = applies-versions _ _ c.loop-applied.replay-inside.world c.apply_next_with.new.self _ applied call.mapping call.by_two;
      has_room = applied_has_room _ _ _ c.loop-applied.replay-inside.world c.apply_next_with.new.self.replay _ applied (rw before.same.limit at call.within);
    } in
    unprinted _ _ c.in-Err.why _ _ _ _ c.loop-applied.reported _ _ _ before.versions before.goes is told

pub returns-in-Err-clause-held_up : goal.returns-in-Err-clause-held_up
returns-in-Err-clause-held_up g c =
    let changed = rw c.telling.ensures at c.in-Ok.ensures.change in
    let told = c.in-Err.ensures.tells _ _ changed in
    unprinted_held_up _ c.in-Err.why _ _ _ (output g.K.Sink c.args.out.now) (stage g.R.Revisions g.K.Sink c.apply_next_with.new.revisions c.tell.new.out c.apply_next_with.new.self)
    (output g.K.Sink c.loop-applied.out) c.loop-applied.invariant.written.faults told

pub returns-in-Err-clause-versions : goal.returns-in-Err-clause-versions
returns-in-Err-clause-versions g c =
    let before = c.loop-applied.invariant in
    let call = c.in-Ok.ensures in
    keeps-further c.args.replay.now.world c.loop-applied.replay-inside.world c.apply_next_with.new.self before.versions
    (applies-versions _ _ c.loop-applied.replay-inside.world c.apply_next_with.new.self _ call.applied call.mapping call.by_two)

pub returns-in-Err-clause-silent : goal.returns-in-Err-clause-silent
returns-in-Err-clause-silent g c =
    let changed = rw c.telling.ensures at c.in-Ok.ensures.change in
    λ answers. never_unprinted _ c.in-Err.why _ _ _ _ answers (c.in-Err.ensures.tells _ _ changed)

-- ---- the graphs are lost

pub returns-in_err-followed-in-Ok-clause-err : goal.returns-in_err-followed-in-Ok-clause-err
returns-in_err-followed-in-Ok-clause-err g c =
    let p = err_from_is_err_and c.from_residual.result c.from_residual.ensures.1 in
    let before = c.loop-applied.invariant in
    let call = c.in-Ok.ensures in
    let applied = rw before.source.known at call.applied in
    let changed = rw c.telling.ensures at call.change in
    let told = c.in-Ok-tell.ensures.tells _ _ changed in
    let is : IsApplied (g.R.Revisions.contents c.args.revisions.now) c.args.context.now.folder.now c.args.replay.now.world.limit
    (stage g.R.Revisions g.K.Sink c.loop-applied.revisions c.loop-applied.out c.loop-applied.replay-inside.world) (stage g.R.Revisions g.K.Sink c.apply_next_with.new.revisions c.tell.new.out c.apply_next_with.new.self) = record {
      applied = c.in-Ok.field-0.applied;
      applies = applied;
      rises = record { shown = call.shown; calls = call.calls; more_faults = call.more_faults; more_misses = call.more_misses };
      keeps = applies-versions _ _ c.loop-applied.replay-inside.world c.apply_next_with.new.self _ applied call.mapping call.by_two;
      has_room = applied_has_room _ _ _ c.loop-applied.replay-inside.world c.apply_next_with.new.self.replay _ applied (rw before.same.limit at call.within);
    } in
    rw (p.1, p.2) (starved OutOfMemory _ _ c.in-Ok-tell.now _ (output g.K.Sink c.tell.new.out) (counts g.R.Revisions c.apply_next_with.new.revisions) _ c.apply_next_with.new.self c.apply_next_with.new.self
    (goes-further _ _ _ _ _ _ _ before.versions before.goes (applies-leads _ _ _ _ _ c.loop-applied.reported c.in-Ok-tell.now _ _ is told)) (no_call _) refl)

pub returns-in_err-followed-in-Ok-clause-versions : goal.returns-in_err-followed-in-Ok-clause-versions
returns-in_err-followed-in-Ok-clause-versions g c =
    let call = c.in-Ok.ensures in
    keeps-further c.args.replay.now.world c.loop-applied.replay-inside.world c.apply_next_with.new.self c.loop-applied.invariant.versions
    (applies-versions _ _ c.loop-applied.replay-inside.world c.apply_next_with.new.self _ call.applied call.mapping call.by_two)

pub returns-in_err-followed-in-Ok-clause-silent : goal.returns-in_err-followed-in-Ok-clause-silent
returns-in_err-followed-in-Ok-clause-silent g c =
    let changed = rw c.telling.ensures at c.in-Ok.ensures.change in
    λ answers. still_silent _ _ _ _ _ _ answers (c.in-Ok-tell.ensures.tells _ _ changed) ∙ c.loop-applied.invariant.silent answers

-- ---- no event is left, or it isn't applied

pub returns-in-Err-Nothing-clause-ok : goal.returns-in-Err-Nothing-clause-ok
returns-in-Err-Nothing-clause-ok g c =
    let call = c.in-Err-Nothing.ensures in
    none_due _ _ _ _ (output g.K.Sink c.loop-applied.out) (counts g.R.Revisions c.loop-applied.revisions) _ c.loop-applied.replay-inside.world c.apply_next_with.new.self c.loop-applied.invariant.goes
    (⊎_elim (λ same. same) (λ refused. absurd (refused.0 c.in-Err-Nothing.field-0-is)) call.calls_at_fault) call.more_faults call.more_misses call.err (call.nothing.0 (ap Err c.in-Err-Nothing.field-0-is))

pub returns-in-Err-Full-clause-err : goal.returns-in-Err-Full-clause-err
returns-in-Err-Full-clause-err g c =
    let call = c.in-Err-Full.ensures in
    starved Full _ _ _ _ (output g.K.Sink c.loop-applied.out) (counts g.R.Revisions c.loop-applied.revisions) _ c.loop-applied.replay-inside.world c.apply_next_with.new.self c.loop-applied.invariant.goes
    (record { calls = call.calls_at_full (ap Err c.in-Err-Full.field-0-is); faults = call.more_faults; misses = call.more_misses }) call.err

pub returns-in-Err-OutOfMemory-clause-err : goal.returns-in-Err-OutOfMemory-clause-err
returns-in-Err-OutOfMemory-clause-err g c =
    let call = c.in-Err-OutOfMemory.ensures in
    starved OutOfMemory _ _ _ _ (output g.K.Sink c.loop-applied.out) (counts g.R.Revisions c.loop-applied.revisions) _ c.loop-applied.replay-inside.world c.apply_next_with.new.self c.loop-applied.invariant.goes
    (record { calls = ⊎_elim (λ same. inl same) (λ one. inr one.1) call.calls_at_fault; faults = call.more_faults; misses = call.more_misses }) call.err
