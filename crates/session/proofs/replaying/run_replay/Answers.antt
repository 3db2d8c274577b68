-- A replay of a world that was prepared, or none, since memory was refused.
use Rattle.std.proofs.Common.{ap, inl, inr, refl}
use Rattle.world.specs.Limit.{Limit}
use Rattle.run_model.specs.Moment.{limit_of, run_of}
use Rattle.run_model.proofs.Ongoing.{none_gone}
use Rattle.session.proofs.Limited.{kept_limit}
use Rattle.session.proofs.Starved.{limit_apart, starved_run}
use Rattle.session.proofs.replaying.run_replay.Goals as goal

pub returns-in-Ok-clause-ending : goal.returns-in-Ok-clause-ending
returns-in-Ok-clause-ending g c =
    limit_apart g.S.Source g.R.Revisions g.K.Sink g.F.Snapshots c.args.ports.now c.args.world c.prepare.new.world _ _ _ c.prepare.ensures.resumed c.run_prepared.ensures.ending

pub returns-in-Ok-clause-limit : goal.returns-in-Ok-clause-limit
returns-in-Ok-clause-limit g c =
    let limit = c.run_prepared.ensures.limit in
    record { terms = ap (λ (l : Limit). l.terms) limit.0; held = limit.1; is = inl limit.0 }

pub returns-in-Err-clause-ending : goal.returns-in-Err-clause-ending
returns-in-Err-clause-ending g c =
    starved_run g.S.Source g.R.Revisions g.K.Sink g.F.Snapshots c.args.ports.now c.args.world c.prepare.new.world (run_of c.args.routes c.args.task.now.report (g.R.Revisions.contents c.args.ports.now.revisions) c.args.task.now.options.now)
    c.prepare.ensures.begun c.prepare.ensures.resumed

pub returns-in-Err-clause-limit : goal.returns-in-Err-clause-limit
returns-in-Err-clause-limit g c = kept_limit (limit_of c.args.task.now.options.now) _ c.prepare.ensures.terms c.prepare.ensures.held c.prepare.ensures.whole

pub returns-in-Err-clause-unsaved : goal.returns-in-Err-clause-unsaved
returns-in-Err-clause-unsaved g c = inr refl

pub returns-in-Err-clause-further : goal.returns-in-Err-clause-further
returns-in-Err-clause-further g c = none_gone g.S.Source g.R.Revisions g.K.Sink g.F.Snapshots _
