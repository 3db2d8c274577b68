-- A replay that was started ends as it was played; one that wasn't ends with the cause.
use Rattle.std.proofs.Common.{Some, ap, inl, inr, refl, ◌∙◌}
use Rattle.following.specs.Input.{input}
use Rattle.arguments.specs.Options.{max_bytes_of}
use Rattle.run_model.specs.Moment.{moment, run_of, world_at_start}
use Rattle.world.specs.WorldState.{WorldState}
use Rattle.run_model.proofs.{Ongoing.gone_twice, Ongoing.resumed_on, Progress.nothing_stands, Progress.starved_at_once}
use Rattle.run_model.proofs.Reading.{nothing_taken_of}
use Rattle.session.proofs.replaying.run_prepared.Goals as goal

pub returns-in-Ok-clause-ending : goal.returns-in-Ok-clause-ending
returns-in-Ok-clause-ending g c = rw (c.into_world.ensures.world, c.status_of-status.ensures.stops) (record {
  begun = λ none. rw ((c.in-Ok.ensures.begun none).1, (c.in-Ok.ensures.begun none).0) at c.play-played.ensures.ending;
  resumed = λ some.
      let loaded = c.in-Ok.ensures.loaded some in
      inr (record {
        world = c.in-Ok.replay.world;
        numbers = c.in-Ok.replay.earlier;
        loaded = loaded.loaded;
        allowed = loaded.allowed;
        rest = input g.S.Source c.start.new.resumed;
        read = loaded.read;
        ending = rw loaded.routes_are at c.play-played.ensures.ending;
      });
})

pub returns-in-Err-clause-ending : goal.returns-in-Err-clause-ending
returns-in-Err-clause-ending g c = rw c.status.ensures.stops (record {
  begun = λ none. rw ((c.in-Err.ensures.begun none).0, (c.in-Err.ensures.begun none).1, c.in-Err.ensures.back, c.requires.begun none) (record {
    outcome = starved_at_once (run_of c.args.routes c.args.task.now.report (g.R.Revisions.contents c.args.ports.now.revisions) c.args.task.now.options.now)
        (moment g.S.Source g.R.Revisions g.K.Sink g.F.Snapshots c.args.ports.now (world_at_start c.args.task.now.options.now)) (nothing_stands c.args.task.now.options.now.horizon);
    taken = nothing_taken_of (max_bytes_of c.args.task.now.options.now) (g.S.Source.left c.args.ports.now.events) (g.S.Source.last c.args.ports.now.events);
    snapshot = λ none. inl refl;
    resumed = refl;
  });
  resumed = λ some.
      let unloaded = c.in-Err.ensures.loaded some in
      rw c.in-Err.ensures.back (inl (record { fault = unloaded.fault; is = ap Some unloaded.is; cause = unloaded.cause; untouched = refl }));
})

pub returns-in-Ok-clause-limit : goal.returns-in-Ok-clause-limit
returns-in-Ok-clause-limit g c =
    let is = ap (λ (w : WorldState). w.limit) c.into_world.ensures.world ∙ c.play-played.ensures.limit ∙ c.in-Ok.ensures.limit in
    (is, c.into_world.ensures.held)

pub returns-in-Err-clause-limit : goal.returns-in-Err-clause-limit
returns-in-Err-clause-limit g c = rw c.in-Err.ensures.back (c.requires.limit, c.requires.held)

pub returns-in-Ok-clause-unsaved : goal.returns-in-Ok-clause-unsaved
returns-in-Ok-clause-unsaved g c = rw c.status_of-status.ensures.stops c.play-played.ensures.unsaved

pub returns-in-Ok-clause-further : goal.returns-in-Ok-clause-further
returns-in-Ok-clause-further g c = gone_twice g.S.Source g.R.Revisions g.K.Sink g.F.Snapshots _ _ _ (resumed_on g.S.Source g.R.Revisions g.K.Sink g.F.Snapshots c.args.ports.now c.start.new.resumed c.start.ensures.further) c.play-played.ensures.further
