-- What a plan leaves that doesn't begin, since memory was refused.
use Rattle.std.proofs.Common.{◌≡◌, refl, sym, ap, subst, inl, inr, [], Option, None, Some, IsSome}
use Rattle.wq_io.specs.{declared.sink.Sink.Ghosts as SinkOf, declared.source.Source.Ghosts as SourceOf}
use Rattle.revisions.specs.declared.revisions.Revisions.{Ghosts as RevisionsOf}
use Rattle.checkpoint.specs.{declared.fault.LoadFault.TheVariants.OutOfMemory as LoadOutOfMemory, declared.snapshots.Snapshots.Ghosts as SnapshotsOf}
use Rattle.world.specs.WorldState.{WorldState}
use Rattle.drill_replay.specs.Drill.{drill}
use Rattle.following.specs.declared.stop.FollowStop.TheVariants.{OutOfMemory as FollowOutOfMemory}
use Rattle.following.proofs.KnownBytes.{nothing_taken_of as nothing_followed}
use Rattle.arguments.specs.{Options.follow_max_bytes_of, Options.max_bytes_of, declared.plan.Plan.Plan}
use Rattle.run_model.specs.{declared.ports.Ports.Ports, declared.status.Status.TheVariants.OutOfMemory, declared.stop.Stop.Stop, declared.stop.Stop.TheVariants.OutOfMemory as StopOutOfMemory, Headline.ReplayEnding, Resuming.ResumeEnding, Resuming.RunEnding}
use Rattle.run_model.specs.Moment.{Moment, Run, moment, world_at_start}
use Rattle.run_model.proofs.{Ongoing.none_gone, Progress.nothing_stands, Progress.starved_at_once, Reading.nothing_taken_of}
use Rattle.session.specs.Plans.{IsUnbegun, PlanEnding, limit_of_plan}
use Rattle.session.proofs.Limited.{kept_limit}
use Rattle.session.proofs.Drills.{not_begun}

module _ {S R K F : Type 0} (events : SourceOf S) (source : RevisionsOf R) (sink : SinkOf K) (file : SnapshotsOf F) (ports : Ports S R K F) (world now : WorldState) where
  -- which world it is but for its limit decides what a run leaves
  pub limit_apart : (run : Run) (stopped : Option Stop) (end : Moment) → (IsSome run.choices.resume → now ≡ record world { limit = now.limit }) →
      RunEnding stopped run (moment events source sink file ports now) end → RunEnding stopped run (moment events source sink file ports world) end
  limit_apart run stopped end same ending = record {
    begun = ending.begun;
    resumed = λ some. subst (λ (m : Moment). ResumeEnding stopped run m end) (ap (moment events source sink file ports) (same some)) (ending.resumed some);
  }

  pub starved_run : (run : Run) → (run.choices.resume ≡ None → now ≡ record (world_at_start run.choices) { limit = now.limit }) → (IsSome run.choices.resume → now ≡ record world { limit = now.limit }) →
      RunEnding (Some StopOutOfMemory) run (moment events source sink file ports world) (moment events source sink file ports now)
  starved_run run begun resumed =
      let at_start : Moment = moment events source sink file ports (world_at_start run.choices) in
      let before : Moment = moment events source sink file ports world in
      record {
        begun = λ none. subst (λ (m : Moment). ReplayEnding (Some StopOutOfMemory) run at_start m) (sym (ap (moment events source sink file ports) (begun none))) (record {
          outcome = starved_at_once run at_start (nothing_stands run.choices.horizon);
          taken = nothing_taken_of (max_bytes_of run.choices) (events.left ports.events) (events.last ports.events);
          snapshot = λ none. inl refl;
          resumed = refl;
        });
        resumed = λ some. subst (λ (m : Moment). ResumeEnding (Some StopOutOfMemory) run before m) (sym (ap (moment events source sink file ports) (resumed some)))
            (inl (record { fault = LoadOutOfMemory; is = refl; cause = inl tt; untouched = refl }));
      }

  pub starved : (plan : Plan) → IsUnbegun plan world now → PlanEnding events source sink file plan OutOfMemory ports ports world now
  starved plan is = record {
    refused = λ never. cc;
    without = λ none. (inr refl, refl, is.nothing);
    replay = λ run are. starved_run run (is.begun _ run are) (is.resumed _ run are);
    drill = λ size asked.
        let it = is.drill size asked in
        (not_begun size _ _ now.replay refl (inl (inl (record { before = []; after = drill size; all = refl; is = it.1 }))), it.0, refl);
    follow = λ choices asked.
        (record { outcome = record { why = FollowOutOfMemory; is = refl; stopped = inl (tt, refl) }; taken = nothing_followed (follow_max_bytes_of choices) (events.left ports.events) }, refl, is.follow choices asked);
    limit = inr (kept_limit (limit_of_plan plan) now is.terms is.held is.whole);
    unsaved = inr refl;
    further = none_gone events source sink file ports;
  }
