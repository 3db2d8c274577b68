-- A run over memory that was begun: what the top call promises of it, and no call of it failed.
use Rattle.std.proofs.Common.{◌≡◌, ◌⊎◌, inl, inr, refl, ◌∙◌, ap, ℕ, List, [], ◌∷◌, None, Some, length, arith}
use Rattle.wq_io.specs.{Failing.Counting, Failing.failures, declared.source.Source.Ghosts as SourceOf, declared.sink.Sink.Ghosts as SinkOf}
use Rattle.revisions.specs.{declared.revisions.Revisions.Ghosts as RevisionsOf}
use Rattle.replay_model.specs.ReplayState.{nothing_delivered_within}
use Rattle.drill_replay.specs.Playing.{IsByFirst}
use Rattle.world.specs.WorldState.{WorldState}
use Rattle.checkpoint.specs.declared.snapshots.Snapshots.{Ghosts as SnapshotsOf}
use Rattle.following.specs.Following.{follow_moment}
use Rattle.arguments.specs.{Options.FollowChoices, Plan.plan_of, declared.plan.Plan.Plan}
use Rattle.arguments.specs.declared.plan.Plan.TheVariants.{Drill, Follow}
use Rattle.run_model.specs.{declared.ports.Ports.Ports, declared.status.Status.Status, Moment.Moment, Moment.Run, Moment.moment, Moment.stage, Resuming.RunEnding, Stop.stop_of}
use Rattle.run_model.specs.declared.status.Status.TheVariants.{BadWords, OutOfMemory}
use Rattle.run_model.specs.Plans.{IsRunOf}
use Rattle.session.specs.Plans.{DrillEnding, FollowEnding, IsNotUnderstood, MaySave}
use Rattle.memory_run.specs.Runs.{HasNoFaults, IsAfter, IsBefore, IsRun, Lent}
use Rattle.rdf_term.specs.Limits.{default_max_terms}
use Rattle.world.specs.Limit.{whole}

-- a list without an element
none_left : {A : Type 0} (xs : List A) → length xs ≡ 0 → xs ≡ []
none_left [] none = refl
none_left (x ∷ xs) none = absurd (omega (arith, none))

-- where no call is to fail, none failed
pub no_failures : (calls : Counting) → length calls.numbers ≡ 0 → failures calls ≡ 0
no_failures calls none = by calls.numbers (none_left calls.numbers none)
  where
    by : (numbers : List ℕ) → numbers ≡ [] → failures (record { numbers = numbers; calls = calls.calls }) ≡ 0
    by [] is = refl
    by (n ∷ numbers) is = cc

-- as many calls are to fail as before
pub as_many : (old new : List ℕ) → Some (length new) ≡ Some (length old) → old ≡ [] → length new ≡ 0
as_many old new same none = let lengths : length new ≡ length old = cc in lengths ∙ ap length none

module _ {S R K F : Type 0} (input : SourceOf S) (source : RevisionsOf R) (sink : SinkOf K) (file : SnapshotsOf F) (old new : Ports S R K F) (world now : WorldState)
    (lent : Lent) (status : Status) (printed : List ℕ) (kept : List (List ℕ)) where
  abbrev before_it : Moment
  before_it = moment input source sink file old world

  abbrev after_it : Moment
  after_it = moment input source sink file new now

  pub is_run :
      IsBefore lent before_it → IsAfter printed kept after_it → HasNoFaults before_it → HasNoFaults after_it
      → (status ≡ BadWords → IsNotUnderstood lent.words × (new ≡ old) × (now ≡ world))
      → (plan_of lent.words ≡ None → status ≡ BadWords)
      → (IsNotUnderstood lent.words → ((status ≡ BadWords) ⊎ (status ≡ OutOfMemory)) × (new ≡ old) × (now.replay ≡ nothing_delivered_within now.replay.buffer.horizon))
      → ((plan : Plan) → plan_of lent.words ≡ Some plan → (run : Run) → IsRunOf plan (Some lent.pages) run → RunEnding (stop_of status) run before_it after_it)
      → ((size : ℕ) → plan_of lent.words ≡ Some (Drill size) → DrillEnding status size (stage source sink old.revisions old.out world) (stage source sink new.revisions new.out now)
      × IsByFirst now × (new ≡ record old { out = new.out }))
      → ((choices : FollowChoices) → plan_of lent.words ≡ Some (Follow choices) →
      FollowEnding status choices (follow_moment input sink old.events old.out) (follow_moment input sink new.events new.out)
      × (new ≡ record old { events = new.events; out = new.out }) × (now ≡ record world { limit = whole default_max_terms }))
      → ((plan : Plan) → plan_of lent.words ≡ Some plan → MaySave plan status ⊎ (new.snapshot ≡ old.snapshot))
      → IsRun lent status printed kept
  is_run begun left none none_now refused words bad_words replay drill follow unsaved = record {
    before = before_it;
    now = after_it;
    begun = begun;
    ended = record {
      refused = λ is. (refused is).0;
      words_refused = words;
      not_understood = λ not. (
        (bad_words not).0,
        ap (λ (ports : Ports S R K F). sink.held ports.out) (bad_words not).1,
        ap (λ (ports : Ports S R K F). file.kept ports.snapshot) (bad_words not).1,
      );
      replay = replay;
      drill = λ size is. (drill size is).0;
      follow = λ choices is. (follow choices is).0;
      unsaved = λ plan is. by plan (unsaved plan is);
    };
    left = left;
    unfailed_before = none;
    unfailed = none_now;
  }
    where
      by : (plan : Plan) → MaySave plan status ⊎ (new.snapshot ≡ old.snapshot) → MaySave plan status ⊎ (after_it.snapshot ≡ before_it.snapshot)
      by plan (inl may) = inl may
      by plan (inr same) = inr (λ i. record { kept = file.kept (same i); written = file.written (same i); faults = file.faults (same i); most_faults = file.most_faults (same i) })
