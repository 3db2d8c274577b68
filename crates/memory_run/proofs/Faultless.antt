-- No run over memory ends because a read or a write failed.
use Rattle.std.proofs.Common.{◌≡◌, ◌⊎◌, refl, sym, subst, inl, inr, ℕ, List, Option, None, Some, IsSome, arith}
use Rattle.wq_io.specs.Streams.{Rose}
use Rattle.arguments.specs.Options.{FollowChoices}
use Rattle.arguments.specs.{Plan.plan_of, declared.plan.Plan.Plan}
use Rattle.arguments.specs.declared.plan.Plan.TheVariants.{Replay, Drill, Patches, Follow, Split}
use Rattle.text_output.specs.declared.write.Unwritten.TheVariants.{WriteFault as NotWritten, OutOfMemory as UnwrittenOutOfMemory}
use Rattle.checkpoint.specs.declared.fault.LoadFault.{LoadFault}
use Rattle.checkpoint.specs.declared.fault.LoadFault.TheVariants.{ReadFault as NotLoaded, TooLong as OverLength, BadLine as BadSnapshotLine, Full as NoRoomLeft, OutOfMemory as LoadOutOfMemory}
use Rattle.following.specs.declared.stop.FollowStop.{FollowStop}
use Rattle.following.specs.declared.stop.FollowStop.TheVariants.{BadLine as BadRecord, ReadFault as NotFollowed, WriteFault as NotPrinted, TooLong as OverLimit, StoreFull as NoPlace, OutOfMemory as FollowOutOfMemory}
use Rattle.following.specs.Following.{StoppedFollowing}
use Rattle.run_model.specs.declared.stop.Stop.{Stop}
use Rattle.run_model.specs.declared.stop.Stop.TheVariants.{ReadFault, WriteFault}
use Rattle.run_model.specs.declared.status.Status.{Status}
use Rattle.run_model.specs.declared.status.Status.TheVariants.{ReadFault as ReadFailed, WriteFault as WriteFailed, BadWords, OutOfMemory}
use Rattle.run_model.specs.Moment.{Moment, Run}
use Rattle.run_model.specs.{Headline.Stopped, Resuming.IsRefusedFor, Resuming.ResumeEnding, Resuming.RunEnding, Stop.stop_of, Stop.stop_of_follow, Stop.stop_of_load}
use Rattle.session.specs.Plans.{DrillEnding, FollowEnding, IsNotUnderstood}
use Rattle.memory_run.specs.Runs.{HasNoFaults, IsRun, Lent, follow_moment_at}

-- a counter that is 0 didn't rise
not_risen : (before now : ℕ) → now ≡ 0 → Rose before now → ⊥
not_risen before now none rose = omega (arith, none, rose)

-- ---- however a run is begun

-- a run with this status ended in none of the ways of a replay, a drill or a follower, so there was none
module _ (lent : Lent) (status : Status) (printed : List ℕ) (kept : List (List ℕ)) (x : IsRun lent status printed kept)
    (begun : (status ≡ BadWords) ⊎ (status ≡ OutOfMemory) → ⊥)
    (of_run : (run : Run) → RunEnding (stop_of status) run x.before x.now → ⊥)
    (of_drill : (size : ℕ) → DrillEnding status size x.before.stage x.now.stage → ⊥)
    (of_follow : (choices : FollowChoices) → FollowEnding status choices (follow_moment_at x.before) (follow_moment_at x.now) → ⊥) where
  understood : IsNotUnderstood lent.words → ⊥
  understood not = begun (x.ended.not_understood not).0

  by_words : (asked : Option Plan) → plan_of lent.words ≡ asked → ⊥
  by_words None is = understood (inl is)
  by_words (Some (Replay choices)) is = of_run _ (x.ended.replay (Replay choices) is _ refl)
  by_words (Some (Patches choices)) is = of_run _ (x.ended.replay (Patches choices) is _ refl)
  by_words (Some (Drill size)) is = of_drill size (x.ended.drill size is)
  by_words (Some (Follow choices)) is = of_follow choices (x.ended.follow choices is)
  by_words (Some (Split choices)) is = understood (inr (record {
    choices = choices;
    plan = is;
    none = λ routes are. of_run _ (x.ended.replay (Split choices) is _ (record { routes = routes; are = are; is = refl }));
  }))

  no_run : ⊥
  no_run = by_words (plan_of lent.words) refl

-- a replay that stops for this cause didn't stop, whether it was begun from nothing or from a snapshot
module _ (stop : Stop) (before now : Moment)
    (not_stopped : (run : Run) (from : Moment) → from.input.faults ≡ before.input.faults → Stopped stop run from now → ⊥)
    (not_refused : (run : Run) (fault : LoadFault) → stop ≡ stop_of_load fault → IsRefusedFor fault run.choices before.resumed.left before.resumed.faults now.resumed.faults → ⊥) where
  not_resumed : (run : Run) → ResumeEnding (Some stop) run before now → ⊥
  not_resumed run (inl refused) = not_refused run refused.fault (let same : Some stop ≡ Some (stop_of_load refused.fault) = refused.is in cc) refused.cause
  not_resumed run (inr resumed) = not_stopped _ _ refl resumed.ending.outcome

  not_run : (run : Run) → RunEnding (Some stop) run before now → ⊥
  not_run run ending = by run.choices.resume refl
    where
      by : (o : Option _) → run.choices.resume ≡ o → ⊥
      by None is = not_stopped _ _ refl (ending.begun is).outcome
      by (Some name) is = not_resumed run (ending.resumed (subst IsSome (sym is) refl))

-- ---- no read fails

module _ (before now : Moment) (none : HasNoFaults now) where
  unrefused : (run : Run) (fault : LoadFault) → ReadFault ≡ stop_of_load fault → IsRefusedFor fault run.choices before.resumed.left before.resumed.faults now.resumed.faults → ⊥
  unrefused run NotLoaded is (inl rose) = not_risen _ _ none.loads rose
  unrefused run NotLoaded is (inr other) = absurd (let clash : NotLoaded ≡ BadSnapshotLine 1 = other.0 in cc)
  unrefused run OverLength is cause = absurd cc
  unrefused run (BadSnapshotLine number) is cause = absurd cc
  unrefused run NoRoomLeft is cause = absurd cc
  unrefused run LoadOutOfMemory is cause = absurd cc

  all_read : (run : Run) → RunEnding (Some ReadFault) run before now → ⊥
  all_read = not_run ReadFault before now (λ run from same stopped. not_risen _ _ none.reads stopped.0) unrefused

  not_unread : (choices : FollowChoices) (why : FollowStop) → ReadFault ≡ stop_of_follow why → StoppedFollowing why choices (follow_moment_at before) (follow_moment_at now) → ⊥
  not_unread choices NotFollowed is (inl taking) = not_risen _ _ none.reads taking.0.rose
  not_unread choices NotFollowed is (inr (NotWritten, clash, broken)) = absurd cc
  not_unread choices NotFollowed is (inr (UnwrittenOutOfMemory, clash, broken)) = absurd cc
  not_unread choices (BadRecord number cause) is stopped = absurd cc
  not_unread choices NotPrinted is stopped = absurd cc
  not_unread choices OverLimit is stopped = absurd cc
  not_unread choices NoPlace is stopped = absurd cc
  not_unread choices FollowOutOfMemory is stopped = absurd cc

pub no_read_fails : (lent : Lent) (printed : List ℕ) (kept : List (List ℕ)) → IsRun lent ReadFailed printed kept → ⊥
no_read_fails lent printed kept x = no_run lent ReadFailed printed kept x
    (λ either. by either)
    (all_read x.before x.now x.unfailed)
    (λ size ending. ending)
    (λ choices ending. not_unread x.before x.now x.unfailed choices ending.outcome.why ending.outcome.is ending.outcome.stopped)
  where
    by : (ReadFailed ≡ BadWords) ⊎ (ReadFailed ≡ OutOfMemory) → ⊥
    by (inl is) = absurd cc
    by (inr is) = absurd cc

-- ---- no write fails

module _ (before now : Moment) (none : HasNoFaults now) where
  unwritten : (run : Run) (from : Moment) → Stopped WriteFault run from now → ⊥
  unwritten run from (inl printing) = not_risen _ _ none.writes printing.0
  unwritten run from (inr saving) = not_risen _ _ none.saves saving.0

  no_load : (run : Run) (fault : LoadFault) → WriteFault ≡ stop_of_load fault → IsRefusedFor fault run.choices before.resumed.left before.resumed.faults now.resumed.faults → ⊥
  no_load run NotLoaded is cause = absurd cc
  no_load run OverLength is cause = absurd cc
  no_load run (BadSnapshotLine number) is cause = absurd cc
  no_load run NoRoomLeft is cause = absurd cc
  no_load run LoadOutOfMemory is cause = absurd cc

  all_written : (run : Run) → RunEnding (Some WriteFault) run before now → ⊥
  all_written = not_run WriteFault before now (λ run from same stopped. unwritten run from stopped) no_load

  not_cut : (choices : FollowChoices) (why : FollowStop) → WriteFault ≡ stop_of_follow why → StoppedFollowing why choices (follow_moment_at before) (follow_moment_at now) → ⊥
  not_cut choices NotPrinted is (inl taking) = absurd taking.0
  not_cut choices NotPrinted is (inr (NotWritten, clash, broken)) = not_risen _ _ none.writes (broken.cut_short.failed refl).1
  not_cut choices NotPrinted is (inr (UnwrittenOutOfMemory, clash, broken)) = absurd cc
  not_cut choices (BadRecord number cause) is stopped = absurd cc
  not_cut choices NotFollowed is stopped = absurd cc
  not_cut choices OverLimit is stopped = absurd cc
  not_cut choices NoPlace is stopped = absurd cc
  not_cut choices FollowOutOfMemory is stopped = absurd cc

pub no_write_fails : (lent : Lent) (printed : List ℕ) (kept : List (List ℕ)) → IsRun lent WriteFailed printed kept → ⊥
no_write_fails lent printed kept x = no_run lent WriteFailed printed kept x
    (λ either. by either)
    (all_written x.before x.now x.unfailed)
    (λ size ending. not_risen _ _ x.unfailed.writes (ending.cut_short.failed refl).1)
    (λ choices ending. not_cut x.before x.now x.unfailed choices ending.outcome.why ending.outcome.is ending.outcome.stopped)
  where
    by : (WriteFailed ≡ BadWords) ⊎ (WriteFailed ≡ OutOfMemory) → ⊥
    by (inl is) = absurd cc
    by (inr is) = absurd cc
