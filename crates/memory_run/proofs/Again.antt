-- Runs over the same words, input, snapshot and pages that ended with Ok printed the same.
use Rattle.std.proofs.Common.{◌≡◌, refl, sym, subst, ◌∙◌, ap, inl, inr, ℕ, Bool, true, false, List, Option, None, Some, IsSome, arith, ◌⊎◌, bytes_eq, true≢false}
use Rattle.std.proofs.lemmas.Slice.Eq.{bytes_eq-Decides}
use Rattle.wq_io.specs.Streams.{after_known}
use Rattle.replay_model.specs.{Records.Bytes}
use Rattle.snapshot.specs.{File.saved_in_bytes, Whole.Saved}
use Rattle.checkpoint.specs.Saved.{saved_of, world_of}
use Rattle.world.specs.WorldState.{WorldState}
use Rattle.arguments.specs.Options.{FollowChoices, SplitChoices, folder_of, follow_max_bytes_of}
use Rattle.arguments.specs.{Plan.plan_of, declared.plan.Plan.Plan}
use Rattle.arguments.specs.declared.plan.Plan.TheVariants.{Replay, Drill, Patches, Follow, Split}
use Rattle.run_model.specs.declared.status.Status.TheVariants.{Ok as EndedWell, BadWords, OutOfMemory}
use Rattle.run_model.specs.Headline.{Ending}
use Rattle.run_model.specs.Moment.{Moment, Run, behind, limit_of}
use Rattle.run_model.specs.Resuming.{IsResumed, ResumeEnding, RunEnding, with_loaded}
use Rattle.run_model.proofs.Reading.{at_known}
use Rattle.following.specs.{Following.Ending as FollowedWell, Following.replica_text, Reading.AreRecords}
use Rattle.following.proofs.Refusals.{one_list}
use Rattle.replica.specs.{Laws.IsGreatest, Replica.after}
use Rattle.replica.proofs.Producers.{one_greatest}
use Rattle.run_model.specs.Plans.{IsRunOf}
use Rattle.session.specs.Plans.{IsNotUnderstood, summary_text}
use Rattle.session_laws.specs.Reruns.{AreTold, BeginAlike}
use Rattle.memory_run.specs.{Printed.NamesFewFailures, Runs.IsRun, Runs.Lent, Runs.follow_moment_at}
use Rattle.memory_run.proofs.Printed.{IsToldRun, begun_at, bytes_in, none_fails, told_run}

-- what session_laws says of runs that are made again
abbrev pub AreSameAgain : Type 0
AreSameAgain = (run : Run) (before now again done : Moment) (contents : ℕ → Option Bytes) (bytes : List ℕ) → BeginAlike before again → AreTold run contents bytes before now again done → Ending run before now → Ending run again done →
    before.stage.output.bytes ≡ again.stage.output.bytes → now.stage.output.bytes ≡ done.stage.output.bytes

module _ (law : AreSameAgain) (lent : Lent) (printed again : List ℕ) (kept kept_again : List (List ℕ)) (few : NamesFewFailures lent)
    (one : IsRun lent EndedWell printed kept) (two : IsRun lent EndedWell again kept_again) where
  -- what was printed is the same where the outputs are
  as_printed : one.now.stage.output.bytes ≡ two.now.stage.output.bytes → printed ≡ again
  as_printed same = ap bytes_in (sym one.left.printed_are ∙ same ∙ two.left.printed_are)

  nothing_before : one.before.stage.output.bytes ≡ two.before.stage.output.bytes
  nothing_before = one.begun.printed ∙ sym two.begun.printed

  -- ---- a run of a plan

  module _ (run : Run) (told : IsToldRun lent.pages run) where
    abbrev contents : ℕ → Option Bytes
    contents = lent.pages (folder_of run.choices)

    -- from nothing on
    from_nothing : Ending run (begun_at run one.before) one.now → Ending run (begun_at run two.before) two.now → printed ≡ again
    from_nothing first second = as_printed (law run (begun_at run one.before) one.now (begun_at run two.before) two.now contents lent.events
        (record { world = refl; version = refl })
        (record {
          known = told.known;
          left = one.begun.input;
          left_again = two.begun.input;
          unfailed = none_fails run one.before one.now one.unfailed_before one.unfailed;
          unfailed_again = none_fails run two.before two.now two.unfailed_before two.unfailed;
        })
        first second nothing_before)

    -- from the world of the snapshot on
    module _ (first : IsResumed None run one.before one.now) (second : IsResumed None run two.before two.now) where
      is_saved : saved_in_bytes lent.resumed ≡ Some (saved_of first.world first.numbers)
      is_saved = at_known one.before.resumed.left lent.resumed (λ bytes. saved_in_bytes bytes ≡ Some (saved_of first.world first.numbers)) one.begun.resumed first.loaded.saved

      is_saved_again : saved_in_bytes lent.resumed ≡ Some (saved_of second.world second.numbers)
      is_saved_again = at_known two.before.resumed.left lent.resumed (λ bytes. saved_in_bytes bytes ≡ Some (saved_of second.world second.numbers)) two.begun.resumed second.loaded.saved

      one_saved : saved_of first.world first.numbers ≡ saved_of second.world second.numbers
      one_saved = let same : Some (saved_of first.world first.numbers) ≡ Some (saved_of second.world second.numbers) = sym is_saved ∙ is_saved_again in cc

      one_world : first.world ≡ second.world
      one_world = first.loaded.is ∙ ap (world_of (limit_of run.choices)) one_saved ∙ sym second.loaded.is

      one_count : first.numbers ≡ second.numbers
      one_count = ap (λ (s : Saved). s.counts) one_saved

      abbrev begun : Moment
      begun = with_loaded one.before first.rest first.world

      abbrev begun_again : Moment
      begun_again = with_loaded two.before second.rest second.world

      from_snapshot : printed ≡ again
      from_snapshot = as_printed (law (behind first.numbers run) begun one.now begun_again two.now contents lent.events
          (record { world = ap (λ (w : WorldState). w.replay) (sym one_world); version = ap (λ (w : WorldState). w.mapping) (sym one_world) })
          (record {
            known = told.known;
            left = one.begun.input;
            left_again = two.begun.input;
            unfailed = record { same = one.unfailed.fetches ∙ sym one.unfailed_before.fetches; below = omega (arith, few _ is_saved, one.unfailed.fetches) };
            unfailed_again = record { same = two.unfailed.fetches ∙ sym two.unfailed_before.fetches; below = omega (arith, few _ is_saved_again, two.unfailed.fetches) };
          })
          first.ending.outcome
          (subst (λ n. Ending (behind n run) begun_again two.now) (sym one_count) second.ending.outcome)
          nothing_before)

    resumed_again : ResumeEnding None run one.before one.now → ResumeEnding None run two.before two.now → printed ≡ again
    resumed_again (inr first) (inr second) = from_snapshot first second
    resumed_again (inl first) second = absurd (none-some first.is)
      where
        none-some : {A : Type 0} {x : A} → None ≡ Some x → ⊥
        none-some is = cc
    resumed_again (inr first) (inl second) = absurd (none-some second.is)
      where
        none-some : {A : Type 0} {x : A} → None ≡ Some x → ⊥
        none-some is = cc

    of_run : RunEnding None run one.before one.now → RunEnding None run two.before two.now → printed ≡ again
    of_run first second = by run.choices.resume refl
      where
        by : (o : Option _) → run.choices.resume ≡ o → printed ≡ again
        by None is = from_nothing (first.begun is).outcome (second.begun is).outcome
        by (Some name) is = resumed_again (first.resumed (subst IsSome (sym is) refl)) (second.resumed (subst IsSome (sym is) refl))

  -- ---- a drill and a follower

  of_drill : (size : ℕ) → plan_of lent.words ≡ Some (Drill size) → printed ≡ again
  of_drill size is = as_printed ((one.ended.drill size is).says ∙ ap (λ known. after_known known (summary_text size)) nothing_before ∙ sym (two.ended.drill size is).says)

  module _ (choices : FollowChoices) (first : FollowedWell choices (follow_moment_at one.before) (follow_moment_at one.now)) (second : FollowedWell choices (follow_moment_at two.before) (follow_moment_at two.now)) where
    one_items : first.items ≡ second.items
    one_items = (one_list _ first.items second.items None None
        (at_known one.before.input.left lent.events (λ bytes. AreRecords (follow_max_bytes_of choices) bytes first.items None) one.begun.input first.followed.are).are
        (at_known two.before.input.left lent.events (λ bytes. AreRecords (follow_max_bytes_of choices) bytes second.items None) two.begun.input second.followed.are).are).0

    one_applied : first.applied ≡ second.applied
    one_applied = one_greatest second.items first.applied second.applied (subst (λ items. IsGreatest items first.applied) one_items first.followed.greatest) second.followed.greatest

    of_records : printed ≡ again
    of_records = as_printed (first.printed
        ∙ (λ i. after_known (nothing_before i) (replica_text choices.export (one_applied i) (after (one_items i) (one_applied i))))
        ∙ sym second.printed)

  -- ---- any of them

  of_plan : (plan : Plan) → plan_of lent.words ≡ Some plan → (run : Run) → IsRunOf plan (Some lent.pages) run → printed ≡ again
  of_plan plan is run is_run = of_run run (told_run plan lent.pages run is_run) (one.ended.replay plan is run is_run) (two.ended.replay plan is run is_run)

  -- words that aren't understood don't end with Ok
  understood : (IsNotUnderstood lent.words) → ⊥
  understood not = by (one.ended.not_understood not).0
    where
      by : (EndedWell ≡ BadWords) ⊎ (EndedWell ≡ OutOfMemory) → ⊥
      by (inl is) = absurd (let refused : EndedWell ≡ BadWords = is in cc)
      by (inr is) = absurd (let refused : EndedWell ≡ OutOfMemory = is in cc)

  of_split : (choices : SplitChoices) → plan_of lent.words ≡ Some (Split choices) → (b : Bool) → bytes_eq printed again ≡ b → printed ≡ again
  of_split choices is true same = (bytes_eq-Decides printed again).0 same
  of_split choices is false differ = absurd (understood (inr (record {
    choices = choices;
    plan = is;
    none = λ routes are. true≢false (sym ((bytes_eq-Decides printed again).1 (of_plan (Split choices) is _ (record { routes = routes; are = are; is = refl }))) ∙ differ);
  })))

  by_words : (asked : Option Plan) → plan_of lent.words ≡ asked → printed ≡ again
  by_words None is = absurd (understood (inl is))
  by_words (Some (Replay choices)) is = of_plan (Replay choices) is _ refl
  by_words (Some (Patches choices)) is = of_plan (Patches choices) is _ refl
  by_words (Some (Drill size)) is = of_drill size is
  by_words (Some (Follow choices)) is = of_records choices (one.ended.follow choices is).outcome (two.ended.follow choices is).outcome
  by_words (Some (Split choices)) is = of_split choices is (bytes_eq printed again) refl

  pub printed_again : printed ≡ again
  printed_again = by_words (plan_of lent.words) refl
