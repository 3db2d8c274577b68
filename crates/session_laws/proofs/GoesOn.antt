-- A run that goes on from bytes that another run saved.
use Rattle.std.proofs.Common.{◌≡◌, refl, sym, subst, ◌∙◌, ap, ℕ, false, List, [], ◌++◌, Option, None, Some, IfSome, IsSome}
use Rattle.wq_io.specs.Streams.{after_known}
use Rattle.delivery.specs.declared.Delivery.{Delivery}
use Rattle.replay_model.specs.{Play.Replies, Transcript.said}
use Rattle.fetched_pages.specs.Meaning.{meaning}
use Rattle.patch_stream.specs.Stream.{changes, steps_of_play, stream_text}
use Rattle.snapshot.specs.{File.saved_in_bytes, Whole.Saved, declared.counts.Counts.Counts}
use Rattle.world.specs.{Limit.Limit, WorldState.WorldState}
use Rattle.checkpoint.specs.Saved.{saved_of}
use Rattle.following.specs.Input.{Input}
use Rattle.arguments.specs.Options.{closes}
use Rattle.run_model.specs.declared.report.Report.TheVariants.{Answers, Changes}
use Rattle.run_model.specs.{declared.status.Status.Status, declared.stop.Stop.Stop}
use Rattle.run_model.specs.Headline.{Ending, HasFates, numbers_saved}
use Rattle.run_model.specs.Moment.{Moment, Run, Stage, behind, start_in, start_of, sections_of, HasSaved, kept_last, saved_at, snapshot_text, limit_of}
use Rattle.run_model.specs.OneRun.{CountsQuestions, HoldsAndNames, StandsAfter, printed_by, printed_in_all, said_from_start, state_ended, steps_ended, TwoRuns, all_deliveries, all_replies, first_deliveries, first_replies, horizon_of}
use Rattle.run_model.specs.{Resuming.IsResumed, Resuming.IsSnapshotOf, Resuming.with_loaded, Stop.stop_of}
use Rattle.run_model.proofs.{Reading.at_known, Saves.last_kept}
use Rattle.session_laws.proofs.OneRun.{fates_are, first_counts, first_patches, first_stands, holds_are, next_counts, next_patches, next_stands, prints_by, prints_rest, streams_rest, world_is}

-- such bytes give back one world with one set of counts
pub begins_at : (stopped : Option Stop) (run : Run) (before now : Moment) (stage : Stage) (numbers : Counts) (resumed : IsResumed stopped run before now) → IfSome before.resumed.left (λ bytes. saved_in_bytes bytes ≡ Some (saved_at stage numbers)) →
    IsSome before.resumed.left → saved_of resumed.world resumed.numbers ≡ saved_at stage numbers
begins_at stopped run before now stage numbers resumed saved told = by before.resumed.left told resumed.loaded.saved saved
  where
    by : (left : Option (List ℕ)) → IsSome left → IfSome left (λ bytes. saved_in_bytes bytes ≡ Some (saved_of resumed.world resumed.numbers)) → IfSome left (λ bytes. saved_in_bytes bytes ≡ Some (saved_at stage numbers)) →
        saved_of resumed.world resumed.numbers ≡ saved_at stage numbers
    by None never here there = cc
    by (Some bytes) told here there =
        let same : Some (saved_of resumed.world resumed.numbers) ≡ Some (saved_at stage numbers) = sym here ∙ there in
        cc

stands_there : (run : Run) (before : Moment) (rest : Input) (world : WorldState) (counts : Counts) (stage : Stage) (numbers : Counts) → saved_of world counts ≡ saved_at stage numbers →
    (h : Option ℕ) (replies : Replies) (ds : List Delivery) → StandsAfter h replies ds (start_in numbers stage) → StandsAfter h replies ds (start_of (behind counts run) (with_loaded before rest world))
stands_there run before rest world counts stage numbers same h replies ds stands = record {
  world = ap (λ (s : Saved). s.state) same ∙ stands.world;
  version = ap (λ (s : Saved). s.version) same ∙ stands.version;
}

counts_same : (world : WorldState) (counts : Counts) (stage : Stage) (numbers : Counts) → saved_of world counts ≡ saved_at stage numbers → counts ≡ numbers
counts_same world counts stage numbers same = ap (λ (s : Saved). s.counts) same

pub begins_there : (status : Status) (run : Run) (before now : Moment) (stage : Stage) (numbers : Counts) (bytes : List ℕ) (resumed : IsResumed (stop_of status) run before now) →
    before.resumed.left ≡ Some bytes → saved_in_bytes bytes ≡ Some (saved_at stage numbers) →
    (h : Option ℕ) (replies : Replies) (ds : List Delivery) → StandsAfter h replies ds (start_in numbers stage) →
    StandsAfter h replies ds (start_of (behind resumed.numbers run) (with_loaded before resumed.rest resumed.world)) × (resumed.numbers ≡ numbers)
begins_there status run before now stage numbers bytes resumed left saved h replies ds stands =
    let Told : Option (List ℕ) → Type 0 = λ o. IfSome o (λ b. saved_in_bytes b ≡ Some (saved_at stage numbers)) in
    let same : saved_of resumed.world resumed.numbers ≡ saved_at stage numbers = begins_at (stop_of status) run before now stage numbers resumed (subst Told (sym left) saved) (subst (λ (o : Option (List ℕ)). IsSome o) (sym left) refl) in
    (stands_there run before resumed.rest resumed.world resumed.numbers stage numbers same h replies ds stands, counts_same resumed.world resumed.numbers stage numbers same)

-- the same of a world that was loaded of such bytes
pub loads_same : (limit : Limit) (from : Option (List ℕ)) (world : WorldState) (counts : Counts) (stage : Stage) (numbers : Counts) (bytes : List ℕ) → IsSnapshotOf from limit world counts →
    from ≡ Some bytes → saved_in_bytes bytes ≡ Some (saved_at stage numbers) → saved_of world counts ≡ saved_at stage numbers
loads_same limit from world counts stage numbers bytes loaded left saved =
    let here : saved_in_bytes bytes ≡ Some (saved_of world counts) = at_known from bytes (λ b. saved_in_bytes b ≡ Some (saved_of world counts)) left loaded.saved in
    let alike : Some (saved_of world counts) ≡ Some (saved_at stage numbers) = sym here ∙ saved in
    cc

pub loads_there : (run : Run) (before : Moment) (rest : Input) (world : WorldState) (counts : Counts) (stage : Stage) (numbers : Counts) (bytes : List ℕ) → IsSnapshotOf before.resumed.left (limit_of run.choices) world counts →
    before.resumed.left ≡ Some bytes → saved_in_bytes bytes ≡ Some (saved_at stage numbers) →
    (h : Option ℕ) (replies : Replies) (ds : List Delivery) → StandsAfter h replies ds (start_in numbers stage) → StandsAfter h replies ds (start_of (behind counts run) (with_loaded before rest world)) × (counts ≡ numbers)
loads_there run before rest world counts stage numbers bytes loaded left saved h replies ds stands =
    let same = loads_same (limit_of run.choices) before.resumed.left world counts stage numbers bytes loaded left saved in
    (stands_there run before rest world counts stage numbers same h replies ds stands, counts_same world counts stage numbers same)

-- what a run saves is told where snapshots are
pub saved_told : (run : Run) (before now : Moment) (ending : Ending run before now) → closes run.choices ≡ false → IsSome before.snapshot.kept → IsSome (kept_last now.snapshot)
saved_told run before now ending open_still told =
    let text : List ℕ = snapshot_text (numbers_saved ending) now.stage in
    subst (λ (o : Option (List ℕ)). IsSome o)
    (sym (last_kept run (start_of run before) _ before.snapshot.kept ending.on_the_way now.snapshot text told ending.kept (subst (λ closed. HasSaved closed text ending.on_the_way now.snapshot.kept) open_still ending.saved))) refl

module _ (one two : Run) (before_one now_one before_two now_two : Moment) (runs : TwoRuns one two before_one now_one before_two now_two) (saved : IfSome (kept_last now_one.snapshot) (λ bytes. saved_in_bytes bytes ≡ Some (saved_at now_one.stage (numbers_saved runs.first)))) where
  abbrev behind_one : Run
  behind_one = behind runs.second.numbers two

  abbrev loaded : Moment
  loaded = with_loaded before_two runs.second.rest runs.second.world

  abbrev outcome : Ending behind_one loaded now_two
  outcome = runs.second.ending.outcome

  first_stood : StandsAfter (horizon_of runs) (first_replies runs) [] (start_of one before_one)
  first_stood = first_stands (start_of one before_one) runs.is_first (first_replies runs)

  there : saved_of runs.second.world runs.second.numbers ≡ saved_at now_one.stage (numbers_saved runs.first)
  there =
      let Told : Option (List ℕ) → Type 0 = λ o. IfSome o (λ b. saved_in_bytes b ≡ Some (saved_at now_one.stage (numbers_saved runs.first))) in
      begins_at None two before_two now_two now_one.stage (numbers_saved runs.first) runs.second (subst Told (sym runs.same) saved)
      (subst (λ (o : Option (List ℕ)). IsSome o) (sym runs.same) (saved_told one before_one now_one runs.first runs.open_still runs.told))

  stands : StandsAfter (horizon_of runs) (first_replies runs) (first_deliveries runs) (start_of behind_one loaded)
  stands = stands_there two before_two runs.second.rest runs.second.world runs.second.numbers now_one.stage (numbers_saved runs.first) there (horizon_of runs) (first_replies runs) (first_deliveries runs)
      (next_stands (horizon_of runs) (first_replies runs) [] one before_one now_one first_stood runs.first runs.open_still)

  numbers_are : runs.second.numbers ≡ numbers_saved runs.first
  numbers_are = counts_same runs.second.world runs.second.numbers now_one.stage (numbers_saved runs.first) there

  pub world_of_both : now_two.stage.world ≡ state_ended (closes two.choices) (horizon_of runs) (all_replies runs) (all_deliveries runs)
  world_of_both = world_is (horizon_of runs) (first_replies runs) (first_deliveries runs) behind_one loaded now_two stands outcome

  pub fates_of_both : HasFates (closes two.choices) (horizon_of runs) (all_deliveries runs) now_two.stage.world
  fates_of_both = fates_are (horizon_of runs) (first_replies runs) (first_deliveries runs) behind_one loaded now_two stands outcome

  pub holds_of_both : HoldsAndNames (horizon_of runs) (all_deliveries runs) now_two.stage.world
  holds_of_both = holds_are (horizon_of runs) (first_replies runs) (first_deliveries runs) behind_one loaded now_two stands outcome

  pub printed_by_both : one.environment.report ≡ Answers → two.environment.report ≡ Answers → two.environment.routes ≡ None →
      (rest : List ℕ) × (now_two.stage.output.bytes ≡ after_known before_two.stage.output.bytes rest)
      × (said meaning (horizon_of runs) (first_replies runs) (first_deliveries runs) ++ rest
      ≡ printed_in_all (closes two.choices) (sections_of two.choices) (horizon_of runs) (all_replies runs) (all_deliveries runs))
  printed_by_both one_answers two_answers whole =
      prints_rest (horizon_of runs) (first_replies runs) (first_deliveries runs) behind_one loaded now_two stands outcome two_answers
      (subst (λ n. CountsQuestions (first_deliveries runs) n) (sym numbers_are)
      (next_counts (horizon_of runs) (first_replies runs) [] one before_one now_one first_stood runs.first one_answers (first_counts (start_of one before_one) runs.is_first)))
      whole

  pub printed_by_routes : one.environment.report ≡ Answers → two.environment.report ≡ Answers →
      (rest : List ℕ) × (now_two.stage.output.bytes ≡ after_known before_two.stage.output.bytes rest)
      × (said_from_start two.environment.routes (horizon_of runs) (first_replies runs) (first_deliveries runs) ++ rest
      ≡ printed_by two.environment.routes (closes two.choices) (sections_of two.choices) (horizon_of runs) (all_replies runs) (all_deliveries runs))
  printed_by_routes one_answers two_answers =
      prints_by (horizon_of runs) (first_replies runs) (first_deliveries runs) behind_one loaded now_two stands outcome two_answers
      (subst (λ n. CountsQuestions (first_deliveries runs) n) (sym numbers_are)
      (next_counts (horizon_of runs) (first_replies runs) [] one before_one now_one first_stood runs.first one_answers (first_counts (start_of one before_one) runs.is_first)))

  pub streamed_by_both : one.environment.report ≡ Changes → two.environment.report ≡ Changes →
      (rest : List ℕ) × (now_two.stage.output.bytes ≡ after_known before_two.stage.output.bytes rest)
      × (stream_text (steps_of_play (horizon_of runs) (first_replies runs) (first_deliveries runs)) ++ rest
      ≡ stream_text (steps_ended (closes two.choices) (horizon_of runs) (all_replies runs) (all_deliveries runs)))
  streamed_by_both one_changes two_changes =
      streams_rest (horizon_of runs) (first_replies runs) (first_deliveries runs) behind_one loaded now_two stands outcome two_changes
      (ap (λ (n : Counts). n.patches) numbers_are
      ∙ next_patches (horizon_of runs) (first_replies runs) [] one before_one now_one first_stood runs.first one_changes (first_patches (start_of one before_one) runs.is_first (first_replies runs))
      ∙ ap (λ closed. changes (steps_ended closed (horizon_of runs) (first_replies runs) (first_deliveries runs))) runs.open_still)
