-- What stands where what was taken is printed and saved, wholly or not.
use Rattle.std.proofs.Common.{refl, sym, subst, ◌∙◌, ap, inl, inr, ◌≡◌, ℕ, ◌-◌, ◌^◌, ◌<◌, ◌≤◌, Bool, true, false, List, [], ◌++◌, Option, None, Some, IsSome, ◌⊎◌, Ok, Err}
use Rattle.wq_io.specs.Streams.{after_known}
use Rattle.delivery.specs.declared.Delivery.{Delivery}
use Rattle.replay_model.specs.{Records.Bytes, Play.Replies, Replies.failed_events, Replies.source_replies, ReplayState.ReplayState}
use Rattle.replay_model.specs.{Transcript.Sections, Versions.meaning_by}
use Rattle.graph_routes.specs.declared.routes.Route.{Route}
use Rattle.text_output.specs.declared.write.Unwritten.{Unwritten}
use Rattle.text_output.specs.declared.write.Unwritten.TheVariants.{WriteFault as NotWritten, OutOfMemory}
use Rattle.text_output.specs.Printing.{Output, Prints}
use Rattle.checkpoint.specs.{Archive.Archive, Archive.Keeps, Keeping.with_snapshot}
use Rattle.text_output.proofs.Parts.{after_twice}
use Rattle.snapshot.specs.declared.counts.Counts.{Counts}
use Rattle.fetched_pages.specs.Meaning.{meaning}
use Rattle.run_model.specs.Course.{closing_by, closing_held, said_by, Course, course_ended, course_printed, version_at}
use Rattle.run_model.specs.Headline.{Ending, HasPrinted, IsFunction, IsReplayed, KeepsOnTheWay, LeavesSnapshot, Stopped, Unsaved, course_of}
use Rattle.run_model.specs.Moment.{Beginning, IsFirst, Moment, Run, Environment, Stage, standing, start_of, with_output, sections_of, HasSaved, numbers_of, snapshot_text, up_to_saves}
use Rattle.run_model.specs.{Report.bytes_of, Stop.MayLeavePart, Stop.stop_of_unwritten, declared.report.Report.Report}
use Rattle.run_model.specs.declared.report.Report.TheVariants.{Answers, Changes}
use Rattle.run_model.specs.{Taking.judgement, Taking.replies_there, Delivering.HasTakenAll, Delivering.PrintsClosing}
use Rattle.run_model.specs.declared.stop.Stop.{Stop}
use Rattle.arguments.specs.Options.{Choices, closes}
use Rattle.run_model.specs.Stop.{MayKeep}
use Rattle.run_model.proofs.Ends.{broken_off, none_failed, none_named_first, prints_asked, save_stops}

-- what the output has where questions are answered
bytes_answered : (report : Report) (course : Course) (start : Beginning) (replies : Replies) → report ≡ Answers → bytes_of report course start replies ≡ course.bytes replies
bytes_answered report course start replies answers = ap (λ r. bytes_of r course start replies) answers

-- and where changes are reported: the sections are none of it
bytes_told : (routes : Option (List Route)) (report : Report) (closed : Bool) (sections : Sections) (ds : List Delivery) (start : Beginning) (replies : Replies) → report ≡ Changes →
    bytes_of report (course_ended routes closed ds start) start replies ≡ bytes_of report (course_printed routes closed sections ds start) start replies
bytes_told routes report closed sections ds start replies changed =
    ap (λ r. bytes_of r (course_ended routes closed ds start) start replies) changed ∙ ap (λ r. bytes_of r (course_printed routes closed sections ds start) start replies) (sym changed)

-- where the output has what is reported of the play and its sections, all that a run leaves is there
module _ (environment : Environment) (closed : Bool) (sections : Sections) (ds : List Delivery) (start : Beginning) (now : Stage) (out : Output) (replay : IsReplayed environment (course_ended environment.routes closed ds start) ds start now)
    (says : (replies : Replies) → now.world ≡ (course_ended environment.routes closed ds start).state replies → now.output.bytes ≡ bytes_of environment.report (course_ended environment.routes closed ds start) start replies →
    out.bytes ≡ bytes_of environment.report (course_printed environment.routes closed sections ds start) start replies) (handed : now.output.waits ≡ false → out.waits ≡ false) where
  says_there : (contents : ℕ → Option Bytes) → environment.known ≡ Some contents → out.bytes ≡ bytes_of environment.report (course_printed environment.routes closed sections ds start) start (replies_there contents now.world)
  says_there contents is = says (replies_there contents now.world) (replay.played.source contents is) (replay.played.source_says contents is)

  -- where no fetch failed, world and output are functions of the sections, the deliveries and the contents
  is_function : IsFunction environment (course_printed environment.routes closed sections ds start) start (with_output now out)
  is_function =
      let none : IsFirst start → now.counts.faults ≡ start.counts.faults → now.counts.faults < 2 ^ 64 - 1 → failed_events now.world.played.side ≡ [] =
      λ first. none_failed (failed_events now.world.played.side) _ start.counts.faults now.counts.faults replay.played.counted.failed (none_named_first start first) in
      record {
        world_is = λ first contents is same below. replay.played.source contents is ∙ ap (λ failed. (course_ended environment.routes closed ds start).state (source_replies judgement contents failed)) (none first same below);
        output_is = λ first contents is same below.
            says_there contents is ∙ ap (λ failed. bytes_of environment.report (course_printed environment.routes closed sections ds start) start (source_replies judgement contents failed)) (none first same below);
      }

  -- the play says all of it
  abbrev all_printed : IsReplayed environment (course_printed environment.routes closed sections ds start) ds start (with_output now out)
  all_printed = record {
    played = record {
      replies = replay.played.replies;
      fit = replay.played.fit;
      is = replay.played.is;
      handed = λ quiet. handed (replay.played.handed quiet);
      says = says replay.played.replies replay.played.is replay.played.says;
      roomed = replay.played.roomed;
      documents = replay.played.documents;
      applied = replay.played.applied;
      mapped = replay.played.mapped;
      counted = replay.played.counted;
      source = replay.played.source;
      source_says = says_there;
      source_roomed = replay.played.source_roomed;
      source_changes = replay.played.source_changes;
      source_counted = replay.played.source_counted;
    };
    fates = replay.fates;
    holds = replay.holds;
    names = replay.names;
  }

-- the play that a run makes before it prints the sections
abbrev course_before : Run → List Delivery → Beginning → Course
course_before run ds start = course_ended run.environment.routes (closes run.choices) ds start

printed : (run : Run) (numbers : Counts) (before now : Moment) (out : Output) (taken : HasTakenAll run numbers before now) →
    ((replies : Replies) → now.stage.world ≡ (course_before run taken.replayed.deliveries (start_of run before)).state replies →
    now.stage.output.bytes ≡ bytes_of run.environment.report (course_before run taken.replayed.deliveries (start_of run before)) (start_of run before) replies →
    out.bytes ≡ bytes_of run.environment.report (course_of run taken.replayed.deliveries (start_of run before)) (start_of run before) replies) → (now.stage.output.waits ≡ false → out.waits ≡ false) → HasPrinted run numbers before (record now { stage = with_output now.stage out })
printed run numbers before now out taken says handed =
    let sections : Sections = sections_of run.choices in
    let ds : List Delivery = taken.replayed.deliveries in
    record {
      replayed = record { deliveries = ds; read = taken.replayed.read; are = taken.replayed.are; replay = all_printed run.environment (closes run.choices) sections ds (start_of run before) now.stage out taken.replayed.replay says handed };
      function = is_function run.environment (closes run.choices) sections ds (start_of run before) now.stage out taken.replayed.replay says handed;
      kept = taken.kept;
      counted = taken.counted;
    }

-- the answers and the sections were printed
pub printed_answers : (run : Run) (numbers : Counts) (before now : Moment) (out : Output) → run.environment.report ≡ Answers → (taken : HasTakenAll run numbers before now) →
    Prints (closing_by run.environment.routes (version_at taken.replayed.deliveries (start_of run before)) (sections_of run.choices) now.stage.world.played) now.stage.output out (Ok tt) →
    HasPrinted run numbers before (record now { stage = with_output now.stage out })
printed_answers run numbers before now out answers taken prints =
    let routes : Option (List Route) = run.environment.routes in
    let closed : Bool = closes run.choices in
    let ds : List Delivery = taken.replayed.deliveries in
    let start : Beginning = start_of run before in
    let sections : Sections = sections_of run.choices in
    printed run numbers before now out taken (λ replies is says.
    prints.outcome ∙ ap (λ b. after_known b (closing_by routes (version_at ds start) sections now.stage.world.played))
    (says ∙ bytes_answered run.environment.report (course_ended routes closed ds start) start replies answers)
    ∙ after_twice start.output.bytes (said_by routes replies (standing start) ds) (closing_by routes (version_at ds start) sections now.stage.world.played)
    ∙ ap (λ (w : ReplayState). after_known start.output.bytes (said_by routes replies (standing start) ds ++ closing_by routes (version_at ds start) sections w.played)) is
    ∙ sym (bytes_answered run.environment.report (course_printed routes closed sections ds start) start replies answers))
    prints.leaves

-- the records of changes were printed
pub printed_changes : (run : Run) (numbers : Counts) (before now : Moment) → run.environment.report ≡ Changes → HasTakenAll run numbers before now → HasPrinted run numbers before now
printed_changes run numbers before now changed taken =
    printed run numbers before now now.stage.output taken
    (λ replies is says. says ∙ bytes_told run.environment.routes run.environment.report (closes run.choices) (sections_of run.choices) taken.replayed.deliveries (start_of run before) replies changed)
    (λ quiet. quiet)

-- what is printed at the end of a stage
abbrev pub end_text : Run → Stage → List ℕ
end_text run now = closing_held run.environment.routes (meaning_by meaning now.mapped.by_two) (sections_of run.choices) now.world.played

-- all that is reported was printed
pub reported : (report : Report) (run : Run) (numbers : Counts) (before now : Moment) (out : Output) → run.environment.report ≡ report → HasTakenAll run numbers before now → PrintsClosing report (end_text run now.stage) now.stage.output out (Ok tt) →
    HasPrinted run numbers before (record now { stage = with_output now.stage out })
reported Answers run numbers before now out is taken prints =
    printed_answers run numbers before now out is taken (prints_asked run.environment.routes _ (sections_of run.choices) now.stage.mapped now.stage.world.played _ _ _ taken.replayed.replay.played.mapped prints)
reported Changes run numbers before now out is taken prints = subst (λ o. HasPrinted run numbers before (record now { stage = with_output now.stage o })) (sym prints.1) (printed_changes run numbers before now is taken)

-- or not
pub unreported : (report : Report) (why : Unwritten) (run : Run) (numbers : Counts) (before now : Moment) (out : Output) → run.environment.report ≡ report → before.stage.output.faults ≤ now.stage.output.faults → HasTakenAll run numbers before now →
    PrintsClosing report (end_text run now.stage) now.stage.output out (Err why) → Stopped (stop_of_unwritten why) run before (record now { stage = with_output now.stage out })
unreported Answers why run numbers before now out is earlier taken prints =
    broken_off why run before now out is taken.replayed taken.kept earlier (prints_asked run.environment.routes _ (sections_of run.choices) now.stage.mapped now.stage.world.played _ _ _ taken.replayed.replay.played.mapped prints)
unreported Changes why run numbers before now out is earlier taken prints =
    let never : Err why ≡ Ok tt = prints.0 in
    cc

-- the input ends the deliveries, and nothing is saved behind them
pub ending_closed : (run : Run) (numbers : Counts) (before now : Moment) → closes run.choices ≡ true → HasPrinted run numbers before now → Ending run before now
ending_closed run numbers before now closed p = record {
  replayed = p.replayed;
  function = p.function;
  on_the_way = now.snapshot.kept;
  kept = p.kept;
  saved = subst (λ b. HasSaved b text now.snapshot.kept now.snapshot.kept) (sym closed) refl;
}
  where
    text : List ℕ
    text = snapshot_text (numbers_of run.environment.report (course_of run p.replayed.deliveries (start_of run before)).steps p.replayed.deliveries (start_of run before) p.replayed.replay.played.replies) now.stage

-- the world was saved
pub ending_saved : (run : Run) (numbers : Counts) (before now : Moment) (file : Archive) → closes run.choices ≡ false → HasPrinted run numbers before now →
    Keeps (snapshot_text numbers now.stage) now.snapshot file (Ok tt) → Ending run before (record now { snapshot = file })
ending_saved run numbers before now file open_still p keeps = record {
  replayed = record { deliveries = p.replayed.deliveries; read = p.replayed.read; are = p.replayed.are; replay = p.replayed.replay };
  function = p.function;
  on_the_way = now.snapshot.kept;
  kept = p.kept;
  saved = subst (λ b. HasSaved b (text (numbers_of run.environment.report (course_of run p.replayed.deliveries (start_of run before)).steps p.replayed.deliveries (start_of run before) p.replayed.replay.played.replies)) now.snapshot.kept file.kept) (sym open_still)
      (subst (λ n. file.kept ≡ with_snapshot now.snapshot.kept (text n)) (p.counted open_still) keeps.outcome);
}
  where
    text : Counts → List ℕ
    text n = snapshot_text n now.stage

-- the snapshot wasn't kept
unsaved : (why : Unwritten) (run : Run) (numbers : Counts) (before now : Moment) (file : Archive) → closes run.choices ≡ false → HasPrinted run numbers before now →
    Keeps (snapshot_text numbers now.stage) now.snapshot file (Err why) → Unsaved run before (record now { snapshot = file })
unsaved why run numbers before now file open_still p keeps = record {
  saves = open_still;
  numbers = numbers;
  printed = record {
    replayed = record { deliveries = p.replayed.deliveries; read = p.replayed.read; are = p.replayed.are; replay = p.replayed.replay };
    function = p.function;
    kept = subst (λ k. KeepsOnTheWay run (start_of run before) (up_to_saves run.choices.every p.replayed.deliveries) before.snapshot.kept k) (sym keeps.outcome.0) p.kept;
    counted = p.counted;
  };
}

-- at the end
pub stopped_unsaved : (why : Unwritten) (run : Run) (numbers : Counts) (before now : Moment) (file : Archive) → closes run.choices ≡ false → before.snapshot.faults ≤ now.snapshot.faults → HasPrinted run numbers before now →
    Keeps (snapshot_text numbers now.stage) now.snapshot file (Err why) → Stopped (stop_of_unwritten why) run before (record now { snapshot = file })
stopped_unsaved why run numbers before now file open_still earlier p keeps =
    save_stops why run before (record now { snapshot = file }) now.snapshot earlier keeps.outcome.1 (inl (unsaved why run numbers before now file open_still p keeps))

-- while it saved the world at the end
pub leaves_part : (why : Unwritten) (run : Run) (numbers : Counts) (before now : Moment) (file : Archive) → closes run.choices ≡ false → HasPrinted run numbers before now →
    Keeps (snapshot_text numbers now.stage) now.snapshot file (Err why) → LeavesSnapshot (stop_of_unwritten why) run before (record now { snapshot = file })
leaves_part why run numbers before now file open_still p keeps = inr (why, refl, unsaved why run numbers before now file open_still p keeps)

-- a run that stopped while it wrote may have begun a snapshot
pub may_leave : (why : Unwritten) → MayLeavePart (stop_of_unwritten why)
may_leave NotWritten = tt
may_leave OutOfMemory = tt

-- either snapshots are kept on the way, or none was kept
pub kept_or_not : {Same : Type 0} (choices : Choices) (stopped : Option Stop) → (choices.every ≡ None → Same) → MayKeep choices stopped ⊎ Same
kept_or_not {Same} choices stopped same = by choices.every refl
  where
    by : (every : Option ℕ) → choices.every ≡ every → MayKeep choices stopped ⊎ Same
    by None none = inr (same none)
    by (Some n) some = inl (inl (subst (λ (o : Option ℕ). IsSome o) (sym some) refl))
