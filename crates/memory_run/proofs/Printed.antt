-- What a first run over memory that ended with Ok printed: its play is that of its deliveries from nothing, over the pages that are lent.
use Rattle.std.proofs.Common.{◌≡◌, refl, sym, subst, ◌∙◌, ap, ℕ, Bool, true, false, List, [], ◌++◌, Option, None, Some, IfSome, arith}
use Rattle.wq_io.specs.Streams.{after_known}
use Rattle.revisions.specs.Revisions.{Contents}
use Rattle.delivery.specs.declared.Delivery.{Delivery}
use Rattle.replay_model.specs.{Play.Replies, Records.Bytes, Replies.source_replies, Transcript.Sections}
use Rattle.graph_routes.specs.declared.routes.Route.{Route}
use Rattle.patch_stream.specs.Stream.{stream_text}
use Rattle.arguments.specs.Options.{closes, folder_of, max_bytes_of}
use Rattle.arguments.specs.declared.plan.Plan.{Plan}
use Rattle.arguments.specs.declared.plan.Plan.TheVariants.{Replay, Drill, Patches, Follow, Split}
use Rattle.run_model.specs.declared.report.Report.{Report}
use Rattle.run_model.specs.declared.report.Report.TheVariants.{Answers, Changes}
use Rattle.run_model.specs.{Course.closing_by, Course.course_ended, Course.course_printed, Headline.Ending, Headline.course_of, OneRun.deliveries_of, OneRun.state_ended, OneRun.steps_ended, Report.bytes_of}
use Rattle.run_model.specs.Moment.{Beginning, IsFirst, Moment, Run, horizon_at, no_numbers, run_of, sections_of, stage_in, start_of, world_at_start}
use Rattle.run_model.specs.{Reading.AreDeliveries, Taking.judgement}
use Rattle.run_model.proofs.FromNothing.{ended_first, led_first, said_by_first, steps_end_first, steps_first, stream_first, version_first}
use Rattle.run_model.specs.Plans.{IsRunOf}
use Rattle.session_laws.specs.Reruns.{NoFetchFails, replies_at, reported}
use Rattle.memory_run.specs.{Printed.IsPrinted, Printed.reported_from_nothing}
use Rattle.memory_run.specs.Runs.{HasNoFaults, IsAfter, IsBefore, Lent}

-- ---- what is reported of a first run

module _ (start : Beginning) (first : IsFirst start) (replies : Replies) (ds : List Delivery) (routes : Option (List Route)) where
  state_from : (closed : Bool) → (course_ended routes closed ds start).state replies ≡ state_ended closed (horizon_at start) replies ds
  state_from true = ended_first start first replies ds
  state_from false = led_first start first replies ds

  steps_from : (closed : Bool) → (course_ended routes closed ds start).steps replies ≡ steps_ended closed (horizon_at start) replies ds
  steps_from true = steps_end_first start first replies ds routes
  steps_from false = steps_first start first replies ds

  reported_from : (report : Report) (closed : Bool) (sections : Sections) → reported report routes closed sections ds start replies ≡ reported_from_nothing report routes closed sections (horizon_at start) replies ds
  reported_from Answers closed sections = λ i. said_by_first start first replies ds routes i ++ closing_by routes (version_first start first replies ds i) sections (state_from closed i).played
  reported_from Changes closed sections = stream_first start first ((course_ended routes closed ds start).steps replies) ∙ ap stream_text (steps_from closed)

-- what is reported stands behind what was written before
bytes_reported : (report : Report) (routes : Option (List Route)) (closed : Bool) (sections : Sections) (ds : List Delivery) (start : Beginning) (replies : Replies) →
    bytes_of report (course_printed routes closed sections ds start) start replies ≡ after_known start.output.bytes (reported report routes closed sections ds start replies)
bytes_reported Answers routes closed sections ds start replies = refl
bytes_reported Changes routes closed sections ds start replies = refl

-- ---- the run of a plan

-- a run of a plan is told the pages in its folder, and nothing was counted before it
pub record IsToldRun (contents : Contents) (run : Run) : Type 0 where
  pub known : run.environment.known ≡ Some (contents (folder_of run.choices))
  pub numbered : run.numbered ≡ no_numbers

told_by : (routes : Option (List Route)) (report : Report) (contents : Contents) (choices : _) → IsToldRun contents (run_of routes report (Some contents) choices)
told_by routes report contents choices = record { known = refl; numbered = refl }

pub told_run : (plan : Plan) (contents : Contents) (run : Run) → IsRunOf plan (Some contents) run → IsToldRun contents run
told_run (Replay choices) contents run is = subst (IsToldRun contents) (sym is) (told_by None Answers contents choices)
told_run (Patches choices) contents run is = subst (IsToldRun contents) (sym is) (told_by None Changes contents choices)
told_run (Split choices) contents run is = subst (IsToldRun contents) (sym is.is) (told_by (Some is.routes) Answers contents choices.replay)
told_run (Drill size) contents run is = absurd is
told_run (Follow choices) contents run is = absurd is

-- ---- what it printed

abbrev pub bytes_in : Option (List ℕ) → List ℕ
bytes_in None = []
bytes_in (Some bytes) = bytes

-- the moment at which a first run begins
abbrev pub begun_at : Run → Moment → Moment
begun_at run before = record before { stage = stage_in before.stage.output before.stage.counts (world_at_start run.choices) }

pub none_fails : (run : Run) (before now : Moment) → HasNoFaults before → HasNoFaults now → NoFetchFails (begun_at run before) now
none_fails run before now none none_now = record { same = none_now.fetches ∙ sym none.fetches; below = omega (arith, none_now.fetches) }

-- what session_laws says of runs without a failed fetch
abbrev pub IsFunctionOfContents : Type 0
IsFunctionOfContents = (run : Run) (before now : Moment) (contents : ℕ → Option Bytes) → (ending : Ending run before now) → run.environment.known ≡ Some contents → NoFetchFails before now →
    now.stage.output.bytes ≡ bytes_of run.environment.report (course_of run (deliveries_of ending) (start_of run before)) (start_of run before) (replies_at contents before)

module _ (law : IsFunctionOfContents) (lent : Lent) (run : Run) (told : IsToldRun lent.pages run) (before now : Moment) (begun : IsBefore lent before) (none : HasNoFaults before) (none_now : HasNoFaults now) (printed : List ℕ) (kept : List (List ℕ)) (left : IsAfter printed kept now)
    (ending : Ending run (begun_at run before) now) where
  abbrev start : Beginning
  start = start_of run (begun_at run before)

  abbrev contents : ℕ → Option Bytes
  contents = lent.pages (folder_of run.choices)

  first : IsFirst start
  first = record { world = refl; mapping = refl; numbered = told.numbered }

  pub first_printed : IsPrinted lent run printed
  first_printed = record {
    deliveries = ending.replayed.deliveries;
    are = subst (λ known. IfSome known (λ bytes. AreDeliveries (max_bytes_of run.choices) bytes ending.replayed.deliveries)) begun.input ending.replayed.are;
    is = ap bytes_in (sym left.printed_are
        ∙ law run (begun_at run before) now contents ending told.known (none_fails run before now none none_now)
        ∙ bytes_reported run.environment.report run.environment.routes (closes run.choices) (sections_of run.choices) ending.replayed.deliveries start (replies_at contents (begun_at run before))
        ∙ ap (λ known. after_known known (reported run.environment.report run.environment.routes (closes run.choices) (sections_of run.choices) ending.replayed.deliveries start (source_replies judgement contents []))) begun.printed)
        ∙ reported_from start first (source_replies judgement contents []) ending.replayed.deliveries run.environment.routes run.environment.report (closes run.choices) (sections_of run.choices);
  }
