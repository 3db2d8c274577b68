-- Patch streams that go on from one another, from where the one before them ended or was cut off behind a snapshot.
use Rattle.std.specs.Prelude.{◌≡◌, ℕ, zero, suc, Bool, false, List, [], ◌∷◌, ◌++◌, filter, Option, None, Some}
use Rattle.rdf_term.specs.declared.triple.Triple.{Triple}
use Rattle.delivery.specs.declared.Delivery.{Delivery}
use Rattle.world.specs.WorldState.{WorldState}
use Rattle.replay_model.specs.{Acceptance.version_in_force, Play.Replies}
use Rattle.patch_stream.specs.Stream.{Step, changes, is_change}
use Rattle.snapshot.specs.{declared.counts.Counts.Counts, File.saved_in_bytes}
use Rattle.following.specs.Input.{Input}
use Rattle.arguments.specs.Options.{closes}
use Rattle.run_model.specs.{declared.report.Report.TheVariants.Changes, Course.course_after}
use Rattle.run_model.specs.Headline.{Ending, IsSnapshotBehind, numbers_behind, numbers_saved}
use Rattle.run_model.specs.Moment.{Beginning, IsFirst, Moment, Run, Stage, behind, saved_at, start_in, start_of, limit_of}
use Rattle.run_model.specs.{OneRun.StandsAfter, OneRun.state_ended, OneRun.steps_ended, Remapping.mapped_by}
use Rattle.run_model.specs.Resuming.{IsResumed, IsSnapshotOf, with_loaded}
use Rattle.session_laws.specs.Complete.{steps_made}

-- the steps that a run made until it kept this snapshot
abbrev pub steps_behind : {run : Run} {start : Beginning} {taken : List Delivery} {text : List ℕ} → IsSnapshotBehind run start taken text → List Step
steps_behind {run} {start} {taken} is = (course_after run.environment.routes taken start).steps is.played.replies

-- patch streams: a first one, and others, each from the snapshot of where the one before it stands. A stream stands where it ended with Ok and
-- saved its world, or behind a snapshot that it kept on the way: it was cut off there, and nothing is said of what it did then. It is said
-- whether the last one ends the deliveries, where it stands, which counts it leaves, and the steps of all of them, in their order
pub data GoOn : Bool → Stage → Counts → List Step → Type 0 where
  first_run : (run : Run) (before now : Moment) → IsFirst (start_of run before) → run.environment.report ≡ Changes → (ending : Ending run before now) → GoOn (closes run.choices) now.stage (numbers_saved ending) (steps_made run before now ending)
  first_cut : (run : Run) (before : Moment) (taken : List Delivery) (text : List ℕ) → IsFirst (start_of run before) → run.environment.report ≡ Changes →
      (kept : IsSnapshotBehind run (start_of run before) taken text) → GoOn false kept.stage (numbers_behind kept) (steps_behind kept)
  later_run : (stage : Stage) (numbers : Counts) (steps : List Step) (bytes : List ℕ) (run : Run) (before now : Moment) → GoOn false stage numbers steps → saved_in_bytes bytes ≡ Some (saved_at stage numbers) → before.resumed.left ≡ Some bytes →
      run.environment.report ≡ Changes → (resumed : IsResumed None run before now) →
      GoOn (closes run.choices) now.stage (numbers_saved resumed.ending.outcome)
      (steps ++ steps_made (behind resumed.numbers run) (with_loaded before resumed.rest resumed.world) now resumed.ending.outcome)
  later_cut : (stage : Stage) (numbers : Counts) (steps : List Step) (bytes : List ℕ) (run : Run) (before : Moment) (rest : Input) (world : WorldState) (counts : Counts) (taken : List Delivery) (text : List ℕ) →
      GoOn false stage numbers steps → saved_in_bytes bytes ≡ Some (saved_at stage numbers) → before.resumed.left ≡ Some bytes → run.environment.report ≡ Changes →
      IsSnapshotOf before.resumed.left (limit_of run.choices) world counts → (kept : IsSnapshotBehind (behind counts run) (start_of (behind counts run) (with_loaded before rest world)) taken text) →
      GoOn false kept.stage (numbers_behind kept) (steps ++ steps_behind kept)

-- one replay of these deliveries: it leads to this world, whose pages are mapped by the version in force there, it has these steps, and the
-- counts have the number of its records. Where the deliveries don't end, a run that goes on from there begins where the replay stands
pub record IsOneReplay (closed : Bool) (stage : Stage) (numbers : Counts) (steps : List Step) : Type 0 where
  pub h : Option ℕ
  pub replies : Replies
  pub ds : List Delivery
  pub world : stage.world ≡ state_ended closed h replies ds
  pub mapped : stage.mapped ≡ mapped_by (version_in_force ds) stage.world.played.records
  pub stands : closed ≡ false → StandsAfter h replies ds (start_in numbers stage)
  pub counts : numbers.patches ≡ changes (steps_ended closed h replies ds)
  pub are : steps ≡ steps_ended closed h replies ds

-- what is stored after the first n of these steps, and after all of them where there are fewer; these triples are stored before the first
abbrev pub stored_after : List Triple → List Step → ℕ → List Triple
stored_after first [] n = first
stored_after first (s ∷ steps) zero = first
stored_after first (s ∷ steps) (suc n) = stored_after s.after steps n

-- what is stored after the step that gives the n-th record; nothing before the first
abbrev pub stored_at_record : List Step → ℕ → List Triple
stored_at_record steps n = stored_after [] (filter is_change steps) n
