-- Runs of any commands that go on from one another, and the changes of the stored triples that have a number.
use Rattle.std.specs.Prelude.{◌≡◌, ℕ, ◌+◌, Bool, true, false, cond, List, [], ◌∷◌, ◌++◌, filter, map, Option, None, Some}
use Rattle.delivery.specs.declared.Delivery.{Delivery}
use Rattle.world.specs.WorldState.{WorldState}
use Rattle.replica.specs.declared.record.PatchRecord.{PatchRecord}
use Rattle.patch_stream.specs.Stream.{Step, has_change, is_change, record_of_step, step}
use Rattle.snapshot.specs.{declared.counts.Counts.Counts, File.saved_in_bytes}
use Rattle.following.specs.Input.{Input}
use Rattle.arguments.specs.Options.{closes}
use Rattle.run_model.specs.declared.report.Report.{Report}
use Rattle.run_model.specs.declared.report.Report.TheVariants.{Answers, Changes}
use Rattle.run_model.specs.Headline.{Ending, IsSnapshotBehind, numbers_behind, numbers_saved}
use Rattle.run_model.specs.Moment.{IsFirst, Moment, Run, Stage, behind, saved_at, start_of, limit_of}
use Rattle.run_model.specs.Resuming.{IsResumed, IsSnapshotOf, with_loaded}
use Rattle.session_laws.specs.{Complete.steps_made, Live.steps_behind}

-- a change of the stored triples that has a number, and whether a record of it was written
pub record Numbered : Type 0 where
  pub change : Step
  pub written : Bool

-- a step and those behind it as one
abbrev pub joined : Step → List Step → Step
joined first [] = first
joined first (s ∷ steps) = joined (step first.before s.after) steps

-- the changes of a run of these steps: where changes are reported, those of each step that changes what is stored, and their records were
-- written; otherwise that of all steps together, if one of them changes what is stored, and no record was
abbrev pub numbered_in : Report → List Step → List Numbered
numbered_in Changes steps = map (λ s. record { change = s; written = true }) (filter is_change steps)
numbered_in Answers [] = []
numbered_in Answers (s ∷ steps) = cond (has_change (s ∷ steps)) (record { change = joined s steps; written = false } ∷ []) []

-- runs of any commands: a first one, and others, each from the snapshot of where the one before it stands. A run stands where it ended with
-- Ok and saved its world, or behind a snapshot that it kept on the way. It is said whether the last one ends the deliveries, where it
-- stands, which counts it leaves, and of all of them the steps and the changes that have a number, in their order
pub data RunOn : Bool → Stage → Counts → List Step → List Numbered → Type 0 where
  first_run : (run : Run) (before now : Moment) → IsFirst (start_of run before) → (ending : Ending run before now) →
      RunOn (closes run.choices) now.stage (numbers_saved ending) (steps_made run before now ending) (numbered_in run.environment.report (steps_made run before now ending))
  first_cut : (run : Run) (before : Moment) (taken : List Delivery) (text : List ℕ) → IsFirst (start_of run before) → (kept : IsSnapshotBehind run (start_of run before) taken text) →
      RunOn false kept.stage (numbers_behind kept) (steps_behind kept) (numbered_in run.environment.report (steps_behind kept))
  later_run : (stage : Stage) (numbers : Counts) (steps : List Step) (changes : List Numbered) (bytes : List ℕ) (run : Run) (before now : Moment) → RunOn false stage numbers steps changes →
      saved_in_bytes bytes ≡ Some (saved_at stage numbers) → before.resumed.left ≡ Some bytes → (resumed : IsResumed None run before now) →
      RunOn (closes run.choices) now.stage (numbers_saved resumed.ending.outcome)
      (steps ++ steps_made (behind resumed.numbers run) (with_loaded before resumed.rest resumed.world) now resumed.ending.outcome)
      (changes ++ numbered_in run.environment.report (steps_made (behind resumed.numbers run) (with_loaded before resumed.rest resumed.world) now resumed.ending.outcome))
  later_cut : (stage : Stage) (numbers : Counts) (steps : List Step) (changes : List Numbered) (bytes : List ℕ) (run : Run) (before : Moment) (rest : Input) (world : WorldState) (counts : Counts) (taken : List Delivery) (text : List ℕ) →
      RunOn false stage numbers steps changes → saved_in_bytes bytes ≡ Some (saved_at stage numbers) → before.resumed.left ≡ Some bytes →
      IsSnapshotOf before.resumed.left (limit_of run.choices) world counts → (kept : IsSnapshotBehind (behind counts run) (start_of (behind counts run) (with_loaded before rest world)) taken text) →
      RunOn false kept.stage (numbers_behind kept) (steps ++ steps_behind kept) (changes ++ numbered_in run.environment.report (steps_behind kept))

-- their records that were written, the first change having this number
abbrev pub written_from : ℕ → List Numbered → List PatchRecord
written_from number [] = []
written_from number (c ∷ changes) = cond c.written (record_of_step number c.change ∷ []) [] ++ written_from (number + 1) changes

-- the steps of these changes
abbrev pub changes_of : List Numbered → List Step
changes_of changes = map (λ c. c.change) changes
