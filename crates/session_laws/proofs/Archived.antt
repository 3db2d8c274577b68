-- The snapshots that a run keeps on the way, and one replay of all deliveries.
use Rattle.std.proofs.Common.{◌≡◌, sym, subst, ◌∙◌, ap, ℕ, List, ◌+◌, ◌++◌, Option, Some}
use Rattle.delivery.specs.declared.Delivery.{Delivery}
use Rattle.replay_model.specs.{Acceptance.mark, Acceptance.version_in_force, Play.Replies, ReplayState.ReplayState, ReplayState.following}
use Rattle.replay_parts.specs.Checkpoint.{Checkpoint, checkpoint, replies_of_runs}
use Rattle.replay_parts.proofs.TwoRuns.{checkpoint-two}
use Rattle.patch_stream.specs.Stream.{changes, steps_of_play}
use Rattle.snapshot.specs.{declared.counts.Counts.Counts, File.IsFitSaved, File.file_text, File.saved_in_bytes, Waiting.IsAtRest}
use Rattle.snapshot.specs.Whole.{Saved}
use Rattle.run_model.specs.{declared.report.Report.TheVariants.Changes, Course.course_after, Course.version_at, Course.version_since}
use Rattle.run_model.specs.Headline.{IsSnapshotBehind, numbers_behind}
use Rattle.run_model.specs.Moment.{Beginning, Run, Stage, numbers_of, saved_at, snapshot_text, standing, start_in}
use Rattle.run_model.specs.{OneRun.StandsAfter, Remapping.Mapped, Remapping.mapped_by}
use Rattle.run_model.proofs.Along.{version-along}
use Rattle.session_laws.specs.Live.{steps_behind}
use Rattle.session_laws.proofs.{OneRun.same_state, OneRun.steps_same, StreamRuns.changes-append, StreamRuns.steps-two}

-- the snapshot of a stage at which a replay stands is read back
pub stage_read : ((h : Option ℕ) (replies : Replies) (ds : List Delivery) → IsAtRest (following h replies ds).buffer) → ((s : Saved) → IsAtRest s.state.buffer → IsFitSaved s → saved_in_bytes (file_text s) ≡ Some s) →
    (h : Option ℕ) (replies : Replies) (ds : List Delivery) (stage : Stage) (numbers : Counts) → StandsAfter h replies ds (start_in numbers stage) → IsFitSaved (saved_at stage numbers) → saved_in_bytes (snapshot_text numbers stage) ≡ Some (saved_at stage numbers)
stage_read at_rest read h replies ds stage numbers stands fit = read (saved_at stage numbers) (subst (λ (w : ReplayState). IsAtRest w.buffer) (sym stands.world) (at_rest h replies ds)) fit

module _ (h : Option ℕ) (first : Replies) (a : List Delivery) (run : Run) (start : Beginning) (stands : StandsAfter h first a start) (b : List Delivery) (text : List ℕ) (is : IsSnapshotBehind run start b text) where
  abbrev second : Replies
  second = is.played.replies

  abbrev both : Replies
  both = replies_of_runs (mark a) first second

  version_is : version_at b start ≡ version_in_force (a ++ b)
  version_is =
      ap (λ v. version_since v b) stands.version
      ∙ sym (version-along second (checkpoint h first a) b)
      ∙ sym (ap (λ (c : Checkpoint). c.version) (checkpoint-two h first second a b))

  -- its pages are mapped by the version that is in force there
  pub snapshot_mapped : is.stage.mapped ≡ mapped_by (version_in_force (a ++ b)) is.stage.world.played.records
  snapshot_mapped = is.played.mapped ∙ ap (λ v. mapped_by v is.stage.world.played.records) version_is

  -- a run that goes on from it stands behind the lines of both
  pub snapshot_stands : StandsAfter h (replies_of_runs (mark a) first second) (a ++ b) (start_in (numbers_behind is) is.stage)
  snapshot_stands = record {
    world = is.played.is ∙ same_state second (standing start) (checkpoint h first a) stands.world b ∙ sym (ap (λ (c : Checkpoint). c.state) (checkpoint-two h first second a b));
    version = ap (λ (m : Mapped). m.version) snapshot_mapped;
  }

  -- and its bytes are read back
  pub snapshot_read : ((h : Option ℕ) (replies : Replies) (ds : List Delivery) → IsAtRest (following h replies ds).buffer) → ((s : Saved) → IsAtRest s.state.buffer → IsFitSaved s → saved_in_bytes (file_text s) ≡ Some s) →
      IsFitSaved (saved_at is.stage (numbers_behind is)) → saved_in_bytes text ≡ Some (saved_at is.stage (numbers_behind is))
  snapshot_read at_rest read fit = ap saved_in_bytes is.is ∙ stage_read at_rest read h (replies_of_runs (mark a) first second) (a ++ b) is.stage (numbers_behind is) snapshot_stands fit

  -- the steps up to it come behind those of the earlier lines
  pub snapshot_steps : steps_of_play h first a ++ steps_behind is ≡ steps_of_play h both (a ++ b)
  snapshot_steps =
      ap (λ l. steps_of_play h first a ++ l) (steps_same second (standing start) (checkpoint h first a) stands.world stands.version b)
      ∙ sym (steps-two h first second a b)

  -- and if changes are reported, it counts the records of all
  pub snapshot_patches : run.environment.report ≡ Changes → start.numbered.patches ≡ changes (steps_of_play h first a) → (numbers_behind is).patches ≡ changes (steps_of_play h both (a ++ b))
  snapshot_patches told counts =
      ap (λ report. (numbers_of report (course_after run.environment.routes b start).steps b start second).patches) told
      ∙ ap (λ n. n + changes (steps_behind is)) counts
      ∙ sym (changes-append (steps_of_play h first a) (steps_behind is))
      ∙ ap changes snapshot_steps
