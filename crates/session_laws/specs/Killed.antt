-- A run that was killed and went on.
use Rattle.std.specs.Prelude.{◌≡◌, ℕ, ◌+◌, List, ◌++◌, Option, None, Some}
use Rattle.delivery.specs.declared.Delivery.{Delivery}
use Rattle.replay_model.specs.{Acceptance.mark, Play.Replies, Records.Bytes}
use Rattle.replay_parts.specs.Checkpoint.{replies_of_runs}
use Rattle.patch_stream.specs.Stream.{Step, changes}
use Rattle.snapshot.specs.File.{IsFitSaved}
use Rattle.arguments.specs.Options.{closes, max_bytes_of}
use Rattle.run_model.specs.{Course.course_after, Headline.IsSnapshotBehind, Headline.numbers_behind}
use Rattle.run_model.specs.Moment.{Beginning, Moment, Run, saved_at, start_of}
use Rattle.run_model.specs.{OneRun.deliveries_of, OneRun.replies_with, Reading.AreDeliveries, Resuming.IsResumed, Resuming.with_loaded}
use Rattle.session_laws.specs.Reruns.{NoFetchFails, replies_at}

-- a run kept this snapshot behind these of its lines and was killed, or whatever became of it then; a later one went on from the snapshot and
-- ended with Ok
pub record WasKilledAndWentOn (run later : Run) (start : Beginning) (before now : Moment) : Type 0 where
  pub taken : List Delivery
  pub text : List ℕ
  pub kept : IsSnapshotBehind run start taken text
  pub fit : IsFitSaved (saved_at kept.stage (numbers_behind kept))
  pub same : before.resumed.left ≡ Some text
  pub resumed : IsResumed None later before now

module _ {run later : Run} {start : Beginning} {before now : Moment} where
  -- all lines, where these were taken before: those, the ones up to the snapshot, and those of the later run
  abbrev pub lines_with : List Delivery → WasKilledAndWentOn run later start before now → List Delivery
  lines_with ds runs = (ds ++ runs.taken) ++ deliveries_of runs.resumed.ending.outcome

  -- the replies up to the snapshot: these to events that the mark had reached before the run, and the run's own to all others
  abbrev pub replies_up_to : Replies → List Delivery → WasKilledAndWentOn run later start before now → Replies
  replies_up_to earlier ds runs = replies_of_runs (mark ds) earlier runs.kept.played.replies

  -- all replies: those to events that the mark had reached at the snapshot, and those of the later run to all others
  abbrev pub replies_of_both : Replies → List Delivery → WasKilledAndWentOn run later start before now → Replies
  replies_of_both earlier ds runs = replies_with (replies_up_to earlier ds runs) (ds ++ runs.taken) runs.resumed.ending.outcome

-- the steps that the run made until it kept this snapshot, if its fetches gave what is there
abbrev pub steps_there : {run : Run} {taken : List Delivery} {text : List ℕ} (contents : ℕ → Option Bytes) (before : Moment) → IsSnapshotBehind run (start_of run before) taken text → List Step
steps_there {run} {taken} contents before kept = (course_after run.environment.routes taken (start_of run before)).steps (replies_at contents before)

-- the contents and the input of both are told, and no fetch of either failed: behind the lines up to the snapshot, the input of the run that
-- was killed has those of the later one. Both end the deliveries, or neither. The head of the snapshot counts the records up to it that are
-- made of what is there
pub record AreToldOnward {run later : Run} (contents : ℕ → Option Bytes) (bytes : List ℕ) (before now again done : Moment) (runs : WasKilledAndWentOn run later (start_of run before) again done) : Type 0 where
  pub known : run.environment.known ≡ Some contents
  pub known_later : later.environment.known ≡ Some contents
  pub left : before.input.left ≡ Some bytes
  pub are : AreDeliveries (max_bytes_of run.choices) bytes (runs.taken ++ deliveries_of runs.resumed.ending.outcome)
  pub end_alike : closes later.choices ≡ closes run.choices
  pub unfailed : NoFetchFails before now
  pub unfailed_until : runs.kept.stage.counts.faults ≡ before.stage.counts.faults
  pub unfailed_later : NoFetchFails (with_loaded again runs.resumed.rest runs.resumed.world) done
  pub counted : (numbers_behind runs.kept).patches ≡ run.numbered.patches + changes (steps_there contents before runs.kept)
