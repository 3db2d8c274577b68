-- What a run over memory is lent, and what it leaves.
use Rattle.std.specs.Prelude.{◌≡◌, ◌⊎◌, ◌==◌, ℕ, List, [], None, Some}
use Rattle.std.specs.List.{slice_split}
use Rattle.std.specs.Str.{IsUtf8}
use Rattle.revisions.specs.Revisions.{Contents}
use Rattle.replay_model.specs.ReplayState.{nothing_delivered}
use Rattle.following.specs.Following.{FollowMoment}
use Rattle.arguments.specs.{Options.FollowChoices, Plan.plan_of, declared.plan.Plan.Plan}
use Rattle.arguments.specs.declared.plan.Plan.TheVariants.{Drill, Follow}
use Rattle.run_model.specs.{Moment.Moment, Moment.Run, Resuming.RunEnding, Stop.stop_of, declared.status.Status.Status}
use Rattle.run_model.specs.declared.status.Status.TheVariants.{BadWords, OutOfMemory}
use Rattle.run_model.specs.Plans.{IsRunOf}
use Rattle.session.specs.Plans.{DrillEnding, FollowEnding, IsNotUnderstood, MaySave}

-- the words that these bytes are: a line each, without its line feed
abbrev pub words_in : List ℕ → List (List ℕ)
words_in bytes = slice_split (λ b. b == 10) bytes

-- what a run is lent: its words, the bytes of its input and of the snapshot that it goes on from if it is asked to, and what is at each
-- revision
pub record Lent : Type 0 where
  pub words : List (List ℕ)
  pub events : List ℕ
  pub resumed : List ℕ
  pub pages : Contents

-- ---- a run that was begun

-- the moment before a run: nothing was read, printed, kept or delivered
pub record IsBefore (lent : Lent) (before : Moment) : Type 0 where
  pub input : before.input.left ≡ Some lent.events
  pub resumed : before.resumed.left ≡ Some lent.resumed
  pub printed : before.stage.output.bytes ≡ Some []
  pub kept : before.snapshot.kept ≡ Some []
  pub world : before.stage.world ≡ nothing_delivered

-- the moment after it: these bytes were printed, and these snapshots kept
pub record IsAfter (printed : List ℕ) (kept : List (List ℕ)) (now : Moment) : Type 0 where
  pub printed_are : now.stage.output.bytes ≡ Some printed
  pub kept_are : now.snapshot.kept ≡ Some kept

-- reading, fetching, writing and saving never fail in memory
pub record HasNoFaults (m : Moment) : Type 0 where
  pub reads : m.input.faults ≡ 0
  pub loads : m.resumed.faults ≡ 0
  pub fetches : m.stage.counts.faults ≡ 0
  pub writes : m.stage.output.faults ≡ 0
  pub saves : m.snapshot.faults ≡ 0

-- what a follower reads and writes at a moment
abbrev pub follow_moment_at : Moment → FollowMoment
follow_moment_at m = record { input = m.input; output = m.stage.output }

-- how a run of these words over these contents ends, and what it leaves: all that the top call promises of it
pub record HasEnded (words : List (List ℕ)) (contents : Contents) (status : Status) (before now : Moment) : Type 0 where
  -- the words aren't understood, and then nothing was printed or kept
  pub refused : status ≡ BadWords → IsNotUnderstood words
  pub words_refused : plan_of words ≡ None → status ≡ BadWords
  pub not_understood : IsNotUnderstood words →
      ((status ≡ BadWords) ⊎ (status ≡ OutOfMemory)) × (now.stage.output.bytes ≡ before.stage.output.bytes) × (now.snapshot.kept ≡ before.snapshot.kept)
  -- a replay, a patch stream or a split, from its beginning or from a snapshot
  pub replay : (plan : Plan) → plan_of words ≡ Some plan → (run : Run) → IsRunOf plan (Some contents) run → RunEnding (stop_of status) run before now
  -- a drill
  pub drill : (size : ℕ) → plan_of words ≡ Some (Drill size) → DrillEnding status size before.stage now.stage
  -- a follower
  pub follow : (choices : FollowChoices) → plan_of words ≡ Some (Follow choices) → FollowEnding status choices (follow_moment_at before) (follow_moment_at now)
  -- no snapshot is kept without `--save`
  pub unsaved : (plan : Plan) → plan_of words ≡ Some plan → MaySave plan status ⊎ (now.snapshot ≡ before.snapshot)

-- a run was begun, ended with this status, printed these bytes and kept these snapshots
pub record IsRun (lent : Lent) (status : Status) (printed : List ℕ) (kept : List (List ℕ)) : Type 0 where
  pub before : Moment
  pub now : Moment
  pub begun : IsBefore lent before
  pub ended : HasEnded lent.words lent.pages status before now
  pub left : IsAfter printed kept now
  pub unfailed_before : HasNoFaults before
  pub unfailed : HasNoFaults now

-- ---- a run that wasn't begun

-- why no run is begun of these words: they aren't UTF-8, or memory was refused
abbrev pub MayNotBegin : List ℕ → Status → Type 0
MayNotBegin words status = ((IsUtf8 words → ⊥) × (status ≡ BadWords)) ⊎ (status ≡ OutOfMemory)

-- no run was begun, and nothing was printed or kept
pub record IsNoRun (words : List ℕ) (status : Status) (printed : List ℕ) (kept : List (List ℕ)) : Type 0 where
  pub cause : MayNotBegin words status
  pub nothing_printed : printed ≡ []
  pub nothing_kept : kept ≡ []

-- what a call over memory leaves whose words are the lines of these bytes
abbrev pub Leaves : List ℕ → Lent → Status → List ℕ → List (List ℕ) → Type 0
Leaves bytes lent status printed kept = IsRun lent status printed kept ⊎ IsNoRun bytes status printed kept
