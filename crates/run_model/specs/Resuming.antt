-- What a run leaves that goes on from a snapshot.
use Rattle.std.specs.Prelude.{◌≡◌, ◌⊎◌, ℕ, List, Option, None, Some, IfSome, IsSome}
use Rattle.wq_io.specs.Streams.{IsAtEnd}
use Rattle.world.specs.{Limit.Limit, WorldState.WorldState}
use Rattle.snapshot.specs.{File.saved_in_bytes, declared.counts.Counts.Counts}
use Rattle.checkpoint.specs.{declared.fault.LoadFault.LoadFault, declared.fault.LoadFault.TheVariants.BadLine, Causes.HasCause}
use Rattle.checkpoint.specs.Saved.{AreWithin, saved_of, world_of}
use Rattle.following.specs.Input.{Input}
use Rattle.arguments.specs.Options.{Choices}
use Rattle.run_model.specs.{declared.stop.Stop.Stop, Headline.ReplayEnding}
use Rattle.run_model.specs.Moment.{Moment, Run, behind, limit_of, stage_in, world_at_start}
use Rattle.run_model.specs.{Remapping.HoldsWithin, Remapping.mapped_in, Stop.stop_of_load, Taking.IsStanding}

-- these bytes are the snapshot of this world with these counts, where there is room for so many terms of these triples. Whoever made them, the world is one
-- that stands between two deliveries, what it holds has room, and there is a number for each question and each record to come
pub record IsSnapshotOf (left : Option (List ℕ)) (limit : Limit) (world : WorldState) (numbers : Counts) : Type 0 where
  pub saved : IfSome left (λ bytes. saved_in_bytes bytes ≡ Some (saved_of world numbers))
  pub is : world ≡ world_of limit (saved_of world numbers)
  pub stands : IsStanding world.replay (mapped_in world)
  pub held : HoldsWithin limit world
  pub within : AreWithin numbers

-- the options name no horizon, or this one
abbrev pub AllowsHorizon : Choices → Option ℕ → Type 0
AllowsHorizon choices horizon = IfSome choices.horizon (λ micros. horizon ≡ Some micros)

-- these bytes are the snapshot of a world that has another horizon than the options name, or none
pub record HasOtherHorizon (choices : Choices) (left : Option (List ℕ)) : Type 0 where
  pub world : WorldState
  pub numbers : Counts
  pub loaded : IsSnapshotOf left (limit_of choices) world numbers
  pub differs : AllowsHorizon choices world.replay.buffer.horizon → ⊥

-- why a run doesn't go on from a snapshot: it isn't loaded, or its head is refused for its horizon
abbrev pub IsRefusedFor : LoadFault → Choices → Option (List ℕ) → ℕ → ℕ → Type 0
IsRefusedFor fault choices left before now = HasCause fault (limit_of choices) left before now ⊎ ((fault ≡ BadLine 1) × HasOtherHorizon choices left)

-- the run didn't go on from the snapshot, for a cause: the input is unread, nothing was written, and the world is as it was
pub record IsNotResumed (stopped : Option Stop) (run : Run) (before now : Moment) : Type 0 where
  pub fault : LoadFault
  pub is : stopped ≡ Some (stop_of_load fault)
  pub cause : IsRefusedFor fault run.choices before.resumed.left before.resumed.faults now.resumed.faults
  pub untouched : now ≡ record before { resumed = now.resumed }

-- the moment once a snapshot was read, of which this is left, with its world in place of the one before
abbrev pub with_loaded : Moment → Input → WorldState → Moment
with_loaded before rest world = record before { stage = stage_in before.stage.output before.stage.counts world; resumed = rest }

-- the whole snapshot was read, and the run went on from its world, behind the runs that left its counts, and read no more of the snapshot
pub record IsResumed (stopped : Option Stop) (run : Run) (before now : Moment) : Type 0 where
  pub world : WorldState
  pub numbers : Counts
  pub loaded : IsSnapshotOf before.resumed.left (limit_of run.choices) world numbers
  pub allowed : AllowsHorizon run.choices world.replay.buffer.horizon
  pub rest : Input
  pub read : IsAtEnd rest.left
  pub ending : ReplayEnding stopped (behind numbers run) (with_loaded before rest world) now

-- what a run with `--resume` leaves
abbrev pub ResumeEnding : Option Stop → Run → Moment → Moment → Type 0
ResumeEnding stopped run before now = IsNotResumed stopped run before now ⊎ IsResumed stopped run before now

-- what a run leaves, without `--resume` and with it
pub record RunEnding (stopped : Option Stop) (run : Run) (before now : Moment) : Type 0 where
  pub begun : run.choices.resume ≡ None → ReplayEnding stopped run (record before { stage = stage_in before.stage.output before.stage.counts (world_at_start run.choices) }) now
  pub resumed : IsSome run.choices.resume → ResumeEnding stopped run before now
