-- What the arguments ask for: the most terms that a plan leaves room for, and whether it may save; and what a drill and a follower leave.
use Rattle.std.specs.Prelude.{◌≡◌, ◌⊎◌, ℕ, true, false, List, None, Some, Option, IfSome, IsSome, MatchOption}
use Rattle.revisions.specs.{declared.revisions.Revisions.Ghosts as RevisionsOf, Revisions.Contents}
use Rattle.graph_routes.specs.{declared.routes.Route.Route, Routes.AreRoutesIn}
use Rattle.arguments.specs.Options.{SplitChoices, FollowChoices, follow_max_bytes_of}
use Rattle.arguments.specs.{Plan.plan_of, declared.plan.Plan.Plan}
use Rattle.arguments.specs.declared.plan.Plan.TheVariants.{Replay, Drill, Patches, Follow, Split}
use Rattle.run_model.specs.{declared.ports.Ports.Ports, declared.status.Status.Status, Remapping.HoldsWithin, Resuming.RunEnding}
use Rattle.run_model.specs.Moment.{HaveGoneOn, Run, Stage, limit_of, moment, stage, world_at_start}
use Rattle.checkpoint.specs.declared.snapshots.Snapshots.{Ghosts as SnapshotsOf}
use Rattle.world.specs.{Limit.Limit, Limit.whole, WorldState.WorldState}
use Rattle.run_model.specs.Plans.{IsRunOf}
use Rattle.run_model.specs.Stop.{MayKeep, stop_of, stop_of_follow}
use Rattle.run_model.specs.declared.status.Status.TheVariants.{Ok as Ended, BadWords, BadLine, ReadFault, WriteFault, TooLong, StoreFull, OutOfMemory, BadSnapshot}
use Rattle.run_model.specs.declared.stop.Stop.{Stop}
use Rattle.std.specs.List.{flat_map}
use Rattle.wq_io.specs.{Streams.after_known, declared.sink.Sink.Ghosts as SinkOf, declared.source.Source.Ghosts as SourceOf}
use Rattle.replay_model.specs.ReplayState.{ReplayState, nothing_delivered, nothing_delivered_within}
use Rattle.text_output.specs.declared.write.Unwritten.{Unwritten}
use Rattle.text_output.specs.declared.write.Unwritten.TheVariants.{WriteFault as NotWritten, OutOfMemory as UnwrittenOutOfMemory}
use Rattle.text_output.specs.Printing.{IsCutShort, Output}
use Rattle.drill_replay.specs.{Playing.HasBegun, Playing.IsByFirst, Summary.drilled, Summary.summary_lines, Summary.summary_of}
use Rattle.following.specs.{declared.stop.FollowStop.FollowStop, Following.Ending, Following.FollowMoment, Following.StoppedFollowing, Following.follow_moment}
use Rattle.following.specs.Reading.{TakesLinesByNeed}
use Rattle.rdf_term.specs.Limits.{default_max_terms}

-- a plan is a split by a text that has no routes
pub record IsWithoutRoutes (plan : Plan) : Type 0 where
  pub choices : SplitChoices
  pub is : plan ≡ Split choices
  pub none : (routes : List Route) → AreRoutesIn choices.route routes → ⊥

-- the arguments ask for a split by a text that has no routes
pub record HasNoRoutes (words : List (List ℕ)) : Type 0 where
  pub choices : SplitChoices
  pub plan : plan_of words ≡ Some (Split choices)
  pub none : (routes : List Route) → AreRoutesIn choices.route routes → ⊥

-- the arguments are no plan, or ask for a split by a text that has no routes
abbrev pub IsNotUnderstood : List (List ℕ) → Type 0
IsNotUnderstood words = (plan_of words ≡ None) ⊎ HasNoRoutes words

-- the most terms that a plan leaves room for, and of which triples: as its options say, and for a drill and a follower always the same
abbrev pub limit_of_plan : Plan → Limit
limit_of_plan (Replay choices) = limit_of choices
limit_of_plan (Patches choices) = limit_of choices
limit_of_plan (Drill size) = whole default_max_terms
limit_of_plan (Follow choices) = whole default_max_terms
limit_of_plan (Split choices) = limit_of choices.replay

-- a world that a run with this status left has as many terms as this limit says, and what it holds stays within them; and it is lean as the
-- limit says, unless it was to be lean and memory was refused
pub record KeepsLimit (status : Status) (limit : Limit) (world : WorldState) : Type 0 where
  pub terms : world.limit.terms ≡ limit.terms
  pub held : HoldsWithin world.limit world
  pub is : (world.limit ≡ limit) ⊎ ((limit.lean ≡ true) × (status ≡ OutOfMemory))

-- a run with this plan and status may have kept or begun a snapshot
abbrev pub MaySave : Plan → Status → Type 0
MaySave (Replay choices) status = MayKeep choices (stop_of status)
MaySave (Patches choices) status = MayKeep choices (stop_of status)
MaySave (Split choices) status = MayKeep choices.replay (stop_of status)
MaySave (Drill size) status = ⊥
MaySave (Follow choices) status = ⊥

-- ---- what a run of a drill leaves

-- the text of a drill's summary
abbrev pub summary_text : ℕ → List ℕ
summary_text size = flat_map (λ line. line) (summary_lines (summary_of size))

-- the drill was run to its end, and its summary was printed, and nothing else; and if nothing waited before to be handed on, nothing waits
pub record HasDrilled (size : ℕ) (old new : Output) (world : ReplayState) : Type 0 where
  pub is : world ≡ drilled size
  pub says : new.bytes ≡ after_known old.bytes (summary_text size)
  pub handed : old.waits ≡ false → new.waits ≡ false

-- how far a drill came whose summary was not printed wholly: to its end where a write failed, and to a first part where memory
-- was refused
abbrev pub HasCome : Unwritten → ℕ → ReplayState → Type 0
HasCome NotWritten size world = world ≡ drilled size
HasCome UnwrittenOutOfMemory size world = HasBegun size world

-- a prefix of the summary was printed, and nothing else; where a write failed, not all of it
pub record DrillStopped (why : Unwritten) (size : ℕ) (old new : Output) (world : ReplayState) : Type 0 where
  pub has_come : HasCome why size world
  pub cut_short : IsCutShort why (summary_text size) old new

-- how a run of a drill ends, and what it leaves then; it ends in no other way
abbrev pub IsDrillEnd : Status → ℕ → Output → Output → ReplayState → Type 0
IsDrillEnd Ended size old new world = HasDrilled size old new world
IsDrillEnd BadWords size old new world = ⊥
IsDrillEnd (BadLine number cause) size old new world = ⊥
IsDrillEnd ReadFault size old new world = ⊥
IsDrillEnd WriteFault size old new world = DrillStopped NotWritten size old new world
IsDrillEnd TooLong size old new world = ⊥
IsDrillEnd StoreFull size old new world = ⊥
IsDrillEnd OutOfMemory size old new world = DrillStopped UnwrittenOutOfMemory size old new world
IsDrillEnd (BadSnapshot number) size old new world = ⊥

abbrev pub DrillEnding : Status → ℕ → Stage → Stage → Type 0
DrillEnding status size before now = IsDrillEnd status size before.output now.output now.world

-- ---- what a run of a follower leaves

-- a follower stopped, for a cause
pub record FollowStopped (stop : Stop) (choices : FollowChoices) (before now : FollowMoment) : Type 0 where
  pub why : FollowStop
  pub is : stop ≡ stop_of_follow why
  pub stopped : StoppedFollowing why choices before now

-- what a follower that was begun leaves: it ended with Ok or stopped for a cause; and what it took of its input is bounded
pub record FollowEnding (status : Status) (choices : FollowChoices) (before now : FollowMoment) : Type 0 where
  pub outcome : MatchOption (stop_of status) (Ending choices before now) (λ stop. FollowStopped stop choices before now)
  pub taken : IfSome before.input.left (λ bytes. TakesLinesByNeed (follow_max_bytes_of choices) bytes now.input.left)

-- ---- what the run of a plan leaves

-- the run of a plan: how it ends, what it leaves of its ports, and the world that it gives back
pub record PlanEnding {S R K F : Type 0} (events : SourceOf S) (source : RevisionsOf R) (sink : SinkOf K) (file : SnapshotsOf F) (plan : Plan) (status : Status) (old new : Ports S R K F) (world now : WorldState) : Type 0 where
  -- where it is refused, it is a split by a text that has no routes, and nothing was done
  pub refused : status ≡ BadWords → IsWithoutRoutes plan × (new ≡ old) × (now ≡ world)
  -- such a split does nothing, but memory may be refused before that is known
  pub without : IsWithoutRoutes plan → ((status ≡ BadWords) ⊎ (status ≡ OutOfMemory)) × (new ≡ old) × (now.replay ≡ nothing_delivered_within now.replay.buffer.horizon)
  pub replay : (run : Run) → IsRunOf plan (source.contents old.revisions) run → RunEnding (stop_of status) run (moment events source sink file old world) (moment events source sink file new now)
  pub drill : (size : ℕ) → plan ≡ Drill size → DrillEnding status size (stage source sink old.revisions old.out world) (stage source sink new.revisions new.out now) × IsByFirst now × (new ≡ record old { out = new.out })
  pub follow : (choices : FollowChoices) → plan ≡ Follow choices →
      FollowEnding status choices (follow_moment events sink old.events old.out) (follow_moment events sink new.events new.out)
      × (new ≡ record old { events = new.events; out = new.out }) × (now ≡ record world { limit = whole default_max_terms })
  pub limit : (status ≡ BadWords) ⊎ KeepsLimit status (limit_of_plan plan) now
  pub unsaved : MaySave plan status ⊎ (new.snapshot ≡ old.snapshot)
  pub further : HaveGoneOn events source sink file old new

-- the world of a plan that doesn't begin: that at the start of a first run, or as it was, with as many terms as the plan says; one that is to
-- be lean may not be lean yet
pub record IsUnbegun (plan : Plan) (world now : WorldState) : Type 0 where
  pub begun : (contents : Option Contents) (run : Run) → IsRunOf plan contents run → run.choices.resume ≡ None → now ≡ record (world_at_start run.choices) { limit = now.limit }
  pub resumed : (contents : Option Contents) (run : Run) → IsRunOf plan contents run → IsSome run.choices.resume → now ≡ record world { limit = now.limit }
  pub nothing : now.replay ≡ nothing_delivered_within now.replay.buffer.horizon
  pub drill : (size : ℕ) → plan ≡ Drill size → IsByFirst now × (now.replay ≡ nothing_delivered)
  pub follow : (choices : FollowChoices) → plan ≡ Follow choices → now ≡ record world { limit = whole default_max_terms }
  pub terms : now.limit.terms ≡ (limit_of_plan plan).terms
  pub whole : (limit_of_plan plan).lean ≡ false → now.limit ≡ limit_of_plan plan
  pub held : HoldsWithin now.limit now
