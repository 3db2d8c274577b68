-- The run of a plan.
use Rattle.std.specs.Prelude.{◌≡◌, ℕ, List, Option, None, Some}
use Rattle.revisions.specs.Revisions.{Contents}
use Rattle.graph_routes.specs.{declared.routes.Route.Route, Routes.AreRoutesIn}
use Rattle.arguments.specs.{Options.SplitChoices, declared.plan.Plan.Plan}
use Rattle.arguments.specs.declared.plan.Plan.TheVariants.{Replay, Drill, Patches, Follow, Split}
use Rattle.run_model.specs.declared.report.Report.TheVariants.{Answers, Changes}
use Rattle.run_model.specs.Moment.{Run, run_of}

-- a split into the graphs of these routes
pub record IsSplitRun (choices : SplitChoices) (contents : Option Contents) (run : Run) : Type 0 where
  pub routes : List Route
  pub are : AreRoutesIn choices.route routes
  pub is : run ≡ run_of (Some routes) Answers contents choices.replay

-- a plan is this run over a source with these contents: a replay reports answers and a patch stream changes, and a split reports the answers
-- of each graph; a drill and a follower are none
abbrev pub IsRunOf : Plan → Option Contents → Run → Type 0
IsRunOf (Replay choices) contents run = run ≡ run_of None Answers contents choices
IsRunOf (Patches choices) contents run = run ≡ run_of None Changes contents choices
IsRunOf (Split choices) contents run = IsSplitRun choices contents run
IsRunOf (Drill size) contents run = ⊥
IsRunOf (Follow choices) contents run = ⊥
