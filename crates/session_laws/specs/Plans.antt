-- The clause of `run` on replays, patch streams and splits.
use Rattle.std.specs.Prelude.{◌≡◌, ℕ, List, Option, Some}
use Rattle.revisions.specs.Revisions.{Contents}
use Rattle.arguments.specs.{Options.Choices, Plan.plan_of, declared.plan.Plan.Plan}
use Rattle.run_model.specs.{declared.stop.Stop.Stop, Moment.Moment, Moment.Run, Moment.stage_in, Moment.world_at_start, Resuming.RunEnding}
use Rattle.run_model.specs.Plans.{IsRunOf}

-- what that clause says: the plan of the arguments ends as the run does that it is
abbrev pub EndsAsItsRun : List (List ℕ) → Option Contents → Option Stop → Moment → Moment → Type 0
EndsAsItsRun words contents stopped before now = (plan : Plan) → plan_of words ≡ Some plan → (run : Run) → IsRunOf plan contents run → RunEnding stopped run before now

-- the moment before a run without `--resume`, with the empty world of these choices
abbrev pub begun_with : Choices → Moment → Moment
begun_with choices before = record before { stage = stage_in before.stage.output before.stage.counts (world_at_start choices) }
