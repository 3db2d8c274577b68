-- The files that a plan names.
use Rattle.std.specs.Prelude.{ℕ, List, [], Option, None, Some, unwrap_or}
use Rattle.arguments.specs.declared.plan.Plan.{Plan}
use Rattle.arguments.specs.declared.plan.Plan.TheVariants.{Replay, Drill, Patches, Follow, Split}

-- the name of the file to which the world is saved; empty where there is none
abbrev pub saved_by : Plan → List ℕ
saved_by (Replay choices) = unwrap_or choices.save []
saved_by (Drill size) = []
saved_by (Patches choices) = unwrap_or choices.save []
saved_by (Follow choices) = []
saved_by (Split choices) = unwrap_or choices.replay.save []

-- the name of the file that the run goes on from; empty where there is none
abbrev pub resumed_by : Plan → List ℕ
resumed_by (Replay choices) = unwrap_or choices.resume []
resumed_by (Drill size) = []
resumed_by (Patches choices) = unwrap_or choices.resume []
resumed_by (Follow choices) = []
resumed_by (Split choices) = unwrap_or choices.replay.resume []

-- what a plan names, and nothing where the arguments are no plan
abbrev pub named : (Plan → List ℕ) → Option Plan → List ℕ
named by None = []
named by (Some plan) = by plan
