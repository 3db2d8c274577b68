-- How far a drill has come whose deliveries are taken as those of an input are.
use Rattle.std.specs.Prelude.{◌≡◌, ℕ, List, Option, None, Some}
use Rattle.revisions.specs.Revisions.{Contents}
use Rattle.delivery.specs.declared.Delivery.{Delivery}
use Rattle.replay_model.specs.ReplayState.{nothing_delivered}
use Rattle.world.specs.{Limit.whole, WorldState.WorldState}
use Rattle.text_output.specs.Printing.{Output}
use Rattle.drill_replay.specs.{Drill.contents_of, Source.Source}
use Rattle.drill_replay.specs.Playing.{Counted, IsByFirst}
use Rattle.session.specs.declared.drill_playing.DrillRun.{DrillRun}
use Rattle.run_model.specs.{declared.report.Report.TheVariants.Answers, Moment.Beginning, Moment.Environment, Moment.IsFirst, Moment.Stage, Moment.reported_as}
use Rattle.run_model.specs.{Remapping.mapped_in, Delivering.AtRest}
use Rattle.rdf_term.specs.Limits.{default_max_terms}

-- what the pages of a drill tell, the same in every folder
abbrev pub told_of : ℕ → Option Contents
told_of size = Some (λ folder. contents_of size)

-- what the deliveries of a drill are taken under: its pages, and the limit of every drill
abbrev pub drill_environment : ℕ → Environment
drill_environment size = record { known = Some (contents_of size); limit = whole default_max_terms; report = Answers; routes = None }

-- the stage of a drill over its pages, whose fetches never fail
abbrev pub drill_stage : Source → Output → WorldState → Stage
drill_stage pages out world = record { output = out; counts = record { calls = pages.calls; misses = pages.misses; faults = 0 }; world = world.replay; mapped = mapped_in world }

-- a drill has taken these deliveries, from an empty world on, and has counted them
pub record HasTakenFirst (run : DrillRun) (ds : List Delivery) (out : Output) (world : WorldState) : Type 0 where
  pub start : Beginning
  pub first : IsFirst start
  pub nothing : start.world ≡ nothing_delivered
  pub told : told_of run.pages.size ≡ told_of run.size
  pub at_rest : AtRest (drill_environment run.size) ds (reported_as 0 run.changed) start (drill_stage run.pages out world)
  pub counted : Counted ds run.counts
  pub limit : world.limit ≡ whole default_max_terms

-- what a drill leaves wherever it stops: all that is held is mapped by the first version, and the limit is that of every drill
pub record LeavesDrill (world : WorldState) : Type 0 where
  pub first : IsByFirst world
  pub limit : world.limit ≡ whole default_max_terms
