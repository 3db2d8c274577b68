-- What a replay moves.
use Rattle.std.specs.Prelude.{◌≡◌, ℕ, List, Option, refl}
use Rattle.std.specs.Coded.{Coded, code_by, coded×, coded_list, coded_option, coded_ℕ}
use Rattle.snapshot.specs.{declared.counts.Counts.Counts, File.file_text}
use Rattle.graph_routes.specs.contracts.routes.Route as route
use Rattle.graph_routes.specs.declared.routes.Route.{Route}
use Rattle.replay_model.specs.ReplayState.{ReplayState}
use Rattle.revisions.specs.Revisions.{Contents}
use Rattle.checkpoint.specs.Saved.{saved_of}
use Rattle.run_model.specs.{declared.report.Report.Report, Moment.Environment, Moment.Run, Moment.behind, Moment.environment, Moment.run_of}
use Rattle.arguments.specs.Options.{Choices}
use Rattle.world.specs.{Codes.world_code, WorldState.WorldState}

-- the world; by which routes pages go to graphs, if they are routed; and how many asks and matches earlier runs have answered, how many
-- records of changes they wrote, and how many lines they took
pub record Moved : Type 0 where
  pub world : WorldState
  pub routes : Option (List Route)
  pub earlier : Counts

-- these
abbrev pub moved : WorldState → Option (List Route) → Counts → Moved
moved world routes earlier = record { world = world; routes = routes; earlier = earlier }

-- the same with this state of the replay
abbrev pub with_state : ReplayState → Moved → Moved
with_state state m = record { world = record { replay = state; limit = m.world.limit; mapping = m.world.mapping; by_two = m.world.by_two }; routes = m.routes; earlier = m.earlier }

-- only the state and the versions by which pages are mapped may have changed
pub record GoesOn (old new : Moved) : Type 0 where
  pub limit : new.world.limit ≡ old.world.limit
  pub routes : new.routes ≡ old.routes
  pub earlier : new.earlier ≡ old.earlier

-- how these are stored, so that contracts can tell them apart
abbrev pub moved_code : Coded Moved
moved_code =
    code_by (WorldState × (Option (List Route) × (ℕ × (ℕ × (ℕ × ℕ))))) (coded× world_code (coded× (coded_option (coded_list (route.the_row).coded)) (coded× coded_ℕ (coded× coded_ℕ (coded× coded_ℕ coded_ℕ)))))
    (λ m. (m.world, (m.routes, (m.earlier.asks, (m.earlier.matches, (m.earlier.patches, m.earlier.lines)))))) (λ c. record { world = c.0; routes = c.1.0; earlier = record { asks = c.1.1.0; matches = c.1.1.1.0; patches = c.1.1.1.1.0; lines = c.1.1.1.1.1 } })
    (λ _. refl)

-- the snapshot of its world with these counts
abbrev pub snapshot_in : Moved → Counts → List ℕ
snapshot_in m numbers = file_text (saved_of m.world numbers)

-- the run that a replay makes, behind those that left its counts
abbrev pub run_in : Moved → Report → Option Contents → Choices → Run
run_in m report contents choices = behind m.earlier (run_of m.routes report contents choices)

-- the environment of the deliveries that a replay takes
abbrev pub environment_in : Moved → Report → Option Contents → List ℕ → Environment
environment_in m report contents folder = environment m.routes report contents folder m.world.limit
