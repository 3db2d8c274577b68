-- Runs that go on from one another, and one replay of all their deliveries.
use Rattle.std.specs.Prelude.{◌≡◌, ℕ, Bool, true, false, List, ◌++◌, Option, None, IsSome}
use Rattle.delivery.specs.declared.Delivery.{Delivery}
use Rattle.replay_model.specs.{Acceptance.late, Acceptance.mark, Acceptance.version_in_force, Entries.HoldsUnlessOpen, Entries.late_events}
use Rattle.replay_model.specs.{Play.Replies, ReplayState.ReplayState, ReplayState.following, ReplayState.following_to_end}
use Rattle.replay_model.specs.Transcript.{Sections, asks, closing_text, matches, said}
use Rattle.replay_parts.specs.Checkpoint.{checkpoint_at_start, replies_of_runs}
use Rattle.graph_routes.specs.declared.routes.Route.{Route}
use Rattle.patch_stream.specs.Stream.{Step, steps_of_play, steps_to_end}
use Rattle.fetched_pages.specs.Meaning.{meaning}
use Rattle.snapshot.specs.{declared.counts.Counts.Counts, File.IsFitSaved}
use Rattle.arguments.specs.Options.{closes}
use Rattle.run_model.specs.{Course.closing_by, Course.said_by, Headline.Ending, Headline.numbers_saved}
use Rattle.run_model.specs.Moment.{Beginning, IsFirst, Moment, Run, horizon_at, start_of, kept_last, saved_at}
use Rattle.run_model.specs.{Resuming.IsResumed, Taking.HoldsDocuments}

-- a run begins where a replay of these deliveries stands
pub record StandsAfter (h : Option ℕ) (replies : Replies) (ds : List Delivery) (start : Beginning) : Type 0 where
  pub world : start.world ≡ following h replies ds
  pub version : start.mapped.version ≡ version_in_force ds

-- these count the questions among these deliveries
pub record CountsQuestions (ds : List Delivery) (numbers : Counts) : Type 0 where
  pub asks_are : numbers.asks ≡ asks ds
  pub matches_are : numbers.matches ≡ matches ds

-- where these deliveries lead, and perhaps their end
abbrev pub state_ended : Bool → Option ℕ → Replies → List Delivery → ReplayState
state_ended false h replies ds = following h replies ds
state_ended true h replies ds = following_to_end h replies ds

-- the steps of these deliveries, and perhaps of their end
abbrev pub steps_ended : Bool → Option ℕ → Replies → List Delivery → List Step
steps_ended false h replies ds = steps_of_play h replies ds
steps_ended true h replies ds = steps_to_end h replies ds

-- what a replay prints at these deliveries, and then in these sections, perhaps after their end
abbrev pub printed_in_all : Bool → Sections → Option ℕ → Replies → List Delivery → List ℕ
printed_in_all closed sections h replies ds = said meaning h replies ds ++ closing_text meaning (version_in_force ds) sections (state_ended closed h replies ds).played

-- the same, where pages are routed by these routes, if they are: the answers at these deliveries, and then these sections or the triples of
-- each graph
abbrev pub said_from_start : Option (List Route) → Option ℕ → Replies → List Delivery → List ℕ
said_from_start routes h replies ds = said_by routes replies (checkpoint_at_start h) ds

abbrev pub printed_by : Option (List Route) → Bool → Sections → Option ℕ → Replies → List Delivery → List ℕ
printed_by routes closed sections h replies ds = said_from_start routes h replies ds ++ closing_by routes (version_in_force ds) sections (state_ended closed h replies ds).played

-- what is held and named after these deliveries: what the state wants, exactly where no revision entry of the entity is open; nothing of a
-- page that isn't kept; documents of their entities; and an entry for each late delivery, in the order of these
pub record HoldsAndNames (h : Option ℕ) (ds : List Delivery) (world : ReplayState) : Type 0 where
  pub holds : HoldsUnlessOpen world.played
  pub documents : HoldsDocuments world
  pub late_ones : late_events world.played.side ≡ late h ds

-- the deliveries of a run that ended with Ok
abbrev pub deliveries_of : {run : Run} {before now : Moment} → Ending run before now → List Delivery
deliveries_of ending = ending.replayed.deliveries

-- the replies to the earlier deliveries, and after their mark those of a run that ended with Ok
abbrev pub replies_with : {run : Run} {before now : Moment} → Replies → List Delivery → Ending run before now → Replies
replies_with earlier ds ending = replies_of_runs (mark ds) earlier ending.replayed.replay.played.replies

-- ---- two runs

-- a first run that saved its world ended with Ok, and a second one went on from the snapshot that it kept last and ended with Ok
pub record TwoRuns (one two : Run) (before_one now_one before_two now_two : Moment) : Type 0 where
  pub is_first : IsFirst (start_of one before_one)
  pub first : Ending one before_one now_one
  pub open_still : closes one.choices ≡ false
  pub told : IsSome before_one.snapshot.kept
  pub fit : IsFitSaved (saved_at now_one.stage (numbers_saved first))
  pub same : before_two.resumed.left ≡ kept_last now_one.snapshot
  pub second : IsResumed None two before_two now_two

module _ {one two : Run} {before_one now_one before_two now_two : Moment} where
  -- the horizon of both
  abbrev pub horizon_of : TwoRuns one two before_one now_one before_two now_two → Option ℕ
  horizon_of runs = horizon_at (start_of one before_one)

  abbrev pub first_replies : TwoRuns one two before_one now_one before_two now_two → Replies
  first_replies runs = runs.first.replayed.replay.played.replies

  abbrev pub first_deliveries : TwoRuns one two before_one now_one before_two now_two → List Delivery
  first_deliveries runs = deliveries_of runs.first

  -- the first run's replies to events that its mark had reached, and the second's to all others
  abbrev pub all_replies : TwoRuns one two before_one now_one before_two now_two → Replies
  all_replies runs = replies_with (first_replies runs) (first_deliveries runs) runs.second.ending.outcome

  abbrev pub all_deliveries : TwoRuns one two before_one now_one before_two now_two → List Delivery
  all_deliveries runs = first_deliveries runs ++ deliveries_of runs.second.ending.outcome
