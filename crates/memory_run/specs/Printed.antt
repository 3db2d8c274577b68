-- What a first run over memory that ended with Ok printed.
use Rattle.std.specs.Prelude.{◌≡◌, ◌-◌, ◌^◌, ◌<◌, ℕ, Bool, List, [], Option, Some, length}
use Rattle.replay_model.specs.{Play.Replies, Replies.failed_events, Replies.source_replies, Transcript.Sections}
use Rattle.delivery.specs.declared.Delivery.{Delivery}
use Rattle.graph_routes.specs.declared.routes.Route.{Route}
use Rattle.patch_stream.specs.Stream.{stream_text}
use Rattle.snapshot.specs.{File.saved_in_bytes, Whole.Saved}
use Rattle.arguments.specs.Options.{closes, folder_of, max_bytes_of}
use Rattle.run_model.specs.declared.report.Report.{Report}
use Rattle.run_model.specs.declared.report.Report.TheVariants.{Answers, Changes}
use Rattle.run_model.specs.Moment.{Run, sections_of}
use Rattle.run_model.specs.OneRun.{printed_by, steps_ended}
use Rattle.run_model.specs.{Reading.AreDeliveries, Taking.judgement}
use Rattle.memory_run.specs.Runs.{Lent}

-- what is printed of these deliveries, with these replies, from nothing on: answers and sections, those of each graph if pages are routed to
-- graphs, or the records of all changes
abbrev pub reported_from_nothing : Report → Option (List Route) → Bool → Sections → Option ℕ → Replies → List Delivery → List ℕ
reported_from_nothing Answers routes closed sections horizon replies ds = printed_by routes closed sections horizon replies ds
reported_from_nothing Changes routes closed sections horizon replies ds = stream_text (steps_ended closed horizon replies ds)

-- the lines of the input are deliveries, within the limit, and this is what a replay of them prints over these pages
pub record IsPrinted (lent : Lent) (run : Run) (printed : List ℕ) : Type 0 where
  pub deliveries : List Delivery
  pub are : AreDeliveries (max_bytes_of run.choices) lent.events deliveries
  pub is : printed ≡ reported_from_nothing run.environment.report run.environment.routes (closes run.choices) (sections_of run.choices) run.choices.horizon
      (source_replies judgement (lent.pages (folder_of run.choices)) []) deliveries

-- the snapshot that is lent, if it is one, names fewer failed fetches than 64 bits count, as each one does that has fewer bytes
abbrev pub NamesFewFailures : Lent → Type 0
NamesFewFailures lent = (saved : Saved) → saved_in_bytes lent.resumed ≡ Some saved → length (failed_events saved.state.played.side) < 2 ^ 64 - 1
