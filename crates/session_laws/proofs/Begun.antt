-- What a run that stopped wrote, beside what the run wrote that was made again.
use Rattle.std.proofs.Common.{◌≡◌, refl, sym, subst, ◌∙◌, ap, ℕ, List, [], Option, Some}
use Rattle.wq_io.specs.Streams.{after_known}
use Rattle.delivery.specs.declared.Delivery.{Delivery}
use Rattle.replay_model.specs.{Records.Bytes, Replies.failed_events, Replies.source_replies, ReplayState.ReplayState}
use Rattle.text_output.specs.declared.write.Unwritten.{Unwritten}
use Rattle.arguments.specs.Options.{closes, max_bytes_of}
use Rattle.run_model.specs.{declared.report.Report.TheVariants.Changes, declared.stop.Stop.Stop, Course.stream_text_from}
use Rattle.run_model.specs.Headline.{Ending, StandsAtPage, Stopped, course_of}
use Rattle.run_model.specs.{Moment.Moment, Moment.Run, Moment.sections_of, Moment.start_of, Reading.AreDeliveries, Report.bytes_of}
use Rattle.run_model.specs.Taking.{judgement}
use Rattle.run_model.proofs.Reading.{at_known}
use Rattle.session_laws.specs.Complete.{steps_made}
use Rattle.session_laws.specs.Reruns.{AreTold, BeginAlike, WritesFirst, WritesPrefix, records_from, replies_at, reported}
use Rattle.session_laws.proofs.Fronts.{one_text, writes_first}
use Rattle.session_laws.proofs.{Again.bytes_reported, Again.bytes_told, Again.reported_same, Again.same_standing, Stopped.stopped_written}

module _ (run : Run) (before now again done : Moment) (ending : Ending run again done) (contents : ℕ → Option Bytes) (bytes : List ℕ) (place : BeginAlike before again) (told : AreTold run contents bytes before now again done)
    (stop : Stop) (stopped : Stopped stop run before now) (no_page : (why : Unwritten) → StandsAtPage why run before now → ⊥) where
  abbrev ds : List Delivery
  ds = ending.replayed.deliveries

  -- what is reported of all deliveries from where both runs begin
  abbrev text_at : Moment → List ℕ
  text_at m = reported run.environment.report run.environment.routes (closes run.choices) (sections_of run.choices) ds (start_of run m) (replies_at contents m)

  same_text : text_at before ≡ text_at again
  same_text =
      ap (λ (w : ReplayState). reported run.environment.report run.environment.routes (closes run.choices) (sections_of run.choices) ds (start_of run before) (source_replies judgement contents (failed_events w.played.side))) (sym place.world)
      ∙ reported_same run.environment.routes (closes run.choices) ds (start_of run before) (start_of run again) (same_standing run before again place) (replies_at contents again) run.environment.report (sections_of run.choices) refl

  prefix : WritesPrefix (text_at again) before.stage.output.bytes now.stage.output.bytes
  prefix = subst (λ t. WritesPrefix t before.stage.output.bytes now.stage.output.bytes) same_text
      (stopped_written run before now contents told.known told.unfailed bytes told.left ds (at_known again.input.left bytes (λ b. AreDeliveries (max_bytes_of run.choices) b ds) told.left_again ending.replayed.are) no_page stop stopped)

  output_is : done.stage.output.bytes ≡ after_known again.stage.output.bytes (text_at again)
  output_is = bytes_told run again done ending told.unfailed_again contents told.known
      ∙ bytes_reported run.environment.report run.environment.routes (closes run.choices) (sections_of run.choices) ds (start_of run again) (replies_at contents again)

  pub prefix_written : (text : List ℕ) → again.stage.output.bytes ≡ Some [] → done.stage.output.bytes ≡ Some text → WritesPrefix text before.stage.output.bytes now.stage.output.bytes
  prefix_written text empty is =
      let same : Some (text_at again) ≡ Some text = sym (output_is ∙ ap (λ b. after_known b (text_at again)) empty) ∙ is in
      let one : text_at again ≡ text = cc in
      subst (λ t. WritesPrefix t before.stage.output.bytes now.stage.output.bytes) one prefix

  pub records_written : (written : List ℕ) → again.stage.output.bytes ≡ Some written → run.environment.report ≡ Changes →
      WritesFirst (records_from run.numbered.patches (steps_made run again done ending)) before.stage.output.bytes now.stage.output.bytes
  records_written written there reports =
      let stream : List ℕ = stream_text_from run.numbered.patches (steps_made run again done ending) in
      let says : done.stage.output.bytes ≡ after_known again.stage.output.bytes stream =
      ending.replayed.replay.played.says ∙ ap (λ report. bytes_of report (course_of run ds (start_of run again)) (start_of run again) ending.replayed.replay.played.replies) reports in
      let same : text_at again ≡ stream = one_text again.stage.output.bytes written (text_at again) stream there (sym output_is ∙ says) in
      writes_first (records_from run.numbered.patches (steps_made run again done ending)) before.stage.output.bytes now.stage.output.bytes
      (subst (λ t. WritesPrefix t before.stage.output.bytes now.stage.output.bytes) same prefix)
