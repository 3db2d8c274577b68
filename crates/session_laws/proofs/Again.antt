-- Runs over told contents without a failed fetch are functions of where they begin, and so those that are made again are the same.
use Rattle.std.proofs.Common.{◌≡◌, refl, sym, subst, ◌∙◌, ap, ℕ, ◌+◌, Bool, true, false, length, List, ◌++◌, Option, Some}
use Rattle.wq_io.specs.Streams.{after_known}
use Rattle.delivery.specs.declared.Delivery.{Delivery}
use Rattle.replay_model.specs.{Play.Replies, Records.Bytes, Replies.failed_events, Replies.source_replies}
use Rattle.replay_model.specs.ReplayState.{ReplayState, after_end, ended}
use Rattle.replay_model.specs.Transcript.{Sections, asks, matches}
use Rattle.replay_parts.specs.Checkpoint.{Checkpoint}
use Rattle.graph_routes.specs.declared.routes.Route.{Route}
use Rattle.patch_stream.specs.Stream.{has_change, steps_due}
use Rattle.arguments.specs.Options.{closes, max_bytes_of}
use Rattle.run_model.specs.declared.report.Report.{Report}
use Rattle.run_model.specs.declared.report.Report.TheVariants.{Answers, Changes}
use Rattle.run_model.specs.Course.{along, closing_by, course_ended, course_printed, said_by, state_along, steps_of_delivery, stream_text_from, version_since}
use Rattle.run_model.specs.Headline.{Ending, course_of, numbers_saved}
use Rattle.run_model.specs.Moment.{Beginning, Moment, Run, numbers_after, numbers_of, reported_as, sections_of, standing, start_of}
use Rattle.run_model.specs.{Reading.AreDeliveries, Remapping.mapped_by, Report.bytes_of, Taking.judgement, Taking.replies_there}
use Rattle.run_model.proofs.Reading.{at_known}
use Rattle.session_laws.specs.Reruns.{BeginAlike, NoFetchFails, replies_at, reported}
use Rattle.session_laws.proofs.{Fronts.IsFront, Unfailed.none_more, Unfailed.side-ended}

-- ---- where a course leads, and what is reported of it, depends on where the run stands

module _ (routes : Option (List Route)) (closed : Bool) (ds : List Delivery) (start other : Beginning) (same : standing start ≡ standing other) (replies : Replies) where
  state_same : (course_ended routes closed ds start).state replies ≡ (course_ended routes closed ds other).state replies
  state_same = by closed
    where
      by : (b : Bool) → (course_ended routes b ds start).state replies ≡ (course_ended routes b ds other).state replies
      by false = ap (λ c. state_along replies c ds) same
      by true = ap (λ c. ended replies (state_along replies c ds)) same

  steps_same : (course_ended routes closed ds start).steps replies ≡ (course_ended routes closed ds other).steps replies
  steps_same = by closed
    where
      by : (b : Bool) → (course_ended routes b ds start).steps replies ≡ (course_ended routes b ds other).steps replies
      by false = ap (λ c. along steps_of_delivery replies c ds) same
      by true = ap (λ (c : Checkpoint). along steps_of_delivery replies c ds ++ steps_due (version_since c.version ds) replies (after_end (state_along replies c ds))) same

  pub reported_same : (report : Report) (sections : Sections) → start.numbered.patches ≡ other.numbered.patches → reported report routes closed sections ds start replies ≡ reported report routes closed sections ds other replies
  reported_same Answers sections patches = λ i. said_by routes replies (same i) ds ++ closing_by routes (version_since (same i).version ds) sections (state_same i).played
  reported_same Changes sections patches = λ i. stream_text_from (patches i) (steps_same i)

-- what is reported stands behind what was written before
pub bytes_reported : (report : Report) (routes : Option (List Route)) (closed : Bool) (sections : Sections) (ds : List Delivery) (start : Beginning) (replies : Replies) →
    bytes_of report (course_printed routes closed sections ds start) start replies ≡ after_known start.output.bytes (reported report routes closed sections ds start replies)
bytes_reported Answers routes closed sections ds start replies = refl
bytes_reported Changes routes closed sections ds start replies = refl

-- ---- one run

module _ (run : Run) (before now : Moment) (ending : Ending run before now) (unfailed : NoFetchFails before now) where
  abbrev ds : List Delivery
  ds = ending.replayed.deliveries

  abbrev start : Beginning
  start = start_of run before

  pub named_same : failed_events now.stage.world.played.side ≡ failed_events before.stage.world.played.side
  named_same =
      let played = ending.replayed.replay.played in
      let Grown : ReplayState → Type 0 = λ w. IsFront before.stage.world.played.side w.played.side in
      none_more before.stage.world.played.side now.stage.world.played.side before.stage.counts.faults now.stage.counts.faults
      (subst Grown (sym played.is) (side-ended played.replies run.environment.routes (closes run.choices) ds start)) played.counted.failed unfailed.same unfailed.below

  module _ (contents : ℕ → Option Bytes) (known : run.environment.known ≡ Some contents) where
    replies_same : replies_there contents now.stage.world ≡ replies_at contents before
    replies_same = ap (source_replies judgement contents) named_same

    pub world_told : now.stage.world ≡ (course_of run ds start).state (replies_at contents before)
    world_told = ending.replayed.replay.played.source contents known ∙ ap (course_of run ds start).state replies_same

    pub bytes_told : now.stage.output.bytes ≡ bytes_of run.environment.report (course_of run ds start) start (replies_at contents before)
    bytes_told = ending.replayed.replay.played.source_says contents known ∙ ap (bytes_of run.environment.report (course_of run ds start) start) replies_same

-- ---- two runs

-- the bytes of an input are one list of deliveries
one_list : (limit : ℕ) (bytes : List ℕ) (ds others : List Delivery) → AreDeliveries limit bytes ds → AreDeliveries limit bytes others → ds ≡ others
one_list limit bytes ds others one two = let same : Some ds ≡ Some others = sym one.delivered ∙ two.delivered in cc

pub same_standing : (run : Run) (before again : Moment) → BeginAlike before again → standing (start_of run before) ≡ standing (start_of run again)
same_standing run before again alike = λ i. record { state = sym alike.world i; version = sym alike.version i; asked = run.numbered.asks; matched = run.numbered.matches }

module _ (run : Run) (before now again done : Moment) (one : Ending run before now) (two : Ending run again done) (bytes : List ℕ) (left : before.input.left ≡ Some bytes) (left_again : again.input.left ≡ Some bytes) where
  pub same_deliveries : one.replayed.deliveries ≡ two.replayed.deliveries
  same_deliveries = one_list (max_bytes_of run.choices) bytes one.replayed.deliveries two.replayed.deliveries
      (at_known before.input.left bytes (λ b. AreDeliveries (max_bytes_of run.choices) b one.replayed.deliveries) left one.replayed.are)
      (at_known again.input.left bytes (λ b. AreDeliveries (max_bytes_of run.choices) b two.replayed.deliveries) left_again two.replayed.are)

  module _ (alike : BeginAlike before again) (contents : ℕ → Option Bytes) (known : run.environment.known ≡ Some contents) (unfailed : NoFetchFails before now) (unfailed_again : NoFetchFails again done) where
    same_replies : replies_at contents before ≡ replies_at contents again
    same_replies = ap (λ (w : ReplayState). source_replies judgement contents (failed_events w.played.side)) (sym alike.world)

    pub same_world : now.stage.world ≡ done.stage.world
    same_world =
        world_told run before now one unfailed contents known
        ∙ (λ i. (course_of run (same_deliveries i) (start_of run before)).state (same_replies i))
        ∙ state_same run.environment.routes (closes run.choices) two.replayed.deliveries (start_of run before) (start_of run again) (same_standing run before again alike) (replies_at contents again)
        ∙ sym (world_told run again done two unfailed_again contents known)

    -- if questions are answered, the counts that are saved are the same
    pub same_counts : run.environment.report ≡ Answers → numbers_saved one ≡ numbers_saved two
    same_counts answers = by run.environment.report answers
      where
        changed_alike : has_change ((course_of run one.replayed.deliveries (start_of run before)).steps one.replayed.replay.played.replies)
            ≡ has_change ((course_of run two.replayed.deliveries (start_of run again)).steps two.replayed.replay.played.replies)
        changed_alike =
            sym (one.replayed.replay.played.source_changes contents known answers)
            ∙ ap (λ r. has_change ((course_of run one.replayed.deliveries (start_of run before)).steps r)) (replies_same run before now one unfailed contents known)
            ∙ (λ i. has_change ((course_of run (same_deliveries i) (start_of run before)).steps (same_replies i)))
            ∙ ap has_change (steps_same run.environment.routes (closes run.choices) two.replayed.deliveries (start_of run before) (start_of run again) (same_standing run before again alike) (replies_at contents again))
            ∙ ap (λ r. has_change ((course_of run two.replayed.deliveries (start_of run again)).steps r)) (sym (replies_same run again done two unfailed_again contents known))
            ∙ two.replayed.replay.played.source_changes contents known answers

        by : (report : Report) → report ≡ Answers →
            numbers_of report (course_of run one.replayed.deliveries (start_of run before)).steps one.replayed.deliveries (start_of run before) one.replayed.replay.played.replies
            ≡ numbers_of report (course_of run two.replayed.deliveries (start_of run again)).steps two.replayed.deliveries (start_of run again) two.replayed.replay.played.replies
        by Answers is = λ i. numbers_after run.numbered Answers (reported_as (run.numbered.asks + asks (same_deliveries i)) (changed_alike i)) (run.numbered.matches + matches (same_deliveries i)) (run.numbered.lines + length (same_deliveries i))
        by Changes is = cc

    pub same_mapped : now.stage.mapped ≡ done.stage.mapped
    same_mapped =
        one.replayed.replay.played.mapped
        ∙ (λ i. mapped_by (version_since (sym alike.version i) (same_deliveries i)) (same_world i).played.records)
        ∙ sym two.replayed.replay.played.mapped

    pub same_bytes : before.stage.output.bytes ≡ again.stage.output.bytes → now.stage.output.bytes ≡ done.stage.output.bytes
    same_bytes alike_out =
        bytes_told run before now one unfailed contents known
        ∙ bytes_reported run.environment.report run.environment.routes (closes run.choices) (sections_of run.choices) one.replayed.deliveries (start_of run before) (replies_at contents before)
        ∙ (λ i. after_known (alike_out i) (reported run.environment.report run.environment.routes (closes run.choices) (sections_of run.choices) (same_deliveries i) (start_of run before) (same_replies i)))
        ∙ ap (after_known again.stage.output.bytes) (reported_same run.environment.routes (closes run.choices) two.replayed.deliveries (start_of run before) (start_of run again) (same_standing run before again alike) (replies_at contents again)
        run.environment.report (sections_of run.choices) refl)
        ∙ sym (bytes_reported run.environment.report run.environment.routes (closes run.choices) (sections_of run.choices) two.replayed.deliveries (start_of run again) (replies_at contents again))
        ∙ sym (bytes_told run again done two unfailed_again contents known)
