-- A run that stopped wrote a prefix of what the run that is made again writes.
use Rattle.std.proofs.Common.{◌≡◌, refl, sym, subst, ◌∙◌, ap, ⊎_elim, ℕ, ◌+◌, Bool, List, [], ◌∷◌, ◌++◌, append_assoc, append-nil, length, Option, Some, IfSome, arith}
use Rattle.std.specs.Option.{option_to_list}
use Rattle.delivery.specs.{declared.Delivery.Delivery, declared.Delivery.TheVariants.Mapping}
use Rattle.entity_model.specs.declared.mapping.MappingVersion.{MappingVersion}
use Rattle.entity_state.specs.declared.entry.Entry.{Entry}
use Rattle.replay_model.specs.{Play.Replies, Records.Bytes, Replies.failed_events, Replies.source_replies}
use Rattle.replay_model.specs.ReplayState.{ReplayState, after_end, after_some}
use Rattle.replay_model.specs.Transcript.{Question, Sections, for_bindings, for_triples, asking, asks, matches, question_of}
use Rattle.replay_model.specs.Versions.{all_by}
use Rattle.replay_parts.specs.Checkpoint.{Checkpoint, advanced_by}
use Rattle.graph_routes.specs.declared.routes.Route.{Route}
use Rattle.fetched_pages.specs.Meaning.{meaning}
use Rattle.term_pool.specs.declared.fault.PoolFault.TheVariants.{Full, OutOfMemory as PoolOutOfMemory}
use Rattle.text_output.specs.declared.write.Unwritten.{Unwritten}
use Rattle.text_output.specs.declared.write.Unwritten.TheVariants.{WriteFault as NotWritten, OutOfMemory as UnwrittenOutOfMemory}
use Rattle.patch_stream.specs.Stream.{Step, steps_anew}
use Rattle.arguments.specs.Options.{closes, max_bytes_of}
use Rattle.run_model.specs.{declared.report.Report.Report, declared.stop.Halt.Halt}
use Rattle.run_model.specs.{declared.stop.Halt.TheVariants.Unapplied, declared.stop.Halt.TheVariants.Unprinted, declared.stop.Stop.Stop}
use Rattle.run_model.specs.declared.stop.Stop.TheVariants.{BadLine, ReadFault, WriteFault, TooLong, StoreFull, OutOfMemory, BadSnapshot}
use Rattle.run_model.specs.Course.{Course, all_said, along, answer_by, answer_of_delivery, answer_text, closing_by, course_after, course_begun, course_ended, course_printed, course_remapping, course_to_end, led_to, said_by, steps_of_delivery, version_at}
use Rattle.run_model.specs.Headline.{BrokenOff, IsHalted, IsInterrupted, IsPlayed, StandsAtMapping, StandsAtPage, StandsAtQuestion, Stopped, StopsAtEnd, StopsWithin, Unsaved, StandsAtSave, IsUnsaved}
use Rattle.run_model.specs.Moment.{Beginning, HasCountedAt, Moment, RoseBy, Run, SourceCounts, Stage, sections_of, standing, start_of}
use Rattle.run_model.specs.{Reading.AreDeliveries, Reading.IsPastLimit, Reading.IsRefusedLine, Report.HasReportedAt, Report.bytes_of}
use Rattle.run_model.specs.Taking.{IsWithin, entered_if_any, judgement, replies_there}
use Rattle.run_model.proofs.{Along.asked-along, Along.matched-along, Along.version-along, Reading.at_known}
use Rattle.session_laws.specs.Reruns.{NoFetchFails, WritesPrefix, replies_at, reported}
use Rattle.session_laws.proofs.Beginnings.{Begins, begins-all, begins-fewer, first_begins}
use Rattle.session_laws.proofs.{Complete.none_refused, Fronts.IsFront, Fronts.front_all, Fronts.front_on, Fronts.writes}
use Rattle.session_laws.proofs.Again.{bytes_reported}
use Rattle.session_laws.proofs.Unfailed.{none_more, side-along, side-ended, side-entered, side-some}
use Rattle.session_laws.proofs.Prefixes.{along-append, steps_first, said_first, cut_behind, first_written, within_written, whole_begins}

-- ---- a run that stopped

-- the counter of failures rose by the failed fetches, however far the run came
failed_at : (halt : Halt) (start now : SourceCounts) (named : List Entry) (made : ℕ) (side : List Entry) → HasCountedAt halt start now named made side → RoseBy (length (failed_events side)) start.faults (length (failed_events named) + now.faults)
failed_at (Unapplied Full) start now named made side counted = counted.failed
failed_at (Unapplied PoolOutOfMemory) start now named made side counted = ⊎_elim (λ one. one.failed) (λ other. other.failed) counted
failed_at (Unprinted why) start now named made side counted = counted.failed

question_there : (question : Question) → question_of (asking question) ≡ Some question
question_there (for_triples pattern) = refl
question_there (for_bindings shapes) = refl

module _ (run : Run) (before now : Moment) (contents : ℕ → Option Bytes) (known : run.environment.known ≡ Some contents) (unfailed : NoFetchFails before now)
    (bytes : List ℕ) (left : before.input.left ≡ Some bytes) (ds : List Delivery) (are : AreDeliveries (max_bytes_of run.choices) bytes ds) where
  abbrev start : Beginning
  start = start_of run before

  abbrev replies : Replies
  replies = replies_at contents before

  abbrev routes : Option (List Route)
  routes = run.environment.routes

  abbrev report : Report
  report = run.environment.report

  abbrev closed : Bool
  closed = closes run.choices

  abbrev sections : Sections
  sections = sections_of run.choices

  abbrev text : List ℕ
  text = reported report routes closed sections ds start replies

  abbrev Written : Type 0
  Written = WritesPrefix text before.stage.output.bytes now.stage.output.bytes

  abbrev Grown : ReplayState → Type 0
  Grown w = IsFront before.stage.world.played.side w.played.side

  -- the side output names no other failed fetches
  same_replies : (world : ReplayState) → Grown world → RoseBy (length (failed_events world.played.side)) before.stage.counts.faults (length (failed_events before.stage.world.played.side) + now.stage.counts.faults) → replies_there contents world ≡ replies
  same_replies world grown rose = ap (source_replies judgement contents) (none_more before.stage.world.played.side world.played.side before.stage.counts.faults now.stage.counts.faults grown rose unfailed.same unfailed.below)

  module _ (course : Course) (stage : Stage) (played : IsPlayed run.environment course start stage) (faults : stage.counts.faults ≡ now.stage.counts.faults) (grows : (r : Replies) → Grown (course.state r)) where
    played_replies : replies_there contents stage.world ≡ replies
    played_replies = same_replies stage.world (subst Grown (sym played.is) (grows played.replies))
        (subst (λ n. RoseBy (length (failed_events stage.world.played.side)) before.stage.counts.faults (length (failed_events before.stage.world.played.side) + n)) faults played.counted.failed)

    played_is : stage.world ≡ course.state replies
    played_is = played.source contents known ∙ ap course.state played_replies

    played_says : stage.output.bytes ≡ bytes_of report course start replies
    played_says = played.source_says contents known ∙ ap (bytes_of report course start) played_replies

  along_grows : (first : List Delivery) (r : Replies) → Grown (led_to first start r)
  along_grows first r = side-along r (standing start) first

  same_list : (others : List Delivery) → IfSome before.input.left (λ b. AreDeliveries (max_bytes_of run.choices) b others) → others ≡ ds
  same_list others there =
      let one : AreDeliveries (max_bytes_of run.choices) bytes others = at_known before.input.left bytes (λ b. AreDeliveries (max_bytes_of run.choices) b others) left there in
      let same : Some others ≡ Some ds = sym one.delivered ∙ are.delivered in
      cc

  after_written : (first : List Delivery) → Begins ds first → IsPlayed run.environment (course_after routes first start) start now.stage → Written
  after_written first begins played =
      first_written routes closed sections ds start replies report (course_after routes first start) first now.stage.output.bytes begins (steps_first routes closed sections ds first start replies begins) refl
      (played_says (course_after routes first start) now.stage played refl (along_grows first))

  -- ---- between deliveries, and within one

  within_replies : (halt : Halt) (course : Course) (begun : Replies → ReplayState) → IsWithin halt run.environment course begun start now.stage → ((r : Replies) → Grown (begun r)) → replies_there contents now.stage.world ≡ replies
  within_replies halt course begun within grows =
      same_replies now.stage.world
      (subst Grown (sym within.is) (front_on before.stage.world.played.side (begun within.replies).played.side (after_some within.replies within.steps (begun within.replies)).played.side (grows within.replies) (side-some within.replies within.steps (begun within.replies))))
      (failed_at halt before.stage.counts now.stage.counts before.stage.world.played.side within.made now.stage.world.played.side within.counted)

  within_says : (halt : Halt) (course : Course) (begun : Replies → ReplayState) (within : IsWithin halt run.environment course begun start now.stage) → ((r : Replies) → Grown (begun r)) → HasReportedAt halt report course start now.stage replies
  within_says halt course begun within grows = subst (λ r. HasReportedAt halt report course start now.stage r) (within_replies halt course begun within grows) (within.source_says contents known)

  stops_within : (halt : Halt) → StopsWithin halt run before now → Written
  stops_within halt stops =
      let more : List Delivery = stops.deliveries ++ option_to_list stops.last in
      let begun : Replies → ReplayState = λ r. entered_if_any (led_to stops.deliveries start r) stops.last in
      let course : Course = course_begun routes stops.deliveries stops.last start in
      let begins : Begins ds more = first_begins (max_bytes_of run.choices) before.input.left now.input.left bytes more ds left are stops.first in
      within_written routes closed sections ds start replies halt report course stops.deliveries now.stage (begins-fewer ds stops.deliveries (option_to_list stops.last) begins)
      (steps_first routes closed sections ds more start replies begins) refl
      (within_says halt course begun stops.within (λ r. front_on before.stage.world.played.side (led_to stops.deliveries start r).played.side (begun r).played.side (along_grows stops.deliveries r) (side-entered r (led_to stops.deliveries start r) stops.last)))

  stops_at_end : (halt : Halt) → StopsAtEnd halt run before now → Written
  stops_at_end halt stops =
      let all : List Delivery = stops.deliveries in
      let course : Course = course_to_end routes all start in
      let whole : IsFront (course.steps replies) ((course_ended routes closed all start).steps replies) =
      subst (λ c. IsFront (course.steps replies) ((course_ended routes c all start).steps replies)) (sym stops.closed) (front_all (course.steps replies)) in
      let same : all ≡ ds = same_list all stops.are in
      subst (λ l. WritesPrefix (reported report routes closed sections l start replies) before.stage.output.bytes now.stage.output.bytes) same
      (within_written routes closed sections all start replies halt report course all now.stage (begins-all all) whole refl
      (within_says halt course (λ r. after_end (led_to all start r)) stops.within (λ r. along_grows all r)))

  halted : (halt : Halt) → IsHalted halt run before now → Written
  halted halt stands = ⊎_elim (stops_within halt) (stops_at_end halt) stands

  -- ---- while pages are remapped

  pages_first : (first : List Delivery) (version : MappingVersion) (world : ReplayState) (pages more : List Step) → world ≡ led_to first start replies →
      pages ++ more ≡ steps_anew version world.played.records (all_by (version_at first start) world.played.records) →
      IsFront (along steps_of_delivery replies (standing start) first ++ pages) (along steps_of_delivery replies (standing start) (first ++ Mapping version ∷ []))
  pages_first first version world pages more is made =
      let there : Checkpoint = advanced_by replies (standing start) first in
      let one : List Step = steps_of_delivery replies there (Mapping version) in
      let same : one ≡ pages ++ more = (λ i. steps_anew version (sym is i).played.records (all_by (version-along replies (standing start) first i) (sym is i).played.records)) ∙ sym made in
      record {
        rest = more;
        is = along-append steps_of_delivery replies (standing start) first (Mapping version ∷ [])
            ∙ ap (λ l. along steps_of_delivery replies (standing start) first ++ l) (append-nil one ∙ same)
            ∙ sym (append_assoc (along steps_of_delivery replies (standing start) first) pages more);
      }

  at_mapping : StandsAtMapping run before now → Written
  at_mapping stands =
      let first : List Delivery = stands.deliveries in
      let more : List Delivery = first ++ Mapping stands.version ∷ [] in
      let course : Course = course_remapping routes stands.pages first start in
      let begins : Begins ds more = first_begins (max_bytes_of run.choices) before.input.left now.input.left bytes more ds left are stands.first.first in
      let pages = pages_first first stands.version now.stage.world stands.pages _ (played_is course _ stands.played refl (along_grows first)) stands.are in
      first_written routes closed sections ds start replies report course first now.stage.output.bytes (begins-fewer ds first (Mapping stands.version ∷ []) begins)
      (front_on (course.steps replies) (along steps_of_delivery replies (standing start) more) ((course_ended routes closed ds start).steps replies) pages (steps_first routes closed sections ds more start replies begins)) refl
      (played_says course _ stands.played refl (along_grows first))

  -- ---- while it printed

  at_question : (why : Unwritten) → StandsAtQuestion why run before now → Written
  at_question why stands =
      let first : List Delivery = stands.deliveries in
      let more : List Delivery = first ++ asking stands.question ∷ [] in
      let there : Checkpoint = advanced_by replies (standing start) first in
      let begins : Begins ds more = first_begins (max_bytes_of run.choices) before.input.left now.input.left bytes more ds left are stands.first.first in
      let says = played_says (course_after routes first start) _ stands.played refl (along_grows first) in
      let is : now.stage.world ≡ led_to first start replies = played_is (course_after routes first start) _ stands.played refl (along_grows first) in
      let answer : List ℕ = answer_text routes (run.numbered.asks + asks first) (run.numbered.matches + matches first) (meaning (version_at first start)) now.stage.world.played.records stands.question in
      let same : answer_of_delivery routes replies there (asking stands.question) ≡ answer =
      ap (answer_by routes there) (question_there stands.question)
      ∙ (λ i. answer_text routes (asked-along replies (standing start) first i) (matched-along replies (standing start) first i) (meaning (version-along replies (standing start) first i)) (sym is i).played.records stands.question) in
      let front : IsFront (said_by routes replies (standing start) first ++ answer) (all_said routes closed sections ds start replies) =
      subst (λ l. IsFront l (all_said routes closed sections ds start replies))
      (along-append (answer_of_delivery routes) replies (standing start) first (asking stands.question ∷ []) ∙ ap (λ l. said_by routes replies (standing start) first ++ l) (append-nil _ ∙ same))
      (said_first routes closed sections ds more start replies begins) in
      subst (λ r. WritesPrefix (reported r routes closed sections ds start replies) before.stage.output.bytes now.stage.output.bytes) (sym stands.answers)
      (cut_behind why (all_said routes closed sections ds start replies) (said_by routes replies (standing start) first) answer before.stage.output stands.between now.stage.output front
      (says ∙ ap (λ r. bytes_of r (course_after routes first start) start replies) stands.answers) stands.cut_short)

  broken_off : (why : Unwritten) → BrokenOff why run before now → Written
  broken_off why stands =
      let all : List Delivery = stands.replayed.deliveries in
      let course : Course = course_ended routes closed all start in
      let played = stands.replayed.replay.played in
      let says = played_says course _ played refl (λ r. side-ended r routes closed all start) in
      let is : now.stage.world ≡ course.state replies = played_is course _ played refl (λ r. side-ended r routes closed all start) in
      let closing : List ℕ = closing_by routes (version_at all start) sections now.stage.world.played in
      let front : IsFront (said_by routes replies (standing start) all ++ closing) (all_said routes closed sections all start replies) = record {
        rest = [];
        is = ap (λ (w : ReplayState). said_by routes replies (standing start) all ++ closing_by routes (version_at all start) sections w.played) (sym is)
            ∙ sym (append-nil (said_by routes replies (standing start) all ++ closing));
      } in
      subst (λ l. WritesPrefix (reported report routes closed sections l start replies) before.stage.output.bytes now.stage.output.bytes) (same_list all stands.replayed.are)
      (subst (λ r. WritesPrefix (reported r routes closed sections all start replies) before.stage.output.bytes now.stage.output.bytes) (sym stands.answers)
      (cut_behind why (all_said routes closed sections all start replies) (said_by routes replies (standing start) all) closing before.stage.output stands.between now.stage.output front
      (says ∙ ap (λ r. bytes_of r course start replies) stands.answers) stands.cut_short))

  unsaved_at_end : Unsaved run before now → Written
  unsaved_at_end stands =
      let all : List Delivery = stands.printed.replayed.deliveries in
      let says = played_says (course_printed routes closed sections all start) now.stage stands.printed.replayed.replay.played refl (λ r. side-ended r routes closed all start) in
      subst (λ l. WritesPrefix (reported report routes closed sections l start replies) before.stage.output.bytes now.stage.output.bytes) (same_list all stands.printed.replayed.are)
      (writes (reported report routes closed sections all start replies) (reported report routes closed sections all start replies) before.stage.output.bytes now.stage.output.bytes
      (front_all (reported report routes closed sections all start replies)) (says ∙ bytes_reported report routes closed sections all start replies))

  at_save : StandsAtSave run before now → Written
  at_save stands =
      let begins : Begins ds stands.deliveries = first_begins (max_bytes_of run.choices) before.input.left now.input.left bytes stands.deliveries ds left are stands.first.first in
      after_written stands.deliveries begins stands.played

  unsaved : IsUnsaved run before now → Written
  unsaved stands = ⊎_elim unsaved_at_end at_save stands

  module _ (no_page : (why : Unwritten) → StandsAtPage why run before now → ⊥) where
    interrupted : (why : Unwritten) → IsInterrupted why run before now → Written
    interrupted why stands = ⊎_elim
        (λ answering. ⊎_elim (at_question why) (broken_off why) answering)
        (λ telling. ⊎_elim (halted (Unprinted why)) (λ page. absurd (no_page why page)) telling)
        stands

    pub stopped_written : (stop : Stop) → Stopped stop run before now → Written
    stopped_written (BadLine number cause) stopped =
        none_refused (max_bytes_of run.choices) bytes ds stopped.deliveries number cause are
        (at_known before.input.left bytes (λ b. IsRefusedLine (max_bytes_of run.choices) b stopped.deliveries number cause) left stopped.bad)
    stopped_written ReadFault stopped =
        after_written stopped.1.deliveries (whole_begins (max_bytes_of run.choices) before.input.left now.input.left bytes stopped.1.deliveries ds left are stopped.1.whole) stopped.1.played
    stopped_written WriteFault stopped = ⊎_elim (λ out. interrupted NotWritten out.1) (λ file. unsaved file.1) stopped
    stopped_written TooLong stopped =
        let past = at_known before.input.left bytes (λ b. IsPastLimit (max_bytes_of run.choices) b stopped.deliveries) left stopped.past in
        absurd (omega (arith, past.more, are.within))
    stopped_written StoreFull stopped = ⊎_elim (λ full. halted (Unapplied Full) full.1) (λ full. at_mapping full.1) stopped
    stopped_written OutOfMemory stopped = ⊎_elim
        (λ some. ⊎_elim (λ applying. ⊎_elim (halted (Unapplied PoolOutOfMemory)) at_mapping applying) (interrupted UnwrittenOutOfMemory) some)
        unsaved
        stopped
    stopped_written (BadSnapshot number) stopped = absurd stopped
