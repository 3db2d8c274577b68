-- What a delivery, and the end of the input, make of a world at rest.
use Rattle.std.proofs.Common.{refl, inl, inr, sym, subst, ap, ◌∙◌, ◌≡◌, ℕ, ◌+◌, ◌≤◌, ℤ, false, List, [], ◌∷◌, ◌++◌, length, append-nil, unwrap_or, None, Some, Ok, Err, arith}
use Rattle.wq_io.specs.Streams.{after_known}
use Rattle.entity_model.specs.{declared.event.Event.Event, declared.id.EntityId.EntityId, declared.mapping.MappingVersion.MappingVersion}
use Rattle.delivery.specs.declared.Delivery.{Delivery}
use Rattle.delivery.specs.declared.Delivery.TheVariants.{Event as Told, Watermark, Ask, Mapping, Match}
use Rattle.entity_state.specs.declared.entry.Entry.{Entry}
use Rattle.reorder_buffer.specs.{declared.taken.Taken.Taken, Buffered.answer_to, Buffered.first_due}
use Rattle.replay_model.proofs.{ToldContents.Each-append, Applied.applied-end, Applied.applied-event, Applied.applied-mark}
use Rattle.replay_model.proofs.{Explaining.Explained-is, Explaining.Explained-rests, Fetching.failed-taken, Fetching.missing-taken}
use Rattle.replay_model.specs.{Acceptance.mapping_of, Explained.AgreeOnApplied, Records.Records, Versions.all_by, Play.Replies}
use Rattle.replay_model.specs.Replies.{failed_events, missing_events}
use Rattle.replay_model.specs.ReplayState.{ReplayState, after_end, after_event, after_mark, delivered, entered, taken_entries}
use Rattle.replay_model.specs.Transcript.{Question, for_triples, for_bindings, asking, asks, matches, question_of}
use Rattle.replay_parts.specs.Checkpoint.{Checkpoint, advanced, advanced_by}
use Rattle.fetched_pages.specs.Meaning.{meaning}
use Rattle.run_model.specs.Moment.{SourceCounts, HasCounted, RoseBy, Beginning, Environment, Stage, with_mapped, with_output, with_world, standing}
use Rattle.run_model.specs.{declared.report.Report.Report, declared.report.Reported.Reported}
use Rattle.run_model.specs.{declared.report.Report.TheVariants.Answers, declared.report.Report.TheVariants.Changes, declared.stop.Halt.Halt}
use Rattle.run_model.specs.{declared.stop.Halt.TheVariants.Unapplied as NotApplied, declared.stop.Stop.TheVariants.OutOfMemory}
use Rattle.run_model.specs.Course.{along, state_along, steps_of_delivery, answer_by, answer_held, answer_of_delivery, answer_text, said_by, Course, course_after, course_begun, course_remapping, course_to_end, led_to, said_behind, version_at}
use Rattle.run_model.specs.Remapping.{HaveRoom, HaveRoomBefore, needed_anew, needed_of_delivery, needed_by_due, KeepsVersion, Mapped, Need, mapped_by}
use Rattle.run_model.specs.{Report.HasReported, Stop.stop_of_halt, Stop.stop_of_unwritten, Taking.IsWithin, Taking.judgement}
use Rattle.run_model.specs.Delivering.{AnswersQuestion, HasAnswered, TellsBy, AppliesDue, AtEnd, AtRest, CutsOff, IsHeldUp, Leads, RemapsPages, StaysWithin, turn}
use Rattle.text_output.specs.{declared.write.Unwritten.Unwritten, Printing.Output}
use Rattle.text_output.proofs.Parts.{after_twice}
use Rattle.patch_stream.specs.Stream.{Step, changes, steps_anew, steps_due}
use Rattle.term_pool.specs.declared.fault.PoolFault.TheVariants.{OutOfMemory as PoolOutOfMemory}
use Rattle.run_model.proofs.Due.{no_call, within}
use Rattle.run_model.proofs.Along.{along-push, along-still, asked-along, asks-push, matched-along, version-along, version-push}
use Rattle.run_model.proofs.Answers.{answer_held_by}
use Rattle.run_model.proofs.Explaining.{along-asking, along-end, along-event, along-mapping, along-mark, asking_replies, end_replies, event_replies, event_rests, mapping_replies, mark_replies, open-taking}
use Rattle.run_model.proofs.Needed.{all_met, due-none, first_met, needed-mapping, needed-watermark, none_left}
use Rattle.run_model.proofs.Reports.{changed_with, reported_still, steps_handed, steps-mapping, steps-none, steps-watermark}

-- a question is the delivery that asks it, makes no step, needs no room and brings no version of the mapping
pub question-asked : (q : Question) → question_of (asking q) ≡ Some q
question-asked (for_triples pattern) = refl
question-asked (for_bindings shapes) = refl

asking-steps : (replies : Replies) (c : Checkpoint) (q : Question) → steps_of_delivery replies c (asking q) ≡ []
asking-steps replies c (for_triples pattern) = refl
asking-steps replies c (for_bindings shapes) = refl

asking-needs : (replies : Replies) (c : Checkpoint) (q : Question) → needed_of_delivery replies c (asking q) ≡ []
asking-needs replies c (for_triples pattern) = refl
asking-needs replies c (for_bindings shapes) = refl

asking-mapping : (q : Question) → mapping_of (asking q) ≡ None
asking-mapping (for_triples pattern) = refl
asking-mapping (for_bindings shapes) = refl

-- a delivery that doesn't ask is no answer
answered_still : (report : Report) (reported : Reported) (ds : List Delivery) (d : Delivery) (start : Beginning) → asks (d ∷ []) ≡ 0 → HasAnswered report reported ds start → HasAnswered report reported (ds ++ d ∷ []) start
answered_still Answers reported ds d start none is = omega (arith, is, asks-push ds d, none)
answered_still Changes reported ds d start none is = tt

-- and neither is one that tells nothing where questions are answered
answered_then : (report : Report) (reported reported_now : Reported) (ds : List Delivery) (d : Delivery) (start : Beginning) → asks (d ∷ []) ≡ 0 → (report ≡ Answers → reported_now.number ≡ reported.number) → HasAnswered report reported ds start →
    HasAnswered report reported_now (ds ++ d ∷ []) start
answered_then Answers reported reported_now ds d start none same is = omega (arith, is, asks-push ds d, none, same refl)
answered_then Changes reported reported_now ds d start none same is = tt

-- where questions are answered, so many were
pub is_answer : (ds : List Delivery) (start : Beginning) (report : Report) (reported : Reported) → HasAnswered report reported ds start → report ≡ Answers → reported.number ≡ start.numbered.asks + asks ds
is_answer ds start Answers reported is answers = is
is_answer ds start Changes reported is answers = cc

-- a delivery closes nothing
delivered_open : (replies : Replies) (w : ReplayState) (d : Delivery) → (delivered replies w d).buffer.closed ≡ w.buffer.closed
delivered_open replies w (Told e) = open-taking w.buffer e
delivered_open replies w (Watermark m) = refl
delivered_open replies w (Ask q) = refl
delivered_open replies w (Match q) = refl
delivered_open replies w (Mapping v) = refl

open_along : (replies : Replies) (c : Checkpoint) (ds : List Delivery) → (state_along replies c ds).buffer.closed ≡ c.state.buffer.closed
open_along replies c [] = refl
open_along replies c (d ∷ ds) = open_along replies (advanced replies c d) ds ∙ delivered_open replies c.state d

module _ (environment : Environment) (ds : List Delivery) (start : Beginning) where
  -- where a delivery doesn't ask, what was said before it is said with it
  silent : (d : Delivery) (replies : Replies) → answer_of_delivery environment.routes replies (advanced_by replies (standing start) ds) d ≡ [] → said_behind environment.routes (ds ++ d ∷ []) start replies ≡ said_behind environment.routes ds start replies
  silent d replies none = ap (after_known start.output.bytes) (along-still (answer_of_delivery environment.routes) replies (standing start) ds d none)

  -- where no event is due, the steps so far are all of the play
  all_steps : (now : Stage) (others : Replies) (first : List Step) → first_due now.world.buffer ≡ None → first ++ steps_due (version_at ds start) others now.world ≡ along steps_of_delivery others (standing start) ds → first ≡ along steps_of_delivery others (standing start) ds
  all_steps now others first none are = sym (append-nil first) ∙ ap (λ l. first ++ l) (sym (steps-none (version_at ds start) others now.world none)) ∙ are

  -- where a delivery makes no step and says nothing, what was reported before it is reported with it
  still_reported : (now then : Stage) (reported : Reported) (d : Delivery) (others : Replies) → then.output ≡ now.output → first_due now.world.buffer ≡ None → first_due then.world.buffer ≡ None →
      (environment.report ≡ Answers → answer_of_delivery environment.routes others (advanced_by others (standing start) ds) d ≡ []) → steps_of_delivery others (advanced_by others (standing start) ds) d ≡ [] →
      HasReported environment.report (course_after environment.routes ds start) reported start now others → HasReported environment.report (course_after environment.routes (ds ++ d ∷ []) start) reported start then others
  still_reported now then reported d others same rests rests_then says none =
      reported_still environment.report (course_after environment.routes ds start) (course_after environment.routes (ds ++ d ∷ []) start) reported start now then others same
      (λ answers. silent d others (says answers))
      (λ first are. ap (λ l. first ++ l) (steps-none (version_at (ds ++ d ∷ []) start) others then.world rests_then) ∙ append-nil first
      ∙ all_steps now others first rests are ∙ sym (along-still steps_of_delivery others (standing start) ds d none))

  -- an event that is taken is no fetch
  counted_taking : (now : SourceCounts) (made : ℕ) (side : List Entry) (answer : Taken) (e : Event) → HasCounted start.counts now start.world.played.side made side → HasCounted start.counts now start.world.played.side made (side ++ taken_entries answer e)
  counted_taking now made side answer e counted =
      let Failed : List Event → Type 0 = λ es. RoseBy (length es) start.counts.faults (length (failed_events start.world.played.side) + now.faults) in
      let Missing : List Event → Type 0 = λ es. RoseBy (length es) start.counts.misses (length (missing_events start.world.played.side) + now.misses) in
      record {
        calls = counted.calls;
        failed = subst Failed (sym (failed-taken side answer e)) counted.failed;
        missing = subst Missing (sym (missing-taken side answer e)) counted.missing;
      }

  -- a world at rest is where the play is, with all replies that agree on what was applied
  rest_is : (now : Stage) (reported : Reported) (at_rest : AtRest environment ds reported start now) (others : Replies) → AgreeOnApplied now.world at_rest.leads.explained.replies others → now.world ≡ led_to ds start others
  rest_is now reported at_rest =
      Explained-rests judgement environment.known (course_after environment.routes ds start).state (course_after environment.routes ds start).fetched at_rest.leads.made now.world at_rest.leads.explained at_rest.rests

  -- there was room for all that the play needs
  rest_room : (now : Stage) (reported : Reported) (at_rest : AtRest environment ds reported start now) (others : Replies) → AgreeOnApplied now.world at_rest.leads.explained.replies others → HaveRoom environment.limit (along needed_of_delivery others (standing start) ds)
  rest_room now reported at_rest others agree =
      all_met environment.limit (needed_by_due (version_at ds start) others now.world) (along needed_of_delivery others (standing start) ds) (due-none (version_at ds start) others now.world at_rest.rests) (at_rest.leads.roomed others agree)

  -- and so it is behind a delivery that needs none, where no event is due
  still_room : (d : Delivery) (others : Replies) (world : ReplayState) → first_due world.buffer ≡ None → needed_of_delivery others (advanced_by others (standing start) ds) d ≡ [] →
      HaveRoom environment.limit (along needed_of_delivery others (standing start) ds) →
      HaveRoomBefore environment.limit (needed_by_due (version_at (ds ++ d ∷ []) start) others world) (along needed_of_delivery others (standing start) (ds ++ d ∷ []))
  still_room d others world rests none have =
      none_left environment.limit (needed_by_due (version_at (ds ++ d ∷ []) start) others world) (along needed_of_delivery others (standing start) (ds ++ d ∷ [])) (due-none (version_at (ds ++ d ∷ []) start) others world rests)
      (subst (HaveRoom environment.limit) (sym (along-still needed_of_delivery others (standing start) ds d none)) have)

  -- where a delivery brings no version, every page is mapped by the version in force after it too
  still_mapped : (before now : Records) (d : Delivery) → mapping_of d ≡ None → (old new : Mapped) → KeepsVersion old new before now → old ≡ mapped_by (version_at ds start) before → new ≡ mapped_by (version_at (ds ++ d ∷ []) start) now
  still_mapped before now d none old new keeps is = keeps (version_at ds start) is ∙ ap (λ v. mapped_by v now) (sym (version-push start.mapped.version ds d ∙ ap (λ o. unwrap_or o (version_at ds start)) none))

  -- a world at rest isn't closed
  pub rest_open : (now : Stage) (reported : Reported) → AtRest environment ds reported start now → now.world.buffer.closed ≡ false
  rest_open now reported at_rest =
      ap (λ (w : ReplayState). w.buffer.closed)
      (Explained-is judgement environment.known (course_after environment.routes ds start).state (course_after environment.routes ds start).fetched at_rest.leads.made now.world at_rest.leads.explained at_rest.rests)
      ∙ open_along at_rest.leads.explained.replies (standing start) ds
      ∙ at_rest.begun

  -- an event is taken
  pub event_taken : (now : Stage) (reported : Reported) (e : Event) → AtRest environment ds reported start now → AtRest environment (ds ++ Told e ∷ []) reported start (with_world now (after_event now.world e))
  event_taken now reported e at_rest =
      let rests : first_due (after_event now.world e).buffer ≡ None = event_rests judgement environment.known (standing start) ds at_rest.leads.made now.world at_rest.leads.explained at_rest.rests (rest_open now reported at_rest) e in
      record {
        leads = record {
          made = at_rest.leads.made;
          explained = along-event judgement environment.known (standing start) ds at_rest.leads.made now.world at_rest.leads.explained at_rest.rests (rest_open now reported at_rest) e;
          roomed = λ others agree. still_room (Told e) others (after_event now.world e) rests refl
              (rest_room now reported at_rest others
              (λ q r h. agree q r (applied-event now.world e q (rest_open now reported at_rest) ∙ h) ∙ ap (λ (replies : Replies). replies q r) (event_replies judgement environment.known (standing start) ds at_rest.leads.made now.world at_rest.leads.explained at_rest.rests (rest_open now reported at_rest) e)));
          counted = counted_taking now.counts at_rest.leads.made now.world.played.side (answer_to now.world.buffer e) e at_rest.leads.counted;
          documents = at_rest.leads.documents;
          handed = at_rest.leads.handed;
          says = λ others agree. still_reported now (with_world now (after_event now.world e)) reported (Told e) others refl at_rest.rests rests (λ answers. refl) refl (at_rest.leads.says others
              (λ q r h. agree q r (applied-event now.world e q (rest_open now reported at_rest) ∙ h) ∙ ap (λ (replies : Replies). replies q r) (event_replies judgement environment.known (standing start) ds at_rest.leads.made now.world at_rest.leads.explained at_rest.rests (rest_open now reported at_rest) e)));
        };
        answered = answered_still environment.report reported ds (Told e) start refl at_rest.answered;
        mapped = still_mapped now.world.played.records now.world.played.records (Told e) refl now.mapped now.mapped (λ version is. is) at_rest.mapped;
        rests = rests;
        begun = at_rest.begun;
        later = at_rest.later;
      }

  -- the play with a watermark, which says what was said before
  abbrev course_of_mark : ℤ → Course
  course_of_mark m = course_begun environment.routes ds (Some (Watermark m)) start

  -- a watermark is taken: there was room for all but what it makes due
  mark_room : (now : Stage) (reported : Reported) (m : ℤ) (at_rest : AtRest environment ds reported start now) (others : Replies) → AgreeOnApplied now.world at_rest.leads.explained.replies others →
      HaveRoomBefore environment.limit (needed_by_due (version_at (ds ++ Watermark m ∷ []) start) others (after_mark now.world m)) (along needed_of_delivery others (standing start) (ds ++ Watermark m ∷ []))
  mark_room now reported m at_rest others agree =
      let first : List Need = along needed_of_delivery others (standing start) ds in
      first_met environment.limit (needed_by_due (version_at (ds ++ Watermark m ∷ []) start) others (after_mark now.world m)) (along needed_of_delivery others (standing start) (ds ++ Watermark m ∷ [])) first
      (needed-watermark others (standing start) ds m
      ∙ ap (λ w. first ++ needed_by_due (version_at ds start) others (after_mark w m)) (sym (rest_is now reported at_rest others agree))
      ∙ ap (λ v. first ++ needed_by_due v others (after_mark now.world m)) (sym (version-push start.mapped.version ds (Watermark m))))
      (rest_room now reported at_rest others agree)

  -- what was reported is reported of the play with it, whose further steps are those that it makes due
  mark_reported : (now : Stage) (reported : Reported) (m : ℤ) (at_rest : AtRest environment ds reported start now) (others : Replies) → AgreeOnApplied now.world at_rest.leads.explained.replies others →
      HasReported environment.report (course_of_mark m) reported start (with_world now (after_mark now.world m)) others
  mark_reported now reported m at_rest others agree =
      let all : List Step = along steps_of_delivery others (standing start) ds in
      let v : MappingVersion = version_at (ds ++ Watermark m ∷ []) start in
      reported_still environment.report (course_after environment.routes ds start) (course_of_mark m) reported start now (with_world now (after_mark now.world m)) others refl (λ answers. refl)
      (λ first are. ap (λ l. l ++ steps_due v others (after_mark now.world m)) (all_steps now others first at_rest.rests are)
      ∙ ap (λ u. all ++ steps_due u others (after_mark now.world m)) (version-push start.mapped.version ds (Watermark m))
      ∙ ap (λ w. all ++ steps_due (version_at ds start) others (after_mark w m)) (rest_is now reported at_rest others agree)
      ∙ sym (steps-watermark others (standing start) ds m))
      (at_rest.leads.says others agree)

  -- the end is taken: there was room for all but what waits
  end_room : (now : Stage) (reported : Reported) (at_rest : AtRest environment ds reported start now) (others : Replies) → AgreeOnApplied now.world at_rest.leads.explained.replies others →
      HaveRoomBefore environment.limit (needed_by_due (version_at ds start) others (after_end now.world)) (along needed_of_delivery others (standing start) ds ++ needed_by_due (version_at ds start) others (after_end (led_to ds start others)))
  end_room now reported at_rest others agree =
      let first : List Need = along needed_of_delivery others (standing start) ds in
      first_met environment.limit (needed_by_due (version_at ds start) others (after_end now.world)) (along needed_of_delivery others (standing start) ds ++ needed_by_due (version_at ds start) others (after_end (led_to ds start others))) first
      (ap (λ w. first ++ needed_by_due (version_at ds start) others (after_end w)) (sym (rest_is now reported at_rest others agree)))
      (rest_room now reported at_rest others agree)

  -- what was reported is reported of the play to the end, whose further steps are those of what waits
  end_reported : (now : Stage) (reported : Reported) (at_rest : AtRest environment ds reported start now) (others : Replies) → AgreeOnApplied now.world at_rest.leads.explained.replies others →
      HasReported environment.report (course_to_end environment.routes ds start) reported start (with_world now (after_end now.world)) others
  end_reported now reported at_rest others agree =
      let all : List Step = along steps_of_delivery others (standing start) ds in
      reported_still environment.report (course_after environment.routes ds start) (course_to_end environment.routes ds start) reported start now (with_world now (after_end now.world)) others refl (λ answers. refl)
      (λ first are. ap (λ l. l ++ steps_due (version_at ds start) others (after_end now.world)) (all_steps now others first at_rest.rests are)
      ∙ ap (λ w. all ++ steps_due (version_at ds start) others (after_end w)) (rest_is now reported at_rest others agree))
      (at_rest.leads.says others agree)

  -- a watermark is taken: the world leads to the play with it
  abbrev mark_leads : (now : Stage) (reported : Reported) (m : ℤ) → AtRest environment ds reported start now → Leads environment (course_of_mark m) reported start (with_world now (after_mark now.world m))
  mark_leads now reported m at_rest = record {
    made = at_rest.leads.made;
    explained = along-mark judgement environment.known (standing start) ds at_rest.leads.made now.world at_rest.leads.explained at_rest.rests m;
    roomed = λ others agree. mark_room now reported m at_rest others
        (λ q r h. agree q r (applied-mark now.world m q h) ∙ ap (λ (replies : Replies). replies q r) (mark_replies judgement environment.known (standing start) ds at_rest.leads.made now.world at_rest.leads.explained at_rest.rests m));
    counted = at_rest.leads.counted;
    documents = at_rest.leads.documents;
    handed = at_rest.leads.handed;
    says = λ others agree. mark_reported now reported m at_rest others
        (λ q r h. agree q r (applied-mark now.world m q h) ∙ ap (λ (replies : Replies). replies q r) (mark_replies judgement environment.known (standing start) ds at_rest.leads.made now.world at_rest.leads.explained at_rest.rests m));
  }

  -- the end is taken: the world leads to the play to the end
  abbrev end_leads : (now : Stage) (reported : Reported) → AtRest environment ds reported start now → Leads environment (course_to_end environment.routes ds start) reported start (with_world now (after_end now.world))
  end_leads now reported at_rest = record {
    made = at_rest.leads.made;
    explained = along-end judgement environment.known (standing start) ds at_rest.leads.made now.world at_rest.leads.explained at_rest.rests;
    roomed = λ others agree. end_room now reported at_rest others
        (λ q r h. agree q r (applied-end now.world q h) ∙ ap (λ (replies : Replies). replies q r) (end_replies judgement environment.known (standing start) ds at_rest.leads.made now.world at_rest.leads.explained at_rest.rests));
    counted = at_rest.leads.counted;
    documents = at_rest.leads.documents;
    handed = at_rest.leads.handed;
    says = λ others agree. end_reported now reported at_rest others
        (λ q r h. agree q r (applied-end now.world q h) ∙ ap (λ (replies : Replies). replies q r) (end_replies judgement environment.known (standing start) ds at_rest.leads.made now.world at_rest.leads.explained at_rest.rests));
  }

  -- every page is mapped by the version in force with the watermark
  mark_mapped : (now : Stage) (reported : Reported) (m : ℤ) → AtRest environment ds reported start now → now.mapped ≡ mapped_by (version_at (ds ++ Watermark m ∷ []) start) now.world.played.records
  mark_mapped now reported m at_rest = still_mapped now.world.played.records now.world.played.records (Watermark m) refl now.mapped now.mapped (λ version is. is) at_rest.mapped

  -- a watermark is taken, and what is due is applied
  pub mark_taken : (now then : Stage) (reported reported_now : Reported) (m : ℤ) → AppliesDue environment reported reported_now (with_world now (after_mark now.world m)) then →
      KeepsVersion now.mapped then.mapped now.world.played.records then.world.played.records → now.output.faults ≤ then.output.faults → AtRest environment ds reported start now → AtRest environment (ds ++ Watermark m ∷ []) reported_now start then
  mark_taken now then reported reported_now m applies keeps more at_rest =
      let there = applies.leads (course_of_mark m) start (mark_mapped now reported m at_rest) (mark_leads now reported m at_rest) in
      record {
        leads = record {
          made = there.made;
          explained = there.explained;
          counted = there.counted;
          documents = there.documents;
          says = λ others agree. reported_still environment.report (course_of_mark m) (course_after environment.routes (ds ++ Watermark m ∷ []) start) reported_now start then then others refl
              (λ answers. silent (Watermark m) others refl) (λ first are. are) (there.says others agree);
          roomed = there.roomed;
          handed = there.handed;
        };
        answered = answered_then environment.report reported reported_now ds (Watermark m) start refl applies.answered at_rest.answered;
        rests = applies.rests;
        begun = at_rest.begun;
        mapped = still_mapped now.world.played.records then.world.played.records (Watermark m) refl now.mapped then.mapped keeps at_rest.mapped;
        later = omega (arith, at_rest.later, more);
      }

  -- the end is taken, and what waits is applied
  pub end_taken : (now then : Stage) (reported reported_now : Reported) → AppliesDue environment reported reported_now (with_world now (after_end now.world)) then →
      KeepsVersion now.mapped then.mapped now.world.played.records then.world.played.records → now.output.faults ≤ then.output.faults → AtRest environment ds reported start now → AtEnd environment ds reported_now start then
  end_taken now then reported reported_now applies keeps more at_rest = record {
    leads = applies.leads (course_to_end environment.routes ds start) start at_rest.mapped (end_leads now reported at_rest);
    rests = applies.rests;
    mapped = keeps (version_at ds start) at_rest.mapped;
    later = omega (arith, at_rest.later, more);
  }

  -- a world at rest is where its play is
  pub rest_within : (now : Stage) (reported : Reported) → AtRest environment ds reported start now → IsWithin (NotApplied PoolOutOfMemory) environment (course_begun environment.routes ds None start) (λ replies. led_to ds start replies) start now
  rest_within now reported at_rest =
      let There : List Delivery → Type 0 = λ l. IsWithin (NotApplied PoolOutOfMemory) environment (record (course_after environment.routes l start) { bytes = said_behind environment.routes ds start }) (λ replies. led_to ds start replies) start now in
      subst There (sym (append-nil ds)) (within PoolOutOfMemory environment (course_after environment.routes ds start) (λ replies. led_to ds start replies) reported start now now.counts (no_call now.counts) (record { leads = at_rest.leads; steps = 0; is = rest_is now reported at_rest }))

  -- a watermark is taken, and some of what is due is applied
  pub mark_begun : (halt : Halt) (now then : Stage) (reported : Reported) (m : ℤ) → StaysWithin halt environment reported (with_world now (after_mark now.world m)) then → AtRest environment ds reported start now →
      IsWithin halt environment (course_of_mark m) (λ replies. entered (led_to ds start replies) (Watermark m)) start then
  mark_begun halt now then reported m stays at_rest =
      stays (course_of_mark m) (λ replies. entered (led_to ds start replies) (Watermark m)) start (mark_mapped now reported m at_rest) (record {
        leads = mark_leads now reported m at_rest;
        steps = 0;
        is = λ others agree. ap (λ w. after_mark w m) (rest_is now reported at_rest others
            (λ q r h. agree q r (applied-mark now.world m q h) ∙ ap (λ (replies : Replies). replies q r) (mark_replies judgement environment.known (standing start) ds at_rest.leads.made now.world at_rest.leads.explained at_rest.rests m)));
      })

  -- the end is taken, and some of what waits is applied
  pub end_begun : (halt : Halt) (now then : Stage) (reported : Reported) → StaysWithin halt environment reported (with_world now (after_end now.world)) then → AtRest environment ds reported start now →
      IsWithin halt environment (course_to_end environment.routes ds start) (λ replies. after_end (led_to ds start replies)) start then
  end_begun halt now then reported stays at_rest =
      stays (course_to_end environment.routes ds start) (λ replies. after_end (led_to ds start replies)) start at_rest.mapped (record {
        leads = end_leads now reported at_rest;
        steps = 0;
        is = λ others agree. ap after_end (rest_is now reported at_rest others
            (λ q r h. agree q r (applied-end now.world q h) ∙ ap (λ (replies : Replies). replies q r) (end_replies judgement environment.known (standing start) ds at_rest.leads.made now.world at_rest.leads.explained at_rest.rests)));
      })

  -- the answer of a world at rest is that of its play
  answer_is : (now : Stage) (q : Question) (reported : Reported) (matched : ℕ) (at_rest : AtRest environment ds reported start now) (others : Replies) → AgreeOnApplied now.world at_rest.leads.explained.replies others →
      reported.number ≡ start.numbered.asks + asks ds → matched ≡ start.numbered.matches + matches ds →
      answer_held environment.routes reported.number matched now.mapped now.world.played.records q ≡ answer_of_delivery environment.routes others (advanced_by others (standing start) ds) (asking q)
  answer_is now q reported matched at_rest others agree asked counted =
      let c : Checkpoint = advanced_by others (standing start) ds in
      answer_held_by environment.routes reported.number matched (version_at ds start) now.mapped now.world.played.records q at_rest.mapped
      ∙ ap (λ n. answer_text environment.routes n matched (meaning (version_at ds start)) now.world.played.records q) (asked ∙ sym (asked-along others (standing start) ds))
      ∙ ap (λ n. answer_text environment.routes c.asked n (meaning (version_at ds start)) now.world.played.records q) (counted ∙ sym (matched-along others (standing start) ds))
      ∙ ap (λ v. answer_text environment.routes c.asked c.matched (meaning v) now.world.played.records q) (sym (version-along others (standing start) ds))
      ∙ ap (λ (w : ReplayState). answer_text environment.routes c.asked c.matched (meaning c.version) w.played.records q) (rest_is now reported at_rest others agree)
      ∙ ap (answer_by environment.routes c) (sym (question-asked q))

  -- a question makes no step
  asked_steps : (now : Stage) (q : Question) (others : Replies) (first : List Step) → first_due now.world.buffer ≡ None → first ++ steps_due (version_at ds start) others now.world ≡ along steps_of_delivery others (standing start) ds →
      first ++ steps_due (version_at (ds ++ asking q ∷ []) start) others now.world ≡ along steps_of_delivery others (standing start) (ds ++ asking q ∷ [])
  asked_steps now q others first rests are =
      ap (λ l. first ++ l) (steps-none (version_at (ds ++ asking q ∷ []) start) others now.world rests) ∙ append-nil first
      ∙ all_steps now others first rests are ∙ sym (along-still steps_of_delivery others (standing start) ds (asking q) (asking-steps others (advanced_by others (standing start) ds) q))

  -- a question is answered where questions are, and passed over where changes are reported
  ask_reported : (report : Report) (now : Stage) (q : Question) (reported : Reported) (matched : ℕ) (reported_now : Reported) (out : Output) (others : Replies) → report ≡ environment.report → first_due now.world.buffer ≡ None →
      AnswersQuestion report reported q (answer_held environment.routes reported.number matched now.mapped now.world.played.records q) now.output out (Ok reported_now) →
      (report ≡ Answers → answer_held environment.routes reported.number matched now.mapped now.world.played.records q ≡ answer_of_delivery environment.routes others (advanced_by others (standing start) ds) (asking q)) →
      HasReported report (course_after environment.routes ds start) reported start now others → HasReported report (course_after environment.routes (ds ++ asking q ∷ []) start) reported_now start (with_output now out) others
  ask_reported Answers now q reported matched reported_now out others is rests answers said_there x =
      let answer : List ℕ = answer_held environment.routes reported.number matched now.mapped now.world.played.records q in
      record {
        steps = x.steps;
        are = asked_steps now q others x.steps rests x.are;
        changed = ap (λ (r : Reported). r.changed) answers.0 ∙ x.changed;
        bytes = answers.1.outcome
            ∙ ap (λ b. after_known b answer) x.bytes
            ∙ after_twice start.output.bytes (said_by environment.routes others (standing start) ds) answer
            ∙ ap (λ l. after_known start.output.bytes (said_by environment.routes others (standing start) ds ++ l)) (said_there refl)
            ∙ ap (after_known start.output.bytes) (sym (along-push (answer_of_delivery environment.routes) others (standing start) ds (asking q)));
      }
  ask_reported Changes now q reported matched reported_now out others is rests answers said_there x =
      let passed : HasReported Changes (course_after environment.routes (ds ++ asking q ∷ []) start) reported start (with_output now out) others = record {
        steps = x.steps;
        are = asked_steps now q others x.steps rests x.are;
        counted = x.counted;
        bytes = ap (λ (o : Output). o.bytes) answers.1 ∙ x.bytes;
      } in
      subst (λ (r : Reported). HasReported Changes (course_after environment.routes (ds ++ asking q ∷ []) start) r start (with_output now out) others) (sym answers.0) passed

  ask_answered : (report : Report) (q : Question) (reported reported_now : Reported) (text : List ℕ) (old out : Output) → AnswersQuestion report reported q text old out (Ok reported_now) → HasAnswered report reported ds start → HasAnswered report reported_now (ds ++ asking q ∷ []) start
  ask_answered Answers q reported reported_now text old out answers is =
      let many : reported_now.number ≡ reported.number + asks (asking q ∷ []) = ap (λ (r : Reported). r.number) answers.0 in
      omega (arith, many, is, asks-push ds (asking q))
  ask_answered Changes q reported reported_now text old out answers is = tt

  ask_later : (report : Report) (q : Question) (reported reported_now : Reported) (text : List ℕ) (old out : Output) → AnswersQuestion report reported q text old out (Ok reported_now) → old.faults ≤ out.faults
  ask_later Answers q reported reported_now text old out answers = answers.1.later
  ask_later Changes q reported reported_now text old out answers = rw answers.1 (omega arith)

  ask_handed : (report : Report) (q : Question) (reported reported_now : Reported) (text : List ℕ) (old out : Output) → AnswersQuestion report reported q text old out (Ok reported_now) → old.waits ≡ false → out.waits ≡ false
  ask_handed Answers q reported reported_now text old out answers quiet = answers.1.leaves quiet
  ask_handed Changes q reported reported_now text old out answers quiet = ap (λ (o : Output). o.waits) answers.1 ∙ quiet

  pub ask_taken : (now : Stage) (q : Question) (reported : Reported) (matched : ℕ) (reported_now : Reported) (out : Output) → AnswersQuestion environment.report reported q (answer_held environment.routes reported.number matched now.mapped now.world.played.records q) now.output out (Ok reported_now) →
      matched ≡ start.numbered.matches + matches ds → AtRest environment ds reported start now → AtRest environment (ds ++ asking q ∷ []) reported_now start (with_output now out)
  ask_taken now q reported matched reported_now out answers counted at_rest = record {
    leads = record {
      made = at_rest.leads.made;
      explained = along-asking judgement environment.known (standing start) ds at_rest.leads.made now.world at_rest.leads.explained at_rest.rests q;
      roomed = λ others agree. still_room (asking q) others now.world at_rest.rests (asking-needs others (advanced_by others (standing start) ds) q) (rest_room now reported at_rest others
          (λ e r h. agree e r h ∙ ap (λ (replies : Replies). replies e r) (asking_replies judgement environment.known (standing start) ds at_rest.leads.made now.world at_rest.leads.explained at_rest.rests q)));
      counted = at_rest.leads.counted;
      documents = at_rest.leads.documents;
      says = λ others agree.
          let before : AgreeOnApplied now.world at_rest.leads.explained.replies others =
          λ e r h. agree e r h ∙ ap (λ (replies : Replies). replies e r) (asking_replies judgement environment.known (standing start) ds at_rest.leads.made now.world at_rest.leads.explained at_rest.rests q) in
          ask_reported environment.report now q reported matched reported_now out others refl at_rest.rests answers
          (λ asked. answer_is now q reported matched at_rest others before (is_answer ds start environment.report reported at_rest.answered asked) counted)
          (at_rest.leads.says others before);
      handed = λ quiet. ask_handed environment.report q reported reported_now _ now.output out answers (at_rest.leads.handed quiet);
    };
    answered = ask_answered environment.report q reported reported_now _ now.output out answers at_rest.answered;
    rests = at_rest.rests;
    begun = at_rest.begun;
    mapped = still_mapped now.world.played.records now.world.played.records (asking q) (asking-mapping q) now.mapped now.mapped (λ version is. is) at_rest.mapped;
    later = omega (arith, at_rest.later, ask_later environment.report q reported reported_now _ now.output out answers);
  }

  -- another version of the mapping comes into force, by which every page is mapped: there was room for this too
  mapping_room : (now : Stage) (reported : Reported) (v : MappingVersion) (at_rest : AtRest environment ds reported start now) → HaveRoom environment.limit (needed_anew now.world.played.records (record { version = v; by_two = now.mapped.by_two })) →
      (others : Replies) → AgreeOnApplied now.world at_rest.leads.explained.replies others →
      HaveRoomBefore environment.limit (needed_by_due (version_at (ds ++ Mapping v ∷ []) start) others now.world) (along needed_of_delivery others (standing start) (ds ++ Mapping v ∷ []))
  mapping_room now reported v at_rest have others agree =
      let Roomed : List EntityId → Type 0 = λ by_two. HaveRoom environment.limit (needed_anew now.world.played.records (record { version = v; by_two = by_two })) in
      let by_version : Roomed (all_by (version_at ds start) now.world.played.records) = subst Roomed (ap (λ (m : Mapped). m.by_two) at_rest.mapped) have in
      let anew : HaveRoom environment.limit (needed_anew (led_to ds start others).played.records (record { version = v; by_two = all_by (version_at ds start) (led_to ds start others).played.records })) =
      subst (λ (w : ReplayState). HaveRoom environment.limit (needed_anew w.played.records (record { version = v; by_two = all_by (version_at ds start) w.played.records }))) (rest_is now reported at_rest others agree) by_version in
      none_left environment.limit (needed_by_due (version_at (ds ++ Mapping v ∷ []) start) others now.world) (along needed_of_delivery others (standing start) (ds ++ Mapping v ∷ []))
      (due-none (version_at (ds ++ Mapping v ∷ []) start) others now.world at_rest.rests)
      (subst (HaveRoom environment.limit) (sym (needed-mapping others (standing start) ds v)) (Each-append (λ (need : Need). need environment.limit.lean ≤ environment.limit.terms) _ _ (rest_room now reported at_rest others agree) anew))

  -- its pages are the steps behind those so far
  anew_steps : (now : Stage) (v : MappingVersion) (others : Replies) (first : List Step) → first_due now.world.buffer ≡ None → now.mapped ≡ mapped_by (version_at ds start) now.world.played.records → now.world ≡ led_to ds start others →
      first ++ steps_due (version_at ds start) others now.world ≡ along steps_of_delivery others (standing start) ds →
      (first ++ steps_anew v now.world.played.records now.mapped.by_two) ++ steps_due (version_at (ds ++ Mapping v ∷ []) start) others now.world ≡ along steps_of_delivery others (standing start) (ds ++ Mapping v ∷ [])
  anew_steps now v others first rests is_mapped is are =
      let anew : List Step = steps_anew v now.world.played.records now.mapped.by_two in
      ap (λ l. (first ++ anew) ++ l) (steps-none (version_at (ds ++ Mapping v ∷ []) start) others now.world rests) ∙ append-nil (first ++ anew)
      ∙ ap (λ l. l ++ anew) (all_steps now others first rests are)
      ∙ ap (λ (m : Mapped). along steps_of_delivery others (standing start) ds ++ steps_anew v now.world.played.records m.by_two) is_mapped
      ∙ ap (λ (w : ReplayState). along steps_of_delivery others (standing start) ds ++ steps_anew v w.played.records (all_by (version_at ds start) w.played.records)) is
      ∙ sym (steps-mapping others (standing start) ds v)

  -- they are told where changes are reported
  mapping_reported : (report : Report) (now : Stage) (v : MappingVersion) (reported reported_now : Reported) (mapped : Mapped) (out : Output) (others : Replies) → first_due now.world.buffer ≡ None →
      now.mapped ≡ mapped_by (version_at ds start) now.world.played.records → now.world ≡ led_to ds start others →
      TellsBy report reported (steps_anew v now.world.played.records now.mapped.by_two) reported_now now.output out →
      HasReported report (course_after environment.routes ds start) reported start now others → HasReported report (course_after environment.routes (ds ++ Mapping v ∷ []) start) reported_now start (with_mapped (with_output now out) mapped) others
  mapping_reported Answers now v reported reported_now mapped out others rests is_mapped is tells x =
      let anew : List Step = steps_anew v now.world.played.records now.mapped.by_two in
      record {
        steps = x.steps ++ anew;
        are = anew_steps now v others x.steps rests is_mapped is x.are;
        changed = changed_with reported.changed reported_now.changed x.steps anew x.changed (ap (λ (r : Reported). r.changed) tells.0);
        bytes = ap (λ (o : Output). o.bytes) tells.1 ∙ x.bytes ∙ sym (silent (Mapping v) others refl);
      }
  mapping_reported Changes now v reported reported_now mapped out others rests is_mapped is tells x =
      let anew : List Step = steps_anew v now.world.played.records now.mapped.by_two in
      record {
        steps = x.steps ++ anew;
        are = anew_steps now v others x.steps rests is_mapped is x.are;
        counted = tells.counted start.numbered.patches x.steps x.counted;
        bytes = tells.bytes start.numbered.patches x.steps start.output.bytes x.counted x.bytes;
      }

  mapping_answered : (report : Report) (reported reported_now : Reported) (steps : List Step) (old out : Output) → TellsBy report reported steps reported_now old out → report ≡ Answers → reported_now.number ≡ reported.number
  mapping_answered Answers reported reported_now steps old out tells answers = ap (λ (r : Reported). r.number) tells.0
  mapping_answered Changes reported reported_now steps old out tells answers = cc

  -- another version of the mapping comes into force, and every page is mapped by it
  pub mapping_taken : (now : Stage) (mapped : Mapped) (v : MappingVersion) (reported reported_now : Reported) (out : Output) → mapped ≡ mapped_by v now.world.played.records →
      HaveRoom environment.limit (needed_anew now.world.played.records (record { version = v; by_two = now.mapped.by_two })) →
      TellsBy environment.report reported (steps_anew v now.world.played.records now.mapped.by_two) reported_now now.output out → now.output.faults ≤ out.faults →
      AtRest environment ds reported start now → AtRest environment (ds ++ Mapping v ∷ []) reported_now start (with_mapped (with_output now out) mapped)
  mapping_taken now mapped v reported reported_now out is have tells more at_rest = record {
    leads = record {
      made = at_rest.leads.made;
      explained = along-mapping judgement environment.known (standing start) ds at_rest.leads.made now.world at_rest.leads.explained at_rest.rests v;
      roomed = λ others agree. mapping_room now reported v at_rest have others
          (λ q r h. agree q r h ∙ ap (λ (replies : Replies). replies q r) (mapping_replies judgement environment.known (standing start) ds at_rest.leads.made now.world at_rest.leads.explained at_rest.rests v));
      counted = at_rest.leads.counted;
      documents = at_rest.leads.documents;
      says = λ others agree.
          let before : AgreeOnApplied now.world at_rest.leads.explained.replies others =
          λ q r h. agree q r h ∙ ap (λ (replies : Replies). replies q r) (mapping_replies judgement environment.known (standing start) ds at_rest.leads.made now.world at_rest.leads.explained at_rest.rests v) in
          mapping_reported environment.report now v reported reported_now mapped out others at_rest.rests at_rest.mapped (rest_is now reported at_rest others before) tells (at_rest.leads.says others before);
      handed = λ quiet. steps_handed environment.report reported reported_now _ now.output out tells (at_rest.leads.handed quiet);
    };
    answered = answered_then environment.report reported reported_now ds (Mapping v) start refl (mapping_answered environment.report reported reported_now _ now.output out tells) at_rest.answered;
    rests = at_rest.rests;
    begun = at_rest.begun;
    mapped = is ∙ ap (λ version. mapped_by version now.world.played.records) (sym (version-push start.mapped.version ds (Mapping v)));
    later = omega (arith, at_rest.later, more);
  }

  -- pages that were remapped are steps behind those so far
  paged_steps : (now : Stage) (pages : List Step) (others : Replies) (first : List Step) → first_due now.world.buffer ≡ None → first ++ steps_due (version_at ds start) others now.world ≡ along steps_of_delivery others (standing start) ds →
      (first ++ pages) ++ steps_due (version_at ds start) others now.world ≡ along steps_of_delivery others (standing start) ds ++ pages
  paged_steps now pages others first rests are =
      ap (λ l. (first ++ pages) ++ l) (steps-none (version_at ds start) others now.world rests) ∙ append-nil (first ++ pages) ∙ ap (λ l. l ++ pages) (all_steps now others first rests are)

  -- pages were remapped and told after the play of these deliveries
  pub remapping_reported : (report : Report) (now : Stage) (reported reported_now : Reported) (pages : List Step) (mapped : Mapped) (out : Output) (others : Replies) → first_due now.world.buffer ≡ None →
      TellsBy report reported pages reported_now now.output out → HasReported report (course_after environment.routes ds start) reported start now others →
      HasReported report (course_remapping environment.routes pages ds start) reported_now start (with_mapped (with_output now out) mapped) others
  remapping_reported Answers now reported reported_now pages mapped out others rests tells x = record {
    steps = x.steps ++ pages;
    are = paged_steps now pages others x.steps rests x.are;
    changed = changed_with reported.changed reported_now.changed x.steps pages x.changed (ap (λ (r : Reported). r.changed) tells.0);
    bytes = ap (λ (o : Output). o.bytes) tells.1 ∙ x.bytes;
  }
  remapping_reported Changes now reported reported_now pages mapped out others rests tells x = record {
    steps = x.steps ++ pages;
    are = paged_steps now pages others x.steps rests x.are;
    counted = tells.counted start.numbered.patches x.steps x.counted;
    bytes = tells.bytes start.numbered.patches x.steps start.output.bytes x.counted x.bytes;
  }

  abbrev pub remapping_leads : (now : Stage) (reported reported_now : Reported) (pages : List Step) (mapped : Mapped) (out : Output) → TellsBy environment.report reported pages reported_now now.output out → AtRest environment ds reported start now →
      Leads environment (course_remapping environment.routes pages ds start) reported_now start (with_mapped (with_output now out) mapped)
  remapping_leads now reported reported_now pages mapped out tells at_rest = record {
    made = at_rest.leads.made;
    explained = at_rest.leads.explained;
    counted = at_rest.leads.counted;
    documents = at_rest.leads.documents;
    says = λ others agree. remapping_reported environment.report now reported reported_now pages mapped out others at_rest.rests tells (at_rest.leads.says others agree);
    roomed = at_rest.leads.roomed;
    handed = λ quiet. steps_handed environment.report reported reported_now pages now.output out tells (at_rest.leads.handed quiet);
  }

  -- how many records there are then
  remapping_many : (report : Report) (now : Stage) (reported reported_now : Reported) (pages : List Step) (out : Output) (others : Replies) → first_due now.world.buffer ≡ None →
      TellsBy report reported pages reported_now now.output out → HasReported report (course_after environment.routes ds start) reported start now others → report ≡ Changes → reported_now.number ≡ start.numbered.patches + changes (along steps_of_delivery others (standing start) ds ++ pages)
  remapping_many Answers now reported reported_now pages out others rests tells x told = cc
  remapping_many Changes now reported reported_now pages out others rests tells x told = tells.counted start.numbered.patches x.steps x.counted ∙ ap (λ l. start.numbered.patches + changes (l ++ pages)) (all_steps now others x.steps rests x.are)

  pub remapping_counted : (now : Stage) (reported reported_now : Reported) (pages : List Step) (out : Output) → TellsBy environment.report reported pages reported_now now.output out → (at_rest : AtRest environment ds reported start now) →
      environment.report ≡ Changes → reported_now.number ≡ start.numbered.patches + changes (along steps_of_delivery at_rest.leads.explained.replies (standing start) ds ++ pages)
  remapping_counted now reported reported_now pages out tells at_rest told =
      remapping_many environment.report now reported reported_now pages out at_rest.leads.explained.replies at_rest.rests tells (at_rest.leads.says at_rest.leads.explained.replies (λ q r h. refl)) told

-- an event wasn't taken
pub event_cut_off : (environment : Environment) (e : Event) (reported : Reported) (matched : ℕ) (now : Stage) → CutsOff OutOfMemory environment (turn reported matched (Told e)) now now
event_cut_off environment e reported matched now = inr (inl (
  NotApplied PoolOutOfMemory,
  refl,
  record {
    kind = tt;
    held_up = tt;
    mapped = λ version is. is;
    world = λ ds start at_rest. inl (refl, refl, refl);
  },
))

-- a watermark was taken, and some of what was due was applied
pub mark_cut_off : (halt : Halt) (environment : Environment) (m : ℤ) (reported : Reported) (matched : ℕ) (now then : Stage) → IsHeldUp halt environment now.output then →
    KeepsVersion now.mapped then.mapped now.world.played.records then.world.played.records → StaysWithin halt environment reported (with_world now (after_mark now.world m)) then →
    CutsOff (stop_of_halt halt) environment (turn reported matched (Watermark m)) now then
mark_cut_off halt environment m reported matched now then held_up keeps stays =
    inr (inl (halt, refl, record { kind = tt; held_up = held_up; mapped = keeps; world = λ ds start at_rest. inr (mark_begun environment ds start halt now then reported m stays at_rest) }))

-- a question was answered in part
pub ask_cut_off : (report : Report) (why : Unwritten) (environment : Environment) (q : Question) (reported : Reported) (matched : ℕ) (now : Stage) (out : Output) → environment.report ≡ report →
    AnswersQuestion report reported q (answer_held environment.routes reported.number matched now.mapped now.world.played.records q) now.output out (Err why) → CutsOff (stop_of_unwritten why) environment (turn reported matched (asking q)) now (with_output now out)
ask_cut_off Answers why environment q reported matched now out is prints = inl (why, refl, record { answers = is; question = q; is = refl; world = refl; mapped = refl; counts = refl; cut_short = prints.outcome })
ask_cut_off Changes why environment q reported matched now out is never = absurd never

-- another version of the mapping came into force, and some of what is held was remapped
pub mapping_cut_off : (halt : Halt) (environment : Environment) (v : MappingVersion) (reported : Reported) (matched : ℕ) (now : Stage) (mapped : Mapped) (out : Output) →
    RemapsPages halt environment.report environment.limit reported v now.world.played.records now.mapped mapped now.output out →
    CutsOff (stop_of_halt halt) environment (turn reported matched (Mapping v)) now (with_mapped (with_output now out) mapped)
mapping_cut_off halt environment v reported matched now mapped out remaps = inr (inr (halt, refl, record { version = v; is = refl; counts = refl; world = refl; remaps = remaps }))
