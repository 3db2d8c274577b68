-- What is reported of a play, step by step.
use Rattle.std.proofs.Common.{◌≡◌, ◌≢◌, refl, sym, subst, ◌∙◌, ap, ℕ, ◌+◌, ◌≤◌, ℤ, Bool, true, false, ◌||◌, cond, List, [], ◌∷◌, ◌++◌, append_assoc, append-nil, length, length-append, filter, Option, None, Some, Ok, Err, flat_map, arith}
use Rattle.std.proofs.{lemmas.List.Concat.flat_map-append, lemmas.List.Elements.filter-append, lemmas.List.Folds.list_any-append}
use Rattle.wq_io.specs.Streams.{after_known}
use Rattle.sorted_sets.proofs.FirstPassing.{filter-first, filter-none}
use Rattle.rdf_term.specs.{declared.triple.Triple.Triple, Order.triple_cmp}
use Rattle.triple_store.specs.{declared.telling.Telling.Telling, Telling.is_changed}
use Rattle.triple_store.specs.declared.telling.Telling.TheVariants.{Nothing, Whether}
use Rattle.world.specs.{Held.TellsChange, declared.applied.StepChange.StepChange}
use Rattle.delivery.specs.{declared.Delivery.Delivery, declared.Delivery.TheVariants.Watermark, declared.Delivery.TheVariants.Mapping}
use Rattle.entity_model.specs.{declared.event.Event.Event, declared.mapping.MappingVersion.MappingVersion}
use Rattle.reorder_buffer.specs.{Watermarks.is_due, Buffered.first_due}
use Rattle.replay_model.specs.{Play.Replies, ReplayState.ReplayState, ReplayState.after_applying, ReplayState.after_mark, Union.union}
use Rattle.replay_model.specs.Versions.{all_by}
use Rattle.fetched_pages.specs.Meaning.{meaning}
use Rattle.text_output.specs.declared.write.Unwritten.{Unwritten}
use Rattle.text_output.specs.declared.write.Unwritten.TheVariants.{WriteFault, OutOfMemory}
use Rattle.text_output.specs.Printing.{IsCutShort, Output}
use Rattle.replica.specs.Record.{record_text}
use Rattle.patch_stream.specs.Stream.{Step, changes, has_change, is_change, numbered_from, record_of_step, step, step_text, steps_anew, steps_applied, steps_due, told_after}
use Rattle.patch_stream.proofs.Streams.{numbered-append}
use Rattle.text_output.proofs.Parts.{after_twice}
use Rattle.replay_parts.specs.Checkpoint.{Checkpoint}
use Rattle.run_model.specs.{declared.report.Report.Report, declared.report.Reported.Reported}
use Rattle.run_model.specs.declared.report.Report.TheVariants.{Answers, Changes}
use Rattle.run_model.specs.declared.stop.Halt.TheVariants.{Unprinted}
use Rattle.run_model.specs.Course.{along, state_along, steps_of_delivery, stream_text_from, version_since, Course}
use Rattle.run_model.specs.{Moment.Beginning, Moment.Environment, Moment.Stage, Moment.reported_as, Report.HasReported, Report.HasReportedAt, Report.bytes_of}
use Rattle.run_model.specs.Delivering.{BreaksOffBy, TellsBy, TellsStepBy, IsHeldUp, telling_of}
use Rattle.run_model.proofs.Along.{along-push, version-along}

-- ---- due events

module _ (version : MappingVersion) (replies : Replies) (w : ReplayState) where
  pub steps-none : first_due w.buffer ≡ None → steps_due version replies w ≡ []
  steps-none none = ap (steps_applied version replies w.played) (filter-none (is_due w.buffer.closed w.buffer.mark) w.buffer.waiting none)

  -- the step of the least due event comes first
  pub steps-some : (e : Event) → first_due w.buffer ≡ Some e →
      steps_due version replies w
      ≡ step (union triple_cmp (meaning version) w.played.records) (union triple_cmp (meaning version) (after_applying replies w (Some e)).played.records) ∷ steps_due version replies (after_applying replies w (Some e))
  steps-some e some = ap (steps_applied version replies w.played) (filter-first (is_due w.buffer.closed w.buffer.mark) w.buffer.waiting e some)

-- ---- deliveries

module _ (replies : Replies) (c : Checkpoint) (ds : List Delivery) where
  pub steps-watermark : (m : ℤ) → along steps_of_delivery replies c (ds ++ Watermark m ∷ []) ≡ along steps_of_delivery replies c ds ++ steps_due (version_since c.version ds) replies (after_mark (state_along replies c ds) m)
  steps-watermark m =
      along-push steps_of_delivery replies c ds (Watermark m)
      ∙ ap (λ v. along steps_of_delivery replies c ds ++ steps_due v replies (after_mark (state_along replies c ds) m)) (version-along replies c ds)

  pub steps-mapping : (v : MappingVersion) →
      along steps_of_delivery replies c (ds ++ Mapping v ∷ [])
      ≡ along steps_of_delivery replies c ds ++ steps_anew v (state_along replies c ds).played.records (all_by (version_since c.version ds) (state_along replies c ds).played.records)
  steps-mapping v =
      along-push steps_of_delivery replies c ds (Mapping v)
      ∙ ap (λ u. along steps_of_delivery replies c ds ++ steps_anew v (state_along replies c ds).played.records (all_by u (state_along replies c ds).played.records)) (version-along replies c ds)

-- ---- records, numbered behind those of earlier runs

changing-push : (steps : List Step) (s : Step) → filter is_change (steps ++ s ∷ []) ≡ filter is_change steps ++ cond (is_change s) (s ∷ []) []
changing-push steps s = filter-append is_change steps (s ∷ [])

-- so many records more
changes_more : (numbered told : ℕ) (steps : List Step) (s : Step) → told ≡ numbered + changes steps → told_after told s ≡ numbered + changes (steps ++ s ∷ [])
changes_more numbered told steps s is = by (is_change s) ∙ ap (λ n. numbered + n) (sym (ap length (changing-push steps s) ∙ length-append (filter is_change steps) (cond (is_change s) (s ∷ []) [])))
  where
    by : (b : Bool) → cond b (told + 1) told ≡ numbered + (changes steps + length (cond b (s ∷ []) []))
    by true = omega (arith, is)
    by false = omega (arith, is)

-- and so much more text
text_more : (numbered told : ℕ) (steps : List Step) (s : Step) → told ≡ numbered + changes steps → stream_text_from numbered (steps ++ s ∷ []) ≡ stream_text_from numbered steps ++ step_text told s
text_more numbered told steps s is =
    ap (λ l. flat_map record_text (numbered_from (numbered + 1) l)) (changing-push steps s)
    ∙ ap (flat_map record_text) (numbered-append (numbered + 1) (filter is_change steps) (cond (is_change s) (s ∷ []) []))
    ∙ flat_map-append record_text (numbered_from (numbered + 1) (filter is_change steps)) (numbered_from ((numbered + 1) + changes steps) (cond (is_change s) (s ∷ []) []))
    ∙ ap (λ l. stream_text_from numbered steps ++ l) (by (is_change s))
  where
    number : (numbered + 1) + changes steps ≡ told + 1
    number = omega (arith, is)

    by : (b : Bool) → flat_map record_text (numbered_from ((numbered + 1) + changes steps) (cond b (s ∷ []) [])) ≡ cond b (record_text (record_of_step (told + 1) s)) []
    by true = append-nil (record_text (record_of_step ((numbered + 1) + changes steps) s)) ∙ ap (λ n. record_text (record_of_step n s)) number
    by false = refl

-- the output has the text of the stream with the step
told_more : (numbered : ℕ) (start old new : Option (List ℕ)) (told : ℕ) (steps : List Step) (s : Step) → told ≡ numbered + changes steps → old ≡ after_known start (stream_text_from numbered steps) →
    new ≡ after_known old (step_text told s) → new ≡ after_known start (stream_text_from numbered (steps ++ s ∷ []))
told_more numbered start old new told steps s counted was is =
    is ∙ ap (λ b. after_known b (step_text told s)) was ∙ after_twice start (stream_text_from numbered steps) (step_text told s) ∙ ap (after_known start) (sym (text_more numbered told steps s counted))

-- ---- whether a step changed what is stored

or_false : (b : Bool) → b ≡ (b || false)
or_false true = refl
or_false false = refl

or_assoc : (a b c : Bool) → ((a || b) || c) ≡ (a || (b || c))
or_assoc true b c = refl
or_assoc false b c = refl

-- what more steps make of what is reported where questions are answered
changed_more : (changed : Bool) (steps more : List Step) → (changed || has_change (steps ++ more)) ≡ ((changed || has_change steps) || has_change more)
changed_more changed steps more = ap (λ b. changed || b) (list_any-append is_change steps more) ∙ sym (or_assoc changed (has_change steps) (has_change more))

changed_next : (changed now : Bool) (steps : List Step) (s : Step) → changed ≡ has_change steps → now ≡ (changed || is_change s) → now ≡ has_change (steps ++ s ∷ [])
changed_next changed now steps s was is = is ∙ ap (λ b. b || is_change s) was ∙ ap (λ b. has_change steps || b) (or_false (is_change s)) ∙ sym (list_any-append is_change steps (s ∷ []))

pub changed_with : (changed now : Bool) (steps more : List Step) → changed ≡ has_change steps → now ≡ (changed || has_change more) → now ≡ has_change (steps ++ more)
changed_with changed now steps more was is = is ∙ ap (λ b. b || has_change more) was ∙ sym (list_any-append is_change steps more)

-- what is told of a step says whether it changed what is stored, unless one did before
pub told_change : (reported : Reported) (before after : List Triple) (change : StepChange) (differs : Bool) →
    ((telling : Telling) (old new : List Triple) → TellsChange telling old new change → telling ≢ Nothing → differs ≡ is_changed old new) →
    TellsChange (telling_of Answers reported) before after change → (reported.changed || differs) ≡ (reported.changed || is_change (step before after))
told_change reported before after change differs says = by reported.changed
  where
    by : (changed : Bool) → TellsChange (cond changed Nothing Whether) before after change → (changed || differs) ≡ (changed || is_change (step before after))
    by true tells = refl
    by false tells = says Whether before after tells (λ never. cc)

-- ---- what is reported

-- where no event is due, a whole play is reported
pub all_reported : (report : Report) (course : Course) (reported : Reported) (start : Beginning) (now : Stage) (replies : Replies) → first_due now.world.buffer ≡ None → HasReported report course reported start now replies →
    now.output.bytes ≡ bytes_of report course start replies
all_reported Answers course reported start now replies none says = says.bytes
all_reported Changes course reported start now replies none says =
    says.bytes ∙ ap (λ l. after_known start.output.bytes (stream_text_from start.numbered.patches l))
    (sym (append-nil says.steps) ∙ ap (λ l. says.steps ++ l) (sym (steps-none course.version replies now.world none)) ∙ says.are)

-- a play whose next steps are those of another one's due events is reported as far
pub reported_still : (report : Report) (course other : Course) (reported : Reported) (start : Beginning) (now then : Stage) (replies : Replies) → then.output ≡ now.output → (report ≡ Answers → other.bytes replies ≡ course.bytes replies) →
    ((first : List Step) → first ++ steps_due course.version replies now.world ≡ course.steps replies → first ++ steps_due other.version replies then.world ≡ other.steps replies) →
    HasReported report course reported start now replies → HasReported report other reported start then replies
reported_still Answers course other reported start now then replies same says on x = record {
  steps = x.steps;
  are = on x.steps x.are;
  changed = x.changed;
  bytes = ap (λ (o : Output). o.bytes) same ∙ x.bytes ∙ sym (says refl);
}
reported_still Changes course other reported start now then replies same says on x = record {
  steps = x.steps;
  are = on x.steps x.are;
  counted = x.counted;
  bytes = ap (λ (o : Output). o.bytes) same ∙ x.bytes;
}

-- one more step is reported
pub reported_next : (report : Report) (course : Course) (reported reported_now : Reported) (start : Beginning) (now then : Stage) (s : Step) (replies : Replies) →
    steps_due course.version replies now.world ≡ s ∷ steps_due course.version replies then.world → TellsStepBy report reported s now.output then.output (Ok reported_now) →
    HasReported report course reported start now replies → HasReported report course reported_now start then replies
reported_next Answers course reported reported_now start now then s replies first tells x = record {
  steps = x.steps ++ s ∷ [];
  are = append_assoc x.steps (s ∷ []) (steps_due course.version replies then.world) ∙ ap (λ l. x.steps ++ l) (sym first) ∙ x.are;
  changed = changed_next reported.changed reported_now.changed x.steps s x.changed (ap (λ (r : Reported). r.changed) tells.0);
  bytes = ap (λ (o : Output). o.bytes) tells.1 ∙ x.bytes;
}
reported_next Changes course reported reported_now start now then s replies first tells x = record {
  steps = x.steps ++ s ∷ [];
  are = append_assoc x.steps (s ∷ []) (steps_due course.version replies then.world) ∙ ap (λ l. x.steps ++ l) (sym first) ∙ x.are;
  counted = tells.outcome.0 ∙ changes_more start.numbered.patches reported.number x.steps s x.counted;
  bytes = told_more start.numbered.patches start.output.bytes now.output.bytes then.output.bytes reported.number x.steps s x.counted x.bytes tells.outcome.1;
}

-- one more step isn't reported wholly
pub reported_but_last : (report : Report) (why : Unwritten) (course : Course) (reported : Reported) (start : Beginning) (now then : Stage) (s : Step) (replies : Replies) →
    steps_due course.version replies now.world ≡ s ∷ steps_due course.version replies then.world → TellsStepBy report reported s now.output then.output (Err why) →
    HasReported report course reported start now replies → HasReportedAt (Unprinted why) report course start then replies
reported_but_last Answers why course reported start now then s replies first never x = absurd never
reported_but_last Changes why course reported start now then s replies first tells x = record {
  steps = x.steps;
  last = s;
  are = append_assoc x.steps (s ∷ []) (steps_due course.version replies then.world) ∙ ap (λ l. x.steps ++ l) (sym first) ∙ x.are;
  differs = tells.outcome.0;
  between = now.output;
  bytes = x.bytes;
  cut_short = subst (λ n. IsCutShort why (record_text (record_of_step (n + 1) s)) now.output then.output) x.counted tells.outcome.1;
}

-- where questions are answered, a step is no answer
pub still_answered : (report : Report) (reported reported_now : Reported) (s : Step) (old new : Output) → report ≡ Answers → TellsStepBy report reported s old new (Ok reported_now) → reported_now.number ≡ reported.number
still_answered Answers reported reported_now s old new answers tells = ap (λ (r : Reported). r.number) tells.0
still_answered Changes reported reported_now s old new answers tells = cc

-- and prints nothing
pub still_silent : (report : Report) (reported reported_now : Reported) (s : Step) (old new : Output) → report ≡ Answers → TellsStepBy report reported s old new (Ok reported_now) → new ≡ old
still_silent Answers reported reported_now s old new answers tells = tells.1
still_silent Changes reported reported_now s old new answers tells = cc

-- and it doesn't fail
pub never_unprinted : {P : Type 0} (report : Report) (why : Unwritten) (reported : Reported) (s : Step) (old new : Output) → report ≡ Answers → TellsStepBy report reported s old new (Err why) → P
never_unprinted Answers why reported s old new answers never = absurd never
never_unprinted Changes why reported s old new answers tells = cc

-- where a record isn't written wholly because a write failed, the count of these rose
pub unprinted_held_up : (report : Report) (why : Unwritten) (environment : Environment) (reported : Reported) (s : Step) (old : Output) (now : Stage) (middle : Output) → old.faults ≤ middle.faults → TellsStepBy report reported s middle now.output (Err why) →
    IsHeldUp (Unprinted why) environment old now
unprinted_held_up Answers why environment reported s old now middle more never = absurd never
unprinted_held_up Changes WriteFault environment reported s old now middle more tells = omega (arith, more, (tells.outcome.1.failed refl).1)
unprinted_held_up Changes OutOfMemory environment reported s old now middle more tells = tt

-- ---- what waits to be handed on

-- nothing waits after a step that is told, if nothing waited before
pub step_handed : (report : Report) (reported reported_now : Reported) (s : Step) (old new : Output) → TellsStepBy report reported s old new (Ok reported_now) → old.waits ≡ false → new.waits ≡ false
step_handed Answers reported reported_now s old new tells quiet = ap (λ (o : Output). o.waits) tells.1 ∙ quiet
step_handed Changes reported reported_now s old new tells quiet = tells.handed quiet

-- nor after these steps
pub steps_handed : (report : Report) (reported reported_now : Reported) (steps : List Step) (old new : Output) → TellsBy report reported steps reported_now old new → old.waits ≡ false → new.waits ≡ false
steps_handed Answers reported reported_now steps old new tells quiet = ap (λ (o : Output). o.waits) tells.1 ∙ quiet
steps_handed Changes reported reported_now steps old new tells quiet = tells.handed quiet

-- ---- remapped pages

-- none is told yet
pub tells_none : (report : Report) (reported : Reported) (out : Output) → TellsBy report reported [] reported out out
tells_none Answers reported out = (ap (reported_as reported.number) (or_false reported.changed), refl)
tells_none Changes reported out = record {
  counted = λ numbered earlier is. is ∙ ap (λ l. numbered + changes l) (sym (append-nil earlier));
  bytes = λ numbered earlier start is was. was ∙ ap (λ l. after_known start (stream_text_from numbered l)) (sym (append-nil earlier));
  handed = λ quiet. quiet;
}

-- one more is told
pub tells_next : (report : Report) (reported between now : Reported) (steps : List Step) (s : Step) (old middle new : Output) → TellsBy report reported steps between old middle → TellsStepBy report between s middle new (Ok now) →
    TellsBy report reported (steps ++ s ∷ []) now old new
tells_next Answers reported between now steps s old middle new first then = (
  then.0
      ∙ ap (λ (r : Reported). reported_as r.number (r.changed || is_change s)) first.0
      ∙ ap (λ b. reported_as reported.number ((reported.changed || has_change steps) || b)) (or_false (is_change s))
      ∙ ap (reported_as reported.number) (sym (changed_more reported.changed steps (s ∷ []))),
  then.1 ∙ first.1,
)
tells_next Changes reported between now steps s old middle new first then = record {
  counted = λ numbered earlier is.
      let before = first.counted numbered earlier is in
      then.outcome.0 ∙ changes_more numbered between.number (earlier ++ steps) s before ∙ ap (λ l. numbered + changes l) (append_assoc earlier steps (s ∷ []));
  bytes = λ numbered earlier start is was.
      let before = first.counted numbered earlier is in
      told_more numbered start middle.bytes new.bytes between.number (earlier ++ steps) s before (first.bytes numbered earlier start is was) then.outcome.1
      ∙ ap (λ l. after_known start (stream_text_from numbered l)) (append_assoc earlier steps (s ∷ []));
  handed = λ quiet. then.handed (first.handed quiet);
}

-- one more isn't told wholly
pub tells_but_last : (report : Report) (why : Unwritten) (reported between : Reported) (steps : List Step) (s : Step) (old middle new : Output) → TellsBy report reported steps between old middle →
    TellsStepBy report between s middle new (Err why) → BreaksOffBy report why reported steps s old new
tells_but_last Answers why reported between steps s old middle new first never = never
tells_but_last Changes why reported between steps s old middle new first then = record {
  differs = then.outcome.0;
  between = middle;
  told_then = between.number;
  tells = first;
  cut_short = then.outcome.1;
}
