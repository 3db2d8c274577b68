-- What is reported of the first deliveries is reported first.
use Rattle.std.proofs.Common.{◌≡◌, refl, sym, subst, ◌∙◌, ap, ℕ, ◌+◌, ◌==◌, Bool, true, false, cond, List, [], ◌∷◌, ◌++◌, append_assoc, append-nil, filter, flat_map, Option, None, Some, arith}
use Rattle.std.proofs.{lemmas.List.Concat.flat_map-append, lemmas.List.Elements.filter-append}
use Rattle.wq_io.specs.Lines.{line_feed, lines, onto_first_line, onto_whole_line, whole_lines}
use Rattle.wq_io.specs.Streams.{after_known, before_known}
use Rattle.delivery.specs.declared.Delivery.{Delivery}
use Rattle.replay_model.specs.{Play.Replies, ReplayState.after_end, Transcript.Sections}
use Rattle.replay_parts.specs.Checkpoint.{Checkpoint, advanced, advanced_by}
use Rattle.graph_routes.specs.declared.routes.Route.{Route}
use Rattle.text_output.specs.{declared.write.Unwritten.Unwritten, Printing.IsCutShort, Printing.Output}
use Rattle.text_output.proofs.Parts.{after_twice}
use Rattle.replica.specs.Record.{record_text}
use Rattle.patch_stream.specs.Stream.{Step, changes, is_change, numbered_from, record_of_step, steps_due}
use Rattle.patch_stream.proofs.Streams.{numbered-append}
use Rattle.run_model.specs.declared.report.Report.{Report}
use Rattle.run_model.specs.{declared.report.Report.TheVariants.Answers, declared.report.Report.TheVariants.Changes, declared.stop.Halt.Halt}
use Rattle.run_model.specs.declared.stop.Halt.TheVariants.{Unapplied, Unprinted}
use Rattle.run_model.specs.Course.{Course, all_said, along, answer_of_delivery, closing_by, course_ended, led_to, said_by, steps_of_delivery, stream_text_from, version_at}
use Rattle.run_model.specs.{Moment.Beginning, Moment.Stage, Moment.standing, Reading.AreDeliveries, Reading.AreWhole, Reading.deliveries_of}
use Rattle.run_model.specs.Report.{HasReportedAt, bytes_of}
use Rattle.session_laws.specs.Reruns.{WritesPrefix, reported}
use Rattle.session_laws.proofs.Beginnings.{Begins, first_deliveries}
use Rattle.session_laws.proofs.Fronts.{IsFront, front_on, front_with, writes}

-- ---- what first deliveries make is made first

pub along-append : {A : Type 0} (made : Replies → Checkpoint → Delivery → List A) (replies : Replies) (c : Checkpoint) (xs ys : List Delivery) → along made replies c (xs ++ ys) ≡ along made replies c xs ++ along made replies (advanced_by replies c xs) ys
along-append made replies c [] ys = refl
along-append made replies c (d ∷ xs) ys =
    ap (λ l. made replies c d ++ l) (along-append made replies (advanced replies c d) xs ys)
    ∙ sym (append_assoc (made replies c d) (along made replies (advanced replies c d) xs) (along made replies (advanced_by replies (advanced replies c d) xs) ys))

along_first : {A : Type 0} (made : Replies → Checkpoint → Delivery → List A) (replies : Replies) (c : Checkpoint) (ds first : List Delivery) → Begins ds first → IsFront (along made replies c first) (along made replies c ds)
along_first made replies c ds first b = record { rest = along made replies (advanced_by replies c first) b.rest; is = ap (along made replies c) b.is ∙ along-append made replies c first b.rest }

module _ (routes : Option (List Route)) (closed : Bool) (sections : Sections) (ds first : List Delivery) (start : Beginning) (replies : Replies) (b : Begins ds first) where
  pub steps_first : IsFront (along steps_of_delivery replies (standing start) first) ((course_ended routes closed ds start).steps replies)
  steps_first = by closed
    where
      by : (c : Bool) → IsFront (along steps_of_delivery replies (standing start) first) ((course_ended routes c ds start).steps replies)
      by false = along_first steps_of_delivery replies (standing start) ds first b
      by true = front_on (along steps_of_delivery replies (standing start) first) (along steps_of_delivery replies (standing start) ds) ((course_ended routes true ds start).steps replies)
          (along_first steps_of_delivery replies (standing start) ds first b)
          (front_with (along steps_of_delivery replies (standing start) ds) (steps_due (version_at ds start) replies (after_end (led_to ds start replies))))

  pub said_first : IsFront (said_by routes replies (standing start) first) (all_said routes closed sections ds start replies)
  said_first = front_on (said_by routes replies (standing start) first) (said_by routes replies (standing start) ds) (all_said routes closed sections ds start replies)
      (along_first (answer_of_delivery routes) replies (standing start) ds first b)
      (front_with (said_by routes replies (standing start) ds) (closing_by routes (version_at ds start) sections ((course_ended routes closed ds start).state replies).played))

-- the text of more steps begins with that of the first of them
pub stream_from-append : (told : ℕ) (xs ys : List Step) → stream_text_from told (xs ++ ys) ≡ stream_text_from told xs ++ stream_text_from (told + changes xs) ys
stream_from-append told xs ys =
    let number : told + 1 + changes xs ≡ told + changes xs + 1 = omega arith in
    ap (λ l. flat_map record_text (numbered_from (told + 1) l)) (filter-append is_change xs ys)
    ∙ ap (flat_map record_text) (numbered-append (told + 1) (filter is_change xs) (filter is_change ys))
    ∙ flat_map-append record_text (numbered_from (told + 1) (filter is_change xs)) (numbered_from (told + 1 + changes xs) (filter is_change ys))
    ∙ ap (λ n. stream_text_from told xs ++ flat_map record_text (numbered_from n (filter is_change ys))) number

text_first : (told : ℕ) (first steps : List Step) → IsFront first steps → IsFront (stream_text_from told first) (stream_text_from told steps)
text_first told first steps f = record { rest = stream_text_from (told + changes first) f.rest; is = ap (stream_text_from told) f.is ∙ stream_from-append told first f.rest }

-- and the record of the next step comes behind it, if it changes something
text_next : (told : ℕ) (steps : List Step) (last : Step) → is_change last ≡ true → stream_text_from told (steps ++ last ∷ []) ≡ stream_text_from told steps ++ record_text (record_of_step (told + changes steps + 1) last)
text_next told steps last differs =
    stream_from-append told steps (last ∷ [])
    ∙ ap (λ b. stream_text_from told steps ++ flat_map record_text (numbered_from (told + changes steps + 1) (cond b (last ∷ []) []))) differs
    ∙ ap (λ l. stream_text_from told steps ++ l) (append-nil (record_text (record_of_step (told + changes steps + 1) last)))

-- ---- what was written

-- a part of what follows was written behind a front
pub cut_behind : (why : Unwritten) (text front next : List ℕ) (start between now : Output) → IsFront (front ++ next) text → between.bytes ≡ after_known start.bytes front → IsCutShort why next between now → WritesPrefix text start.bytes now.bytes
cut_behind why text front next start between now begins is cut = record {
  written = front ++ cut.written;
  unwritten = cut.unwritten ++ begins.rest;
  is = begins.is ∙ ap (λ l. (front ++ l) ++ begins.rest) cut.is
      ∙ ap (λ l. l ++ begins.rest) (sym (append_assoc front cut.written cut.unwritten))
      ∙ append_assoc (front ++ cut.written) cut.unwritten begins.rest;
  bytes = cut.bytes ∙ ap (λ b. after_known b cut.written) is ∙ after_twice start.bytes front cut.written;
}

module _ (routes : Option (List Route)) (closed : Bool) (sections : Sections) (ds : List Delivery) (start : Beginning) (replies : Replies) where
  -- these steps were reported, or, if questions are answered, these deliveries
  pub first_written : (report : Report) (course : Course) (first : List Delivery) (out : Option (List ℕ)) → Begins ds first → IsFront (course.steps replies) ((course_ended routes closed ds start).steps replies) →
      course.bytes replies ≡ after_known start.output.bytes (said_by routes replies (standing start) first) → out ≡ bytes_of report course start replies → WritesPrefix (reported report routes closed sections ds start replies) start.output.bytes out
  first_written Answers course first out begins steps bytes is = writes (all_said routes closed sections ds start replies) (said_by routes replies (standing start) first) start.output.bytes out
      (said_first routes closed sections ds first start replies begins) (is ∙ bytes)
  first_written Changes course first out begins steps bytes is = writes (stream_text_from start.numbered.patches ((course_ended routes closed ds start).steps replies)) (stream_text_from start.numbered.patches (course.steps replies)) start.output.bytes out
      (text_first start.numbered.patches (course.steps replies) ((course_ended routes closed ds start).steps replies) steps) is

  -- the same where a delivery wasn't taken wholly
  pub within_written : (halt : Halt) (report : Report) (course : Course) (first : List Delivery) (now : Stage) → Begins ds first → IsFront (course.steps replies) ((course_ended routes closed ds start).steps replies) →
      course.bytes replies ≡ after_known start.output.bytes (said_by routes replies (standing start) first) → HasReportedAt halt report course start now replies → WritesPrefix (reported report routes closed sections ds start replies) start.output.bytes now.output.bytes
  within_written (Unapplied why) Answers course first now begins steps bytes told = writes (all_said routes closed sections ds start replies) (said_by routes replies (standing start) first) start.output.bytes now.output.bytes
      (said_first routes closed sections ds first start replies begins) (told.1.bytes ∙ bytes)
  within_written (Unapplied why) Changes course first now begins steps bytes told =
      writes (stream_text_from start.numbered.patches ((course_ended routes closed ds start).steps replies)) (stream_text_from start.numbered.patches told.1.steps) start.output.bytes now.output.bytes
      (text_first start.numbered.patches told.1.steps ((course_ended routes closed ds start).steps replies)
      (front_on told.1.steps (course.steps replies) ((course_ended routes closed ds start).steps replies) (record { rest = steps_due course.version replies now.world; is = sym told.1.are }) steps))
      told.1.bytes
  within_written (Unprinted why) Answers course first now begins steps bytes never = absurd never
  within_written (Unprinted why) Changes course first now begins steps bytes broken =
      let patches : ℕ = start.numbered.patches in
      let whole : List Step = (course_ended routes closed ds start).steps replies in
      let front : IsFront (stream_text_from patches (broken.steps ++ broken.last ∷ [])) (stream_text_from patches whole) =
      text_first patches (broken.steps ++ broken.last ∷ []) whole
      (front_on (broken.steps ++ broken.last ∷ []) (course.steps replies) whole (record { rest = steps_due course.version replies now.world; is = sym broken.are }) steps) in
      cut_behind why (stream_text_from patches whole) (stream_text_from patches broken.steps) (record_text (record_of_step (patches + changes broken.steps + 1) broken.last)) start.output broken.between now.output
      (subst (λ l. IsFront l (stream_text_from patches whole)) (text_next patches broken.steps broken.last broken.differs) front) broken.bytes broken.cut_short

-- ---- first lines

abbrev IsWholeFirst : List ℕ → List ℕ → Type 0
IsWholeFirst bytes rest = (later : List (List ℕ)) × (lines (bytes ++ rest) ≡ whole_lines bytes ++ later)

-- the whole lines of the first bytes are the first lines
whole_first : (bytes rest : List ℕ) → IsWholeFirst bytes rest
whole_first [] rest = (lines rest, refl)
whole_first (b ∷ bs) rest = by (b == line_feed) (whole_lines bs) (whole_first bs rest).0 (whole_first bs rest).1
  where
    by : (feed : Bool) (whole later : List (List ℕ)) → lines (bs ++ rest) ≡ whole ++ later →
        (l : List (List ℕ)) × (cond feed ([] ∷ lines (bs ++ rest)) (onto_first_line b (lines (bs ++ rest))) ≡ cond feed ([] ∷ whole) (onto_whole_line b whole) ++ l)
    by true whole later is = (later, ap (λ ls. [] ∷ ls) is)
    by false [] later is = (onto_first_line b (lines (bs ++ rest)), refl)
    by false (line ∷ others) later is = (later, ap (onto_first_line b) is)

-- the deliveries of the whole lines that were read are the first deliveries
pub whole_begins : (limit : ℕ) (left left_now : Option (List ℕ)) (bytes : List ℕ) (first ds : List Delivery) → left ≡ Some bytes → AreDeliveries limit bytes ds → AreWhole limit left left_now first → Begins ds first
whole_begins limit left left_now bytes first ds known are whole = by left_now whole.is
  where
    by : (o : Option (List ℕ)) → left ≡ before_known whole.read o → Begins ds first
    by None is = let never : Some bytes ≡ None = sym known ∙ is in cc
    by (Some rest) is =
        let same : Some bytes ≡ Some (whole.read ++ rest) = sym known ∙ is in
        let all : bytes ≡ whole.read ++ rest = cc in
        let front = whole_first whole.read rest in
        first_deliveries (whole_lines whole.read) front.0 first ds whole.delivered (subst (λ l. deliveries_of l ≡ Some ds) (ap lines all ∙ front.1) are.delivered)
