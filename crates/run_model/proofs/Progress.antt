-- How far the taking of lines has come, and what follows where it goes on, stops or ends.
use Rattle.std.proofs.Common.{refl, sym, subst, ◌∙◌, ap, inl, inr, ⊎_elim, ◌≡◌, ◌⊎◌, ℕ, ◌+◌, ◌-◌, ◌^◌, ◌<◌, ◌≤◌, Bool, true, false, ◌&&◌, List, [], ◌∷◌, ◌++◌, length, length-append, Option, None, Some, IfSome, Ok, Err, arith, append-nil}
use Rattle.wq_io.specs.Streams.{IsAtEnd, LastRead}
use Rattle.wq_io.specs.Lines.{HasCause, IsSound, Leaves, ReadsAsNeeded, Reading, fresh, longest_line, unread}
use Rattle.wq_io.specs.declared.lines.LineFault.{LineFault}
use Rattle.wq_io.specs.declared.lines.LineFault.TheVariants.{ReadFault as NotRead, TooLong as PastLimit, LineLong as OverLong, OutOfMemory as LineOutOfMemory}
use Rattle.entity_model.specs.{declared.id.EntityId.EntityId, declared.mapping.MappingVersion.MappingVersion}
use Rattle.entity_model.specs.declared.mapping.MappingVersion.TheVariants.{One}
use Rattle.replay_model.specs.{Versions.all_by, Play.Replies, Records.Bytes, Records.Records, Replies.HoldsDocument}
use Rattle.replay_model.specs.{ReplayState.ReplayState, ReplayState.nothing_delivered_within, Transcript.asks, Transcript.matches}
use Rattle.delivery.specs.declared.Delivery.{Delivery}
use Rattle.delivery.specs.declared.Delivery.TheVariants.{Event as Told, Watermark, Ask, Mapping, Match}
use Rattle.event_line.specs.{declared.faults.LineCause.LineCause, Line.delivery_of}
use Rattle.entity_state.specs.declared.record.Record.{Record}
use Rattle.sorted_sets.proofs.Bools.{clash}
use Rattle.reorder_buffer.specs.Buffered.{first_due}
use Rattle.fetched_pages.specs.Meaning.{meaning}
use Rattle.replay_model.proofs.{FetchCounts.risen_by-none, RecordOf.record_of-empty}
use Rattle.text_output.specs.{declared.write.Unwritten.Unwritten, Printing.IsCutShort, Printing.Output}
use Rattle.checkpoint.specs.Archive.{Archive}
use Rattle.text_output.proofs.Parts.{after_nothing}
use Rattle.replica.specs.Record.{record_text}
use Rattle.patch_stream.specs.Stream.{Step, changes, record_of_step, steps_anew}
use Rattle.run_model.specs.Course.{answer_held, answer_text, course_after, course_begun, course_remapping, led_to, version_at, along, steps_of_delivery}
use Rattle.run_model.specs.{declared.report.Report.Report, declared.report.Reported.Reported}
use Rattle.run_model.specs.{declared.report.Report.TheVariants.Answers, declared.report.Report.TheVariants.Changes, declared.stop.Halt.Halt}
use Rattle.run_model.specs.declared.stop.Halt.TheVariants.{Unapplied as NotApplied, Unprinted}
use Rattle.run_model.specs.{declared.stop.Stop.Stop, declared.lines_taken.LinesTaken.LinesTaken}
use Rattle.run_model.specs.declared.stop.Stop.TheVariants.{BadLine, OutOfMemory}
use Rattle.run_model.specs.Moment.{SourceCounts, no_numbers, Beginning, Moment, Run, Environment, Stage, onward, standing, start_in, reported_as, start_of, with_mapped, with_output, is_mark, is_save_due, marks, numbers_after, snapshot_text, up_to_saves}
use Rattle.run_model.specs.Headline.{IsPlayed, IsPlayedAfter, IsSnapshotBehind, KeepsOnTheWay, StandsAtPage, StandsAtQuestion, Stopped, StopsWithin}
use Rattle.run_model.specs.Remapping.{HaveRoomBefore, needed_anew, IsLeftStale, Mapped, mapped_by, remapped_some}
use Rattle.run_model.specs.{Reading.AreFirst, Reading.AreFirstAlone, Reading.HasRead, Reading.TakesByNeed, Report.HasReported}
use Rattle.run_model.specs.Stop.{stop_of_fault, stop_of_halt, stop_of_unwritten}
use Rattle.run_model.specs.Taking.{IsStanding, IsWithin, judgement}
use Rattle.run_model.specs.Delivering.{HasTaken, KeepsIf, taken_before, BreaksOffBy, HasAnswered, HasNumberLeft, TellsBy, reported_before, AnswersInPart, AtRest, CutsOff, IsUntaken, RemapsInPart, RemapsPages, TakesDelivery, TakesInPart, turn}
use Rattle.snapshot.specs.declared.counts.Counts.{Counts}
use Rattle.graph_routes.specs.declared.routes.Route.{Route}
use Rattle.term_pool.specs.declared.fault.PoolFault.TheVariants.{Full as NoRoom, OutOfMemory as PoolOutOfMemory}
use Rattle.following.specs.Input.{Input}
use Rattle.arguments.specs.Options.{max_bytes_of}
use Rattle.run_model.proofs.{Along.asks-push, Along.matches-push, Explaining.explained_first, Needed.due-none, Reports.steps-none}
use Rattle.run_model.proofs.Deliveries.{is_answer, remapping_counted, remapping_leads, rest_within}
use Rattle.run_model.proofs.Due.{within_mapped}
use Rattle.run_model.proofs.Ends.{halted, interrupted, is_played, left_stale, page_unprinted, rose_since, save_stops}
use Rattle.run_model.proofs.Answers.{answer_held_by}
use Rattle.run_model.proofs.Saves.{is_saved_behind, keeps_next, keeps_nothing, keeps_still, marks-push, save_due, snapshot_behind}
use Rattle.run_model.proofs.Reading.{HasLimits, IsNextLine, all_read, as_many, bad_line, first_lines, first_with, nothing_first, nothing_read, nothing_taken_of, over_long, past_limit, read_more, takes_on, whole_read}

-- where questions are answered, no more were since the run began than lines were read
abbrev pub FewAnswers : Report → Counts → Reported → ℕ → Type 0
FewAnswers Answers numbered reported given = reported.number ≤ numbered.asks + given
FewAnswers Changes numbered reported given = Unit {0}

-- the lines so far were read, the world has taken them, so many asks were answered or records written, and so many matches were delivered,
-- with those of earlier runs
pub record Progress (run : Run) (before now : Moment) (reader : Reading) (reported : Reported) (matched : ℕ) : Type 0 where
  pub deliveries : List Delivery
  pub read : HasRead before.input.left reader now.input.left deliveries
  pub taken : IfSome before.input.left (λ bytes. TakesByNeed (max_bytes_of run.choices) bytes now.input.left before.last_read now.last_read)
  pub at_rest : AtRest run.environment deliveries reported (start_of run before) now.stage
  pub earlier : before.input.faults ≤ now.input.faults
  pub few : FewAnswers run.environment.report run.numbered reported reader.given
  pub counted : matched ≡ run.numbered.matches + matches deliveries
  pub few_matched : matched ≤ run.numbered.matches + reader.given
  pub max : HasLimits (max_bytes_of run.choices) reader
  pub sound : IsSound reader
  pub going : reader.failed ≡ false
  pub ended : reader.ended ≡ true → IsAtEnd now.input.left
  pub kept : KeepsOnTheWay run (start_of run before) (up_to_saves run.choices.every deliveries) before.snapshot.kept now.snapshot.kept

-- nothing is reported before the first delivery
nothing_reported : (routes : Option (List Route)) (report : Report) (numbered : Counts) (s : Stage) (others : Replies) → first_due s.world.buffer ≡ None →
    HasReported report (course_after routes [] (start_in numbered s)) (reported_before report numbered) (start_in numbered s) s others
nothing_reported routes Answers numbered s others none = record {
  steps = [];
  are = steps-none s.mapped.version others s.world none;
  changed = refl;
  bytes = sym (after_nothing s.output.bytes);
}
nothing_reported routes Changes numbered s others none = record {
  steps = [];
  are = steps-none s.mapped.version others s.world none;
  counted = omega arith;
  bytes = sym (after_nothing s.output.bytes);
}

none_answered : (report : Report) (start : Beginning) → HasAnswered report (reported_before report start.numbered) [] start
none_answered Answers start = omega arith
none_answered Changes start = tt

no_answers : (report : Report) (numbered : Counts) (given : ℕ) → FewAnswers report numbered (reported_before report numbered) given
no_answers Answers numbered given = omega arith
no_answers Changes numbered given = tt

-- and there is a number for one more
pub numbers_left : (report : Report) (numbered : Counts) (reported : Reported) (matched : ℕ) (reader : Reading) {limit : ℕ} → numbered.asks ≤ 2 ^ 63 → numbered.matches ≤ 2 ^ 63 → FewAnswers report numbered reported reader.given →
    matched ≤ numbered.matches + reader.given → IsSound reader → HasLimits limit reader → limit ≤ 2 ^ 40 → HasNumberLeft report reported matched
numbers_left Answers numbered reported matched reader few_asks few_matches few few_matched sound limits bounded =
    (omega (arith, few_asks, few, sound.counted, sound.bounded, sound.within, limits.bytes, bounded), omega (arith, few_matches, few_matched, sound.counted, sound.bounded, sound.within, limits.bytes, bounded))
numbers_left Changes numbered reported matched reader few_asks few_matches few few_matched sound limits bounded = tt

-- and a count that rose with the lines has one
pub count_left : (earlier count : ℕ) (reader : Reading) {limit : ℕ} → earlier ≤ 2 ^ 63 → count ≤ earlier + reader.given → IsSound reader → HasLimits limit reader → limit ≤ 2 ^ 40 → count < 2 ^ 64 - 1
count_left earlier count reader few_earlier few sound limits bounded = omega (arith, few_earlier, few, sound.counted, sound.bounded, sound.within, limits.bytes, bounded)

-- one line more
pub next_line : (lines earlier given next : ℕ) → lines ≡ earlier + given → next ≡ given + 1 → lines + 1 ≡ earlier + next
next_line lines earlier given next is more = omega arith

-- and one watermark more, or none
pub next_marks : (marked one given next : ℕ) → marked ≤ given → one ≤ 1 → next ≡ given + 1 → marked + one ≤ next
next_marks marked one given next few at_most more = omega arith

-- a delivery is one watermark at most
pub one_mark : (d : Delivery) → marks (d ∷ []) ≤ 1
one_mark (Told e) = omega arith
one_mark (Watermark w) = omega arith
one_mark (Ask q) = omega arith
one_mark (Mapping v) = omega arith
one_mark (Match q) = omega arith

-- and one match at most
pub one_match : (d : Delivery) → matches (d ∷ []) ≤ 1
one_match (Told e) = omega arith
one_match (Watermark w) = omega arith
one_match (Ask q) = omega arith
one_match (Mapping v) = omega arith
one_match (Match q) = omega arith

-- before the first delivery a world that stands between two is at rest
pub nothing_taken_from : (environment : Environment) (numbered : Counts) (s : Stage) → IsStanding s.world s.mapped → AtRest environment [] (reported_before environment.report numbered) (start_in numbered s) s
nothing_taken_from environment numbered s stands = record {
  leads = record {
    made = 0;
    explained = explained_first judgement environment.known (standing (start_in numbered s)) s.world refl stands.rests stands.rises stands.applied;
    counted = record { calls = sym (risen_by-none s.counts.calls); failed = λ below. omega arith; missing = λ below. omega arith };
    documents = stands.documents;
    says = λ others agree. nothing_reported environment.routes environment.report numbered s others stands.rests;
    roomed = λ others agree. record { met = []; are = due-none s.mapped.version others s.world stands.rests; have_room = tt };
    handed = λ quiet. quiet;
  };
  answered = none_answered environment.report (start_in numbered s);
  rests = stands.rests;
  begun = stands.open_still;
  mapped = stands.by_one;
  later = omega arith;
}

-- the world before the first delivery of all is such a world
pub nothing_stands : (h : Option ℕ) → IsStanding (nothing_delivered_within h) (record { version = One; by_two = [] })
nothing_stands h = record {
  open_still = refl;
  rests = refl;
  rises = tt;
  by_one = refl;
  documents = λ x. subst (λ (r : Record Bytes). HoldsDocument judgement x r.held) (sym (record_of-empty x)) tt;
  applied = λ e h. clash h refl;
}

pub nothing_taken : (environment : Environment) (h : Option ℕ) (output : Output) (counts : SourceCounts) → let s : Stage = record { output = output; counts = counts; world = nothing_delivered_within h; mapped = record { version = One; by_two = [] } } in AtRest environment [] (reported_before environment.report no_numbers) (start_in no_numbers s) s
nothing_taken environment h output counts = nothing_taken_from environment no_numbers _ (nothing_stands h)

-- before the first line
pub nothing_begun : (run : Run) (before : Moment) → IsStanding before.stage.world before.stage.mapped →
    Progress run before before (fresh (max_bytes_of run.choices) longest_line) (reported_before run.environment.report run.numbered) run.numbered.matches
nothing_begun run before stands = record {
  deliveries = [];
  read = nothing_read (max_bytes_of run.choices) before.input.left;
  taken = nothing_taken_of (max_bytes_of run.choices) before.input.left before.last_read;
  at_rest = nothing_taken_from run.environment run.numbered before.stage stands;
  earlier = omega arith;
  few = no_answers run.environment.report run.numbered 0;
  counted = omega arith;
  few_matched = omega arith;
  max = record { bytes = refl; line = refl };
  sound = record { within = omega arith; counted = omega arith; bounded = omega arith; buffered = omega arith };
  going = refl;
  ended = λ never. cc;
  kept = keeps_nothing run (start_of run before) before.snapshot.kept;
}

-- where there is no last line
no_last : {P : Type 0} (d : Delivery) → None ≡ Some d → P
no_last d never = cc

-- memory was refused before the first line
pub starved_at_once : (run : Run) (before : Moment) → IsStanding before.stage.world before.stage.mapped → Stopped OutOfMemory run before before
starved_at_once run before stands =
    let stops : StopsWithin (NotApplied PoolOutOfMemory) run before before = record {
      deliveries = [];
      last = None;
      kind = tt;
      within = rest_within run.environment [] (start_of run before) before.stage (reported_before run.environment.report run.numbered) (nothing_taken_from run.environment run.numbered before.stage stands);
      mapped = stands.by_one;
      first = nothing_first (max_bytes_of run.choices) before.input.left;
      alone = λ d never. no_last d never;
      kept = keeps_nothing run (start_of run before) before.snapshot.kept;
    } in
    inl (inl (inl (inl stops)))

module _ (run : Run) (before now : Moment) (reader : Reading) (reported : Reported) (matched : ℕ) (so_far : Progress run before now reader reported matched) where
  played : IsPlayedAfter run.environment so_far.deliveries (start_of run before) now.stage
  played = is_played run.environment (course_after run.environment.routes so_far.deliveries (start_of run before)) reported (start_of run before) now.stage so_far.at_rest.leads so_far.at_rest.rests so_far.at_rest.mapped

  -- what was taken, after a call of the reader, whatever it answered
  pub taken_on : (next : Reading) (left_next : Option (List ℕ)) (last_next : Option LastRead) → ReadsAsNeeded reader next now.input.left left_next now.last_read last_next →
      IfSome before.input.left (λ bytes. TakesByNeed (max_bytes_of run.choices) bytes left_next before.last_read last_next)
  taken_on next left_next last_next reads =
      takes_on (max_bytes_of run.choices) reader now.input.left so_far.deliveries so_far.max so_far.sound before.input.left next left_next before.last_read now.last_read last_next so_far.read reads so_far.taken

  -- the lines so far, and none more
  first_still : (next : Reading) (left_next : Option (List ℕ)) (last last_next : Option LastRead) → ReadsAsNeeded reader next now.input.left left_next last last_next →
      AreFirst (max_bytes_of run.choices) before.input.left left_next (so_far.deliveries ++ [])
  first_still next left_next last last_next reads =
      rw (append-nil so_far.deliveries)
      (first_lines (max_bytes_of run.choices) reader now.input.left so_far.deliveries so_far.max so_far.sound before.input.left next left_next last last_next reads so_far.read)

  -- memory was refused: the world is as it was after the lines so far
  pub stands : (next : Reading) (input : Input) (last last_next : Option LastRead) → ReadsAsNeeded reader next now.input.left input.left last last_next →
      StopsWithin (NotApplied PoolOutOfMemory) run before (record now { input = input; last_read = last_next })
  stands next input last last_next reads = record {
    deliveries = so_far.deliveries;
    last = None;
    kind = tt;
    within = rest_within run.environment so_far.deliveries (start_of run before) now.stage reported so_far.at_rest;
    mapped = so_far.at_rest.mapped;
    first = first_still next input.left last last_next reads;
    alone = λ d never. no_last d never;
    kept = so_far.kept;
  }

  -- as many lines were read as deliveries taken
  as_many_taken : reader.given ≡ length so_far.deliveries
  as_many_taken = so_far.read.counted ∙ sym (as_many so_far.read.done so_far.deliveries so_far.read.delivered)

  -- the number of the next line
  numbered : (number : ℕ) → number ≡ reader.given + 1 → number ≡ length so_far.deliveries + 1
  numbered number next = next ∙ ap (λ n. n + 1) as_many_taken

  -- a fault of the reader stops the taking
  pub fault_stops : (fault : LineFault) (next : Reading) (input : Input) (last last_next : Option LastRead) → HasCause fault reader now.input.left now.input.faults input.faults →
      Leaves fault reader now.input.left input.left → ReadsAsNeeded reader next now.input.left input.left last last_next → Stopped (stop_of_fault fault) run before (record now { input = input; last_read = last_next })
  fault_stops NotRead next input last last_next cause leaves reads = (
    rose_since before.input.faults now.input.faults input.faults so_far.earlier cause,
    record { deliveries = so_far.deliveries; played = played; whole = whole_read (max_bytes_of run.choices) reader now.input.left so_far.deliveries so_far.max so_far.sound before.input.left input.left so_far.read leaves; kept = so_far.kept },
  )
  fault_stops PastLimit next input last last_next cause leaves reads =
      record { deliveries = so_far.deliveries; played = played; past = past_limit (max_bytes_of run.choices) reader now.input.left so_far.deliveries so_far.max so_far.sound before.input.left so_far.read cause; kept = so_far.kept }
  fault_stops (OverLong number) next input last last_next cause leaves reads =
      record { deliveries = so_far.deliveries; played = played; counted = numbered number cause.0; bad = over_long (max_bytes_of run.choices) reader now.input.left so_far.deliveries so_far.max so_far.sound before.input.left number so_far.read cause.0 cause.1; kept = so_far.kept }
  fault_stops LineOutOfMemory next input last last_next cause leaves reads = inl (inl (inl (inl (stands next input last last_next reads))))

  -- at the end of the input all lines were taken
  pub end_reached : (input : Input) (last_next : Option LastRead) → IsAtEnd input.left → IsAtEnd (unread reader now.input.left) → (taken : LinesTaken) → taken.reported ≡ reported → taken.matched ≡ matched →
      taken.lines ≡ run.numbered.lines + reader.given → HasTaken run taken before (record now { input = input; last_read = last_next })
  end_reached input last_next read at_end taken same_reported same_matched counted = record {
    deliveries = so_far.deliveries;
    read = read;
    are = all_read (max_bytes_of run.choices) reader now.input.left so_far.deliveries so_far.max so_far.sound before.input.left so_far.read at_end;
    at_rest = subst (λ (r : Reported). AtRest run.environment so_far.deliveries r (start_of run before) now.stage) (sym same_reported) so_far.at_rest;
    matched_are = same_matched ∙ so_far.counted;
    lines_are = counted ∙ ap (λ n. run.numbered.lines + n) as_many_taken;
    kept = so_far.kept;
  }

  module _ (line : List ℕ) (next : Reading) where
    -- a line that is refused stops the taking
    pub line_stops : (stop : Stop) (input : Input) (last last_next : Option LastRead) (number : ℕ) → IsNextLine line reader next now.input.left input.left last last_next → number ≡ reader.given + 1 →
        ((cause : LineCause) × (stop ≡ BadLine number cause) × (delivery_of line ≡ Err cause)) ⊎ (stop ≡ OutOfMemory) → Stopped stop run before (record now { input = input; last_read = last_next })
    line_stops stop input last last_next number is counted why = ⊎_elim
        (λ bad. subst (λ s. Stopped s run before (record now { input = input; last_read = last_next })) (sym bad.1) (record {
          deliveries = so_far.deliveries;
          played = played;
          counted = numbered number counted;
          bad = bad_line (max_bytes_of run.choices) reader now.input.left so_far.deliveries so_far.max so_far.sound line next input.left last last_next is before.input.left number bad.0 so_far.read counted bad.2;
          kept = so_far.kept;
        }))
        (λ refused. subst (λ s. Stopped s run before (record now { input = input; last_read = last_next })) (sym refused) (inl (inl (inl (inl (stands next input last last_next is.reads))))))
        why

    module _ (after : Moment) (d : Delivery) (is : IsNextLine line reader next now.input.left after.input.left now.last_read after.last_read) (delivers : delivery_of line ≡ Ok d) (same : after.snapshot ≡ now.snapshot) where
      -- nothing was kept since
      kept_still : KeepsOnTheWay run (start_of run before) (up_to_saves run.choices.every so_far.deliveries) before.snapshot.kept after.snapshot.kept
      kept_still = subst (λ (a : Archive). KeepsOnTheWay run (start_of run before) (up_to_saves run.choices.every so_far.deliveries) before.snapshot.kept a.kept) (sym same) so_far.kept

      first : AreFirstAlone (max_bytes_of run.choices) before.input.left after.input.left (so_far.deliveries ++ d ∷ [])
      first = first_with (max_bytes_of run.choices) reader now.input.left so_far.deliveries so_far.max so_far.sound line next after.input.left now.last_read after.last_read is before.input.left d so_far.read delivers

      -- what was played before stands with a stage in which nothing else changed but the output
      played_still : after.stage.world ≡ now.stage.world → after.stage.counts ≡ now.stage.counts → (mapped : Mapped) → mapped ≡ now.stage.mapped →
          IsPlayedAfter run.environment so_far.deliveries (start_of run before) (with_mapped (onward now.stage after.stage.counts after.stage.world) mapped)
      played_still world counts mapped same =
          subst (λ m. IsPlayedAfter run.environment so_far.deliveries (start_of run before) (with_mapped (onward now.stage after.stage.counts after.stage.world) m)) (sym same)
          (subst (λ w. IsPlayedAfter run.environment so_far.deliveries (start_of run before) (onward now.stage after.stage.counts w)) (sym world)
          (subst (λ c. IsPlayedAfter run.environment so_far.deliveries (start_of run before) (onward now.stage c now.stage.world)) (sym counts) played))

      -- a question that isn't answered wholly stops the taking
      at_question : (why : Unwritten) → AnswersInPart why run.environment (turn reported matched d) now.stage after.stage → StandsAtQuestion why run before after
      at_question why in_part =
          let CutShort : List ℕ → Type 0 = λ text. IsCutShort why text now.stage.output after.stage.output in
          record {
            answers = in_part.answers;
            deliveries = so_far.deliveries;
            question = in_part.question;
            between = now.stage.output;
            played = played_still in_part.world in_part.counts after.stage.mapped in_part.mapped;
            cut_short = subst CutShort
                (ap (λ n. answer_held run.environment.routes n matched now.stage.mapped now.stage.world.played.records in_part.question)
                (is_answer so_far.deliveries (start_of run before) run.environment.report reported so_far.at_rest.answered in_part.answers)
                ∙ ap (λ n. answer_held run.environment.routes (run.numbered.asks + asks so_far.deliveries) n now.stage.mapped now.stage.world.played.records in_part.question) so_far.counted
                ∙ answer_held_by run.environment.routes (run.numbered.asks + asks so_far.deliveries) (run.numbered.matches + matches so_far.deliveries) (version_at so_far.deliveries (start_of run before)) now.stage.mapped now.stage.world.played.records
                in_part.question so_far.at_rest.mapped
                ∙ ap (λ (w : ReplayState). answer_text run.environment.routes (run.numbered.asks + asks so_far.deliveries) (run.numbered.matches + matches so_far.deliveries) (meaning (version_at so_far.deliveries (start_of run before)))
                w.played.records in_part.question) (sym in_part.world))
                in_part.cut_short;
            first = subst (λ q. AreFirstAlone (max_bytes_of run.choices) before.input.left after.input.left (so_far.deliveries ++ q ∷ [])) in_part.is first;
            kept = kept_still;
          }

      -- a delivery wasn't taken wholly
      starves : (halt : Halt) → TakesInPart halt run.environment (turn reported matched d) now.stage after.stage → StopsWithin halt run before after
      starves halt in_part =
          let mapped = in_part.mapped (version_at so_far.deliveries (start_of run before)) so_far.at_rest.mapped in
          ⊎_elim
          (untaken halt mapped)
          (λ begun. record { deliveries = so_far.deliveries; last = Some d; kind = in_part.kind; within = begun; mapped = mapped; first = first.first; alone = λ _ _. first.alone; kept = kept_still })
          (in_part.world so_far.deliveries (start_of run before) so_far.at_rest)
        where
          Within : Stage → Type 0
          Within s = IsWithin (NotApplied PoolOutOfMemory) run.environment (course_begun run.environment.routes so_far.deliveries None (start_of run before)) (λ replies. led_to so_far.deliveries (start_of run before) replies) (start_of run before) s

          still : after.stage.world ≡ now.stage.world → after.stage.counts ≡ now.stage.counts → after.stage.output ≡ now.stage.output → Within after.stage
          still world counts output =
              subst (λ o. Within (with_output after.stage o)) (sym output)
              (subst (λ w. Within (with_mapped (onward now.stage after.stage.counts w) after.stage.mapped)) (sym world)
              (subst (λ c. Within (with_mapped (onward now.stage c now.stage.world) after.stage.mapped)) (sym counts)
              (within_mapped PoolOutOfMemory _ _ _ _ now.stage after.stage.mapped (rest_within run.environment so_far.deliveries (start_of run before) now.stage reported so_far.at_rest))))

          untaken : (halt : Halt) → after.stage.mapped ≡ mapped_by (version_at so_far.deliveries (start_of run before)) after.stage.world.played.records → IsUntaken halt now.stage after.stage → StopsWithin halt run before after
          untaken (NotApplied NoRoom) mapped never = absurd never
          untaken (NotApplied PoolOutOfMemory) mapped same = record {
            deliveries = so_far.deliveries;
            last = None;
            kind = tt;
            within = still same.0 same.1 same.2;
            mapped = mapped;
            first = first_still next after.input.left now.last_read after.last_read is.reads;
            alone = λ q never. no_last q never;
            kept = kept_still;
          }
          untaken (Unprinted why) mapped never = absurd never

      -- not all that is held was remapped, or told
      remaps : (halt : Halt) → RemapsInPart halt run.environment (turn reported matched d) now.stage after.stage → Stopped (stop_of_halt halt) run before after
      remaps halt in_part = by halt in_part.remaps
        where
          v : MappingVersion
          v = version_at so_far.deliveries (start_of run before)

          records : Records
          records = after.stage.world.played.records

          -- the play of the deliveries, and of pages behind them that are told, of which these are all records
          Played : List Step → Reported → Output → SourceCounts → ReplayState → Type 0
          Played pages n out c w =
              (p : IsPlayed run.environment (course_remapping run.environment.routes pages so_far.deliveries (start_of run before)) (start_of run before) (record { output = out; counts = c; world = w; mapped = mapped_by v w.played.records }))
              × (run.environment.report ≡ Changes → n.number ≡ run.numbered.patches + changes (along steps_of_delivery p.replies (standing (start_of run before)) so_far.deliveries ++ pages))

          played_with : (pages : List Step) (n : Reported) (out : Output) → TellsBy run.environment.report reported pages n now.stage.output out → Played pages n out after.stage.counts after.stage.world
          played_with pages n out tells =
              subst (λ c. Played pages n out c after.stage.world) (sym in_part.counts)
              (subst (λ w. Played pages n out now.stage.counts w) (sym in_part.world) (
                is_played run.environment (course_remapping run.environment.routes pages so_far.deliveries (start_of run before)) n (start_of run before) (with_mapped (with_output now.stage out) (mapped_by v now.stage.world.played.records))
                    (remapping_leads run.environment so_far.deliveries (start_of run before) now.stage reported n pages (mapped_by v now.stage.world.played.records) out tells so_far.at_rest) so_far.at_rest.rests refl,
                remapping_counted run.environment so_far.deliveries (start_of run before) now.stage reported n pages out tells so_far.at_rest,
              ))

          start : ReplayState → List EntityId → Mapped
          start w by_two = record { version = in_part.version; by_two = by_two }

          by_two_is : now.stage.mapped.by_two ≡ all_by v now.stage.world.played.records
          by_two_is = ap (λ (m : Mapped). m.by_two) so_far.at_rest.mapped

          is_mapped : (steps : ℕ) → after.stage.mapped ≡ remapped_some steps now.stage.world.played.records (start now.stage.world now.stage.mapped.by_two) → after.stage.mapped ≡ remapped_some steps records (start after.stage.world (all_by v records))
          is_mapped steps mapped =
              mapped ∙ ap (λ by_two. remapped_some steps now.stage.world.played.records (start now.stage.world by_two)) by_two_is
              ∙ ap (λ (w : ReplayState). remapped_some steps w.played.records (start w (all_by v w.played.records))) (sym in_part.world)

          roomed : HaveRoomBefore run.environment.limit (needed_anew now.stage.world.played.records after.stage.mapped) (needed_anew now.stage.world.played.records (start now.stage.world now.stage.mapped.by_two)) →
              HaveRoomBefore run.environment.limit (needed_anew records after.stage.mapped) (needed_anew records (start after.stage.world (all_by v records)))
          roomed have =
              subst (λ (w : ReplayState). HaveRoomBefore run.environment.limit (needed_anew w.played.records after.stage.mapped) (needed_anew w.played.records (start w (all_by v w.played.records)))) (sym in_part.world)
              (subst (λ by_two. HaveRoomBefore run.environment.limit (needed_anew now.stage.world.played.records after.stage.mapped) (needed_anew now.stage.world.played.records (start now.stage.world by_two))) by_two_is have)

          left_over : (pages : List Step) → pages ++ steps_anew in_part.version now.stage.world.played.records after.stage.mapped.by_two ≡ steps_anew in_part.version now.stage.world.played.records now.stage.mapped.by_two →
              pages ++ steps_anew in_part.version records after.stage.mapped.by_two ≡ steps_anew in_part.version records (all_by v records)
          left_over pages are =
              ap (λ (w : ReplayState). pages ++ steps_anew in_part.version w.played.records after.stage.mapped.by_two) in_part.world
              ∙ are
              ∙ ap (steps_anew in_part.version now.stage.world.played.records) by_two_is
              ∙ ap (λ (w : ReplayState). steps_anew in_part.version w.played.records (all_by v w.played.records)) (sym in_part.world)

          first_lines_with : AreFirstAlone (max_bytes_of run.choices) before.input.left after.input.left (so_far.deliveries ++ Mapping in_part.version ∷ [])
          first_lines_with = subst (λ q. AreFirstAlone (max_bytes_of run.choices) before.input.left after.input.left (so_far.deliveries ++ q ∷ [])) in_part.is first

          unprinted : (report : Report) → report ≡ run.environment.report → (why : Unwritten) (pages others : List Step) (last : Step) → pages ≡ others ++ last ∷ [] → BreaksOffBy report why reported others last now.stage.output after.stage.output →
              (x : RemapsPages (Unprinted why) run.environment.report run.environment.limit reported in_part.version now.stage.world.played.records now.stage.mapped after.stage.mapped now.stage.output after.stage.output) →
              pages ++ steps_anew in_part.version now.stage.world.played.records after.stage.mapped.by_two ≡ steps_anew in_part.version now.stage.world.played.records now.stage.mapped.by_two → StandsAtPage why run before after
          unprinted Answers same why pages others last split never x are = absurd never
          unprinted Changes same why pages others last split broken x are =
              let tells = subst (λ report. TellsBy report reported others (reported_as broken.told_then false) now.stage.output broken.between) same broken.tells in
              let p = played_with others (reported_as broken.told_then false) broken.between tells in
              record {
                changes_reported = sym same;
                deliveries = so_far.deliveries;
                version = in_part.version;
                steps = x.steps;
                pages = others;
                last = last;
                are = left_over (others ++ last ∷ []) (ap (λ l. l ++ steps_anew in_part.version now.stage.world.played.records after.stage.mapped.by_two) (sym split) ∙ are);
                differs = broken.differs;
                between = broken.between;
                played = p.0;
                mapped = is_mapped x.steps x.mapped;
                roomed = roomed x.roomed;
                cut_short = subst (λ n. IsCutShort why (record_text (record_of_step (n + 1) last)) broken.between after.stage.output) (p.1 (sym same)) broken.cut_short;
                first = first_lines_with;
                kept = kept_still;
              }

          by : (halt : Halt) → RemapsPages halt run.environment.report run.environment.limit reported in_part.version now.stage.world.played.records now.stage.mapped after.stage.mapped now.stage.output after.stage.output → Stopped (stop_of_halt halt) run before after
          by (NotApplied why) x = left_stale why run before after
              (subst (λ (w : ReplayState). IsLeftStale why run.environment.limit w.played.records after.stage.mapped) (sym in_part.world) x.left)
              (record {
                deliveries = so_far.deliveries;
                version = in_part.version;
                steps = x.steps;
                pages = x.pages;
                are = left_over x.pages x.are;
                played = (played_with x.pages x.told.0 after.stage.output x.told.1).0;
                mapped = is_mapped x.steps x.mapped;
                roomed = roomed x.roomed;
                first = first_lines_with;
                kept = kept_still;
              })
          by (Unprinted why) x = page_unprinted why run before after run.environment.limit now.stage.world.played.records now.stage.output so_far.at_rest.later x.left (unprinted run.environment.report refl why x.pages x.told.0 x.told.1 x.told.2 x.told.3 x x.are)

      -- a delivery that isn't taken wholly stops the taking
      pub delivery_stops : (stop : Stop) → CutsOff stop run.environment (turn reported matched d) now.stage after.stage → Stopped stop run before after
      delivery_stops stop cut = ⊎_elim
          (λ printing. subst (λ s. Stopped s run before after) (sym printing.1)
          (interrupted printing.0 run before after now.stage.output so_far.at_rest.later (λ fault. (printing.2.cut_short.failed fault).1) (inl (inl (at_question printing.0 printing.2)))))
          (⊎_elim
          (λ starving. subst (λ s. Stopped s run before after) (sym starving.1) (halted starving.0 run before after now.stage.output so_far.at_rest.later starving.2.held_up (inl (starves starving.0 starving.2))))
          (λ remapping. subst (λ s. Stopped s run before after) (sym remapping.1) (remaps remapping.0 remapping.2)))
          cut

      -- a line that is taken, behind which the snapshot is kept, if a save follows it
      module _ (reported_now : Reported) (takes : TakesDelivery run.environment (turn reported matched d) reported_now now.stage after.stage) where
        pub rests_then : AtRest run.environment (so_far.deliveries ++ d ∷ []) reported_now (start_of run before) after.stage
        rests_then = takes so_far.deliveries (start_of run before) so_far.counted so_far.at_rest

        pub matched_then : matched + matches (d ∷ []) ≡ run.numbered.matches + matches (so_far.deliveries ++ d ∷ [])
        matched_then = omega (arith, so_far.counted, matches-push so_far.deliveries d)

        -- what is saved of it
        abbrev text_then : ℕ → List ℕ
        text_then lines = snapshot_text (numbers_after run.numbered run.environment.report reported_now (matched + matches (d ∷ [])) lines) after.stage

        behind_then : (lines marked : ℕ) → lines ≡ run.numbered.lines + (reader.given + 1) → IsSnapshotBehind run (start_of run before) (so_far.deliveries ++ d ∷ []) (text_then lines)
        behind_then lines marked counted =
            let pushed : length (so_far.deliveries ++ d ∷ []) ≡ length so_far.deliveries + 1 = length-append so_far.deliveries (d ∷ []) in
            snapshot_behind run before.stage after.stage (so_far.deliveries ++ d ∷ []) (record { reported = reported_now; matched = matched + matches (d ∷ []); lines = lines; marks = marked }) rests_then matched_then
            (counted ∙ ap (λ n. run.numbered.lines + (n + 1)) as_many_taken ∙ ap (λ n. run.numbered.lines + n) (sym pushed))

        pub kept_then : (lines marked : ℕ) → lines ≡ run.numbered.lines + (reader.given + 1) → marked ≡ marks so_far.deliveries + marks (d ∷ []) → (saved : Archive) →
            KeepsIf (is_mark d && is_save_due run.choices.every marked) (text_then lines) after.snapshot saved (Ok tt) →
            KeepsOnTheWay run (start_of run before) (up_to_saves run.choices.every (so_far.deliveries ++ d ∷ [])) before.snapshot.kept saved.kept
        kept_then lines marked counted marks_are saved keeps =
            by (is_saved_behind run.choices.every so_far.deliveries d) refl
            (subst (λ n. KeepsIf (is_mark d && is_save_due run.choices.every n) (text_then lines) after.snapshot saved (Ok tt)) (marks_are ∙ sym (marks-push so_far.deliveries d)) keeps)
          where
            by : (b : Bool) → is_saved_behind run.choices.every so_far.deliveries d ≡ b → KeepsIf b (text_then lines) after.snapshot saved (Ok tt) →
                KeepsOnTheWay run (start_of run before) (up_to_saves run.choices.every (so_far.deliveries ++ d ∷ [])) before.snapshot.kept saved.kept
            by true due kept = keeps_next run (start_of run before) so_far.deliveries d (text_then lines) before.snapshot.kept after.snapshot.kept saved.kept due (behind_then lines marked counted) kept.outcome kept_still
            by false none kept =
                keeps_still run (start_of run before) so_far.deliveries d before.snapshot.kept saved.kept none
                (subst (λ (a : Archive). KeepsOnTheWay run (start_of run before) (up_to_saves run.choices.every so_far.deliveries) before.snapshot.kept a.kept) (sym kept.1) kept_still)

        -- if it isn't, the taking stops
        pub saving_stops : (why : Unwritten) (lines marked : ℕ) → marked ≡ marks so_far.deliveries + marks (d ∷ []) → (saved : Archive) → before.snapshot.faults ≤ after.snapshot.faults →
            KeepsIf (is_mark d && is_save_due run.choices.every marked) (text_then lines) after.snapshot saved (Err why) → Stopped (stop_of_unwritten why) run before (record after { snapshot = saved })
        saving_stops why lines marked marks_are saved earlier keeps =
            by (is_saved_behind run.choices.every so_far.deliveries d) refl
            (subst (λ n. KeepsIf (is_mark d && is_save_due run.choices.every n) (text_then lines) after.snapshot saved (Err why)) (marks_are ∙ sym (marks-push so_far.deliveries d)) keeps)
          where
            by : (b : Bool) → is_saved_behind run.choices.every so_far.deliveries d ≡ b → KeepsIf b (text_then lines) after.snapshot saved (Err why) → Stopped (stop_of_unwritten why) run before (record after { snapshot = saved })
            by true due kept = save_stops why run before (record after { snapshot = saved }) after.snapshot earlier kept.outcome.1 (inr (record {
              deliveries = so_far.deliveries ++ d ∷ [];
              played = is_played run.environment (course_after run.environment.routes (so_far.deliveries ++ d ∷ []) (start_of run before)) reported_now (start_of run before) after.stage rests_then.leads rests_then.rests rests_then.mapped;
              saves = up_to_saves run.choices.every so_far.deliveries;
              due = save_due run.choices.every so_far.deliveries d due;
              kept = subst (λ k. KeepsOnTheWay run (start_of run before) (up_to_saves run.choices.every so_far.deliveries) before.snapshot.kept k) (sym kept.outcome.0) kept_still;
              first = first;
            }))
            by false none never = let no : Err why ≡ Ok tt = never.0 in cc

        abbrev pub line_taken : (saved : Archive) → KeepsOnTheWay run (start_of run before) (up_to_saves run.choices.every (so_far.deliveries ++ d ∷ [])) before.snapshot.kept saved.kept → now.input.faults ≤ after.input.faults →
            next.given ≡ reader.given + 1 → (next.ended ≡ true → IsAtEnd after.input.left) → Progress run before (record after { snapshot = saved }) next reported_now (matched + matches (d ∷ []))
        line_taken saved kept later given ended = record {
          deliveries = so_far.deliveries ++ d ∷ [];
          taken = taken_on next after.input.left after.last_read is.reads;
          read = read_more (max_bytes_of run.choices) reader now.input.left so_far.deliveries so_far.max so_far.sound line next after.input.left now.last_read after.last_read is before.input.left d so_far.read given delivers;
          at_rest = rests_then;
          earlier = omega (arith, so_far.earlier, later);
          few = few_more run.environment.report so_far.at_rest.answered rests_then.answered so_far.few;
          counted = matched_then;
          few_matched = omega (arith, so_far.few_matched, given, one_match d);
          max = record { bytes = is.goes.limit ∙ so_far.max.bytes; line = is.goes.longest ∙ so_far.max.line };
          sound = is.goes.sound;
          going = is.goes.going;
          ended = ended;
          kept = kept;
        }
          where
            one : (d : Delivery) → asks (d ∷ []) ≤ 1
            one (Told e) = omega arith
            one (Watermark w) = omega arith
            one (Ask q) = omega arith
            one (Mapping v) = omega arith
            one (Match q) = omega arith

            few_more : (report : Report) → HasAnswered report reported so_far.deliveries (start_of run before) → HasAnswered report reported_now (so_far.deliveries ++ d ∷ []) (start_of run before) → FewAnswers report run.numbered reported reader.given → FewAnswers report run.numbered reported_now next.given
            few_more Answers was is few = omega (arith, was, is, few, given, asks-push so_far.deliveries d, one d)
            few_more Changes was is few = tt

-- the same, counted with the lines and the watermarks
pub record Counted (run : Run) (before now : Moment) (reader : Reading) (taken : LinesTaken) : Type 0 where
  pub progress : Progress run before now reader taken.reported taken.matched
  pub lines_are : taken.lines ≡ run.numbered.lines + reader.given
  pub marks_are : taken.marks ≡ marks progress.deliveries
  pub few_marks : taken.marks ≤ reader.given

-- before the first line
pub counted_nothing : (run : Run) (before : Moment) → IsStanding before.stage.world before.stage.mapped → Counted run before before (fresh (max_bytes_of run.choices) longest_line) (taken_before run.environment.report run.numbered)
unfolding nothing_begun
counted_nothing run before standing_still = record { progress = nothing_begun run before standing_still; lines_are = omega arith; marks_are = refl; few_marks = omega arith }
