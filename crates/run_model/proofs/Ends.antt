-- What a world at rest and at the end shows.
use Rattle.std.proofs.Common.{refl, sym, subst, ◌∙◌, ap, inl, inr, ◌≡◌, ℕ, ◌+◌, ◌-◌, ◌^◌, ◌<◌, ◌≤◌, length, arith, Bool, true, false, not, List, [], ◌∷◌, ◌++◌, append-nil, Option, None, Some, IfSome, Result, Err}
use Rattle.sorted_sets.specs.Rising.{Each}
use Rattle.wq_io.specs.Streams.{IsAtEnd, Rose}
use Rattle.entity_model.specs.{declared.event.Event.Event, declared.mapping.MappingVersion.MappingVersion}
use Rattle.entity_state.specs.State.{is_kept}
use Rattle.delivery.specs.declared.Delivery.{Delivery}
use Rattle.reorder_buffer.specs.Buffered.{first_due}
use Rattle.replay_model.specs.{Acceptance.due, Acceptance.known, Acceptance.late, Entries.has_open_revision, Entries.late_events}
use Rattle.replay_model.specs.Fate.{events_of, fate, in_order}
use Rattle.replay_model.specs.Records.{Bytes, Records, is_settled, record_of}
use Rattle.replay_model.specs.Play.{Played, Replies, played}
use Rattle.replay_model.specs.{Replies.HoldsWhatIsThere, Replies.TellsWhatIsThere, Replies.failed_events, ReplayState.ReplayState}
use Rattle.replay_model.specs.{Transcript.Sections, Transcript.asks, Transcript.matches, Versions.meaning_by}
use Rattle.replay_model.proofs.Explaining.{Explained-fetches, Explained-is, Explained-source, Explained-source_fetches}
use Rattle.replay_model.proofs.{RecordOf.state-played, Known.fate-known, LateEntries.late-played}
use Rattle.replay_model.proofs.{Settled.Tells-played, Settled.settled-played, ToldContents.entries-told, ToldContents.held-told}
use Rattle.fetched_pages.specs.Meaning.{meaning}
use Rattle.text_output.specs.declared.write.Unwritten.{Unwritten}
use Rattle.text_output.specs.declared.write.Unwritten.TheVariants.{WriteFault as NotWritten, OutOfMemory as UnwrittenOutOfMemory}
use Rattle.text_output.specs.Printing.{Output, Prints}
use Rattle.checkpoint.specs.Archive.{Archive}
use Rattle.patch_stream.specs.Stream.{Step, changes, has_change, steps_due}
use Rattle.world.specs.Limit.{Limit}
use Rattle.run_model.specs.Moment.{RoseBy, HasCounted, Beginning, IsFirst, Moment, Run, Environment, Stage, horizon_at, start_of, with_output, sections_of, numbers_after, numbers_of, reported_as, up_to_saves}
use Rattle.run_model.specs.Course.{Course, course_after, course_ended, course_to_end, version_at, closing_by, closing_held}
use Rattle.run_model.specs.Headline.{BrokenOff, HasFates, HasReplayed, HoldsRightly, IsInterrupted, IsUnsaved, KeepsOnTheWay, IsPlayed, IsReplayed, NamesRightly, StandsAtMapping, StandsAtPage, Stopped, IsHalted}
use Rattle.run_model.specs.{Reading.AreDeliveries, Remapping.IsLeftStale, Remapping.Mapped, Remapping.mapped_by, Report.HasReported}
use Rattle.run_model.specs.{Stop.stop_of_halt, Stop.stop_of_unapplied, Stop.stop_of_unwritten, declared.report.Report.Report, declared.report.Reported.Reported}
use Rattle.run_model.specs.declared.lines_taken.LinesTaken.{LinesTaken}
use Rattle.run_model.specs.{declared.report.Report.TheVariants.Answers, declared.report.Report.TheVariants.Changes, declared.stop.Halt.Halt}
use Rattle.run_model.specs.declared.stop.Halt.TheVariants.{Unapplied as NotApplied, Unprinted}
use Rattle.run_model.specs.Taking.{HoldsDocuments, judgement, replies_there}
use Rattle.run_model.specs.Delivering.{HasTakenAll, HasTaken, HasAnswered, AtEnd, IsHeldUp, IsLeft, Leads}
use Rattle.snapshot.specs.declared.counts.Counts.{Counts}
use Rattle.graph_routes.specs.declared.routes.Route.{Route}
use Rattle.term_pool.specs.declared.fault.PoolFault.{PoolFault as StoreFault}
use Rattle.term_pool.specs.declared.fault.PoolFault.TheVariants.{Full as NoRoom, OutOfMemory as PoolOutOfMemory}
use Rattle.arguments.specs.Options.{closes, max_bytes_of}
use Rattle.run_model.proofs.{FromNothing.ended_first, FromNothing.led_first, Needed.all_met, Needed.due-none}
use Rattle.run_model.proofs.{Reports.all_reported, Reports.steps-none, Answers.closing_held_by}

-- where no event is due, the steps so far are all
whole_steps : (course : Course) (now : Stage) (replies : Replies) (steps : List Step) → first_due now.world.buffer ≡ None → steps ++ steps_due course.version replies now.world ≡ course.steps replies → steps ≡ course.steps replies
whole_steps course now replies steps none are = sym (append-nil steps) ∙ ap (λ l. steps ++ l) (sym (steps-none course.version replies now.world none)) ∙ are

-- so it is known of all steps whether one changed what is stored
pub changed_by : (report : Report) (course : Course) (reported : Reported) (start : Beginning) (now : Stage) (replies : Replies) → first_due now.world.buffer ≡ None → report ≡ Answers → HasReported report course reported start now replies →
    reported.changed ≡ has_change (course.steps replies)
changed_by Answers course reported start now replies none answers says = says.changed ∙ ap has_change (whole_steps course now replies says.steps none says.are)
changed_by Changes course reported start now replies none answers says = cc

-- where no event is due, a world that leads to a play is played
abbrev pub is_played : (environment : Environment) (course : Course) (reported : Reported) (start : Beginning) (now : Stage) → Leads environment course reported start now → first_due now.world.buffer ≡ None → now.mapped ≡ mapped_by course.version now.world.played.records →
    IsPlayed environment course start now
is_played environment course reported start now x rests mapped = record {
  replies = x.explained.replies;
  fit = x.explained.fit;
  is = Explained-is judgement environment.known course.state course.fetched x.made now.world x.explained rests;
  says = all_reported environment.report course reported start now x.explained.replies rests (x.says x.explained.replies (λ q r h. refl));
  roomed = all_met environment.limit _ _ (due-none course.version x.explained.replies now.world rests) (x.roomed x.explained.replies (λ q r h. refl));
  handed = x.handed;
  documents = x.documents;
  applied = x.explained.failed_applied;
  mapped = mapped;
  counted = subst (λ (n : ℕ). HasCounted start.counts now.counts start.world.played.side n now.world.played.side) (Explained-fetches judgement environment.known course.state course.fetched x.made now.world x.explained rests) x.counted;
  source = Explained-source judgement environment.known course.state course.fetched x.made now.world x.explained rests;
  source_says = λ contents is.
      all_reported environment.report course reported start now (replies_there contents now.world) rests (x.says (replies_there contents now.world) (λ q r h. sym (x.explained.honest contents is q r)));
  source_roomed = λ contents is.
      all_met environment.limit _ _ (due-none course.version (replies_there contents now.world) now.world rests) (x.roomed (replies_there contents now.world) (λ q r h. sym (x.explained.honest contents is q r)));
  source_changes = λ contents is answers.
      sym (changed_by environment.report course reported start now (replies_there contents now.world) rests answers (x.says (replies_there contents now.world) (λ q r h. sym (x.explained.honest contents is q r))))
      ∙ changed_by environment.report course reported start now x.explained.replies rests answers (x.says x.explained.replies (λ q r h. refl));
  source_counted = λ contents is.
      subst (λ (n : ℕ). HasCounted start.counts now.counts start.world.played.side n now.world.played.side) (Explained-source_fetches judgement environment.known course.state course.fetched x.made now.world x.explained rests contents is) x.counted;
}

pub fates : (closed : Bool) (hz : Option ℕ) (ds : List Delivery) (world : ReplayState) (replies : Replies) → played hz closed replies ds ≡ world.played → HasFates closed hz ds world
fates closed hz ds world replies whole = record {
  of_due = λ x. let P : Played → Type 0 = λ p. (record_of p.records x).state ≡ fate (in_order (events_of x (due hz closed ds))) in subst P whole (state-played hz closed replies ds x);
  of_known = λ x none.
      let P : Played → Type 0 = λ p. (record_of p.records x).state ≡ fate (in_order (events_of x (known closed ds))) in
      subst P whole (state-played hz closed replies ds x ∙ fate-known hz closed ds x none);
}

module _ (environment : Environment) (closed : Bool) (hz : Option ℕ) (ds : List Delivery) (world : ReplayState) (replies : Replies) (whole : played hz closed replies ds ≡ world.played)
    (source : (contents : ℕ → Option Bytes) → environment.known ≡ Some contents → played hz closed (replies_there contents world) ds ≡ world.played) where
  holds : HoldsDocuments world → HoldsRightly environment world
  holds documents = record {
    settled = λ x. let P : Played → Type 0 = λ p. is_settled (record_of p.records x) ≡ not (has_open_revision p.records p.side x) in subst P whole (settled-played hz closed replies ds x);
    documents = documents;
    empty = λ x.
        let P : Played → Type 0 = λ p. is_kept (record_of p.records x).state.mode ≡ false → (record_of p.records x).held ≡ None in
        subst P whole (Tells-played hz closed replies ds x).empty_unless_kept;
    there = λ contents is x.
        let P : Played → Type 0 = λ p. HoldsWhatIsThere judgement contents x (record_of p.records x).held in
        subst P (source contents is) (held-told judgement contents (failed_events world.played.side) hz closed ds x);
  }

  names : NamesRightly environment hz ds world
  names = record {
    late_ones = let P : Played → Type 0 = λ p. late_events p.side ≡ late hz ds in subst P whole (late-played hz closed replies ds);
    there = λ contents is.
        let P : Played → Type 0 = λ p. Each (TellsWhatIsThere judgement contents (failed_events world.played.side)) p.side in
        subst P (source contents is) (entries-told judgement contents (failed_events world.played.side) hz closed ds);
  }

-- where a play of deliveries leads, the world has the states, holds and names what it should
abbrev is_replayed : (environment : Environment) (course : Course) (ds : List Delivery) (start : Beginning) (now : Stage) →
    (IsFirst start → (replies : Replies) → played (horizon_at start) course.closed replies ds ≡ (course.state replies).played) →
    IsPlayed environment course start now → IsReplayed environment course ds start now
is_replayed environment course ds start now leads play = record {
  played = play;
  fates = λ first. fates course.closed (horizon_at start) ds now.world play.replies (whole first);
  holds = λ first. holds environment course.closed (horizon_at start) ds now.world play.replies (whole first) (source first) play.documents;
  names = λ first. names environment course.closed (horizon_at start) ds now.world play.replies (whole first) (source first);
}
  where
    whole : IsFirst start → played (horizon_at start) course.closed play.replies ds ≡ now.world.played
    whole first = leads first play.replies ∙ ap (λ (w : ReplayState). w.played) (sym play.is)

    source : IsFirst start → (contents : ℕ → Option Bytes) → environment.known ≡ Some contents → played (horizon_at start) course.closed (replies_there contents now.world) ds ≡ now.world.played
    source first contents is = leads first (replies_there contents now.world) ∙ ap (λ (w : ReplayState). w.played) (sym (play.source contents is))

-- where the input ends the deliveries, and they were taken with the end, they were replayed
pub replayed : (run : Run) (before now : Moment) (ds : List Delivery) (reported : Reported) → KeepsOnTheWay run (start_of run before) (up_to_saves run.choices.every ds) before.snapshot.kept now.snapshot.kept → closes run.choices ≡ true → IsAtEnd now.input.left → IfSome before.input.left (λ bytes. AreDeliveries (max_bytes_of run.choices) bytes ds) →
    AtEnd run.environment ds reported (start_of run before) now.stage → (numbers : Counts) → HasTakenAll run numbers before now
replayed run before now ds reported kept closed read are at_end numbers =
    let Replay : Bool → Type 0 = λ b. IsReplayed run.environment (course_ended run.environment.routes b ds (start_of run before)) ds (start_of run before) now.stage in
    record {
      replayed = record {
        deliveries = ds;
        read = read;
        are = are;
        replay = subst Replay (sym closed) (is_replayed run.environment (course_to_end run.environment.routes ds (start_of run before)) ds (start_of run before) now.stage (λ first replies. ap (λ (w : ReplayState). w.played) (sym (ended_first (start_of run before) first replies ds)))
            (is_played run.environment (course_to_end run.environment.routes ds (start_of run before)) reported (start_of run before) now.stage at_end.leads at_end.rests at_end.mapped));
      };
      kept = kept;
      counted = λ open_still. let never : true ≡ false = sym closed ∙ open_still in cc;
    }

-- what the counts are of a play where no event is due
pub numbers_are : (report : Report) (course : Course) (ds : List Delivery) (reported : Reported) (matched lines : ℕ) (start : Beginning) (now : Stage) (replies : Replies) → first_due now.world.buffer ≡ None → HasAnswered report reported ds start →
    HasReported report course reported start now replies → matched ≡ start.numbered.matches + matches ds → lines ≡ start.numbered.lines + length ds →
    numbers_after start.numbered report reported matched lines ≡ numbers_of report course.steps ds start replies
numbers_are Answers course ds reported matched lines start now replies none answered says matches_are lines_are =
    ap (λ n. numbers_after start.numbered Answers (reported_as n reported.changed) matched lines) answered
    ∙ ap (λ b. numbers_after start.numbered Answers (reported_as (start.numbered.asks + asks ds) b) matched lines) changed_are
    ∙ ap (λ m. numbers_after start.numbered Answers said m lines) matches_are
    ∙ ap (numbers_after start.numbered Answers said (start.numbered.matches + matches ds)) lines_are
  where
    said : Reported
    said = reported_as (start.numbered.asks + asks ds) (has_change (course.steps replies))

    changed_are : reported.changed ≡ has_change (course.steps replies)
    changed_are = changed_by Answers course reported start now replies none refl says
numbers_are Changes course ds reported matched lines start now replies none answered says matches_are lines_are =
    ap (λ n. numbers_after start.numbered Changes (reported_as n false) matched lines) told_are ∙ ap (numbers_after start.numbered Changes (reported_as (start.numbered.patches + changes (course.steps replies)) false) matched) lines_are
  where
    told_are : reported.number ≡ start.numbered.patches + changes (course.steps replies)
    told_are = says.counted ∙ ap (λ l. start.numbered.patches + changes l) (whole_steps course now replies says.steps none says.are)

-- the deliveries were taken, and there may be more
record Paused (run : Run) (closed : Bool) (numbers : Counts) (ds : List Delivery) (before now : Moment) : Type 0 where
  replay : IsReplayed run.environment (course_ended run.environment.routes closed ds (start_of run before)) ds (start_of run before) now.stage
  counted : numbers ≡ numbers_of run.environment.report (course_ended run.environment.routes closed ds (start_of run before)).steps ds (start_of run before) replay.played.replies

pub paused : (run : Run) (before now : Moment) (taken : LinesTaken) → closes run.choices ≡ false → HasTaken run taken before now → HasTakenAll run (numbers_after run.numbered run.environment.report taken.reported taken.matched taken.lines) before now
paused run before now taken open_still all =
    let numbers : Counts = numbers_after run.numbered run.environment.report taken.reported taken.matched taken.lines in
    let ds : List Delivery = all.deliveries in
    let course : Course = course_after run.environment.routes ds (start_of run before) in
    let here : Paused run false numbers ds before now = record {
      replay = is_replayed run.environment course ds (start_of run before) now.stage (λ first replies. ap (λ (w : ReplayState). w.played) (sym (led_first (start_of run before) first replies ds)))
          (is_played run.environment course taken.reported (start_of run before) now.stage all.at_rest.leads all.at_rest.rests all.at_rest.mapped);
      counted = numbers_are run.environment.report course ds taken.reported taken.matched taken.lines (start_of run before) now.stage all.at_rest.leads.explained.replies all.at_rest.rests all.at_rest.answered
          (all.at_rest.leads.says all.at_rest.leads.explained.replies (λ q r h. refl)) all.matched_are all.lines_are;
    } in
    let there = subst (λ b. Paused run b numbers ds before now) (sym open_still) here in
    record {
      replayed = record { deliveries = ds; read = all.read; are = all.are; replay = there.replay };
      kept = all.kept;
      counted = λ same. there.counted;
    }

-- no fetch failed if none was named before and the counter of faults stayed the same and isn't saturated
pub none_failed : (failed : List Event) (named before now : ℕ) → RoseBy (length failed) before (named + now) → named ≡ 0 → now ≡ before → now < 2 ^ 64 - 1 → failed ≡ []
none_failed [] named before now rose none same below = refl
none_failed (e ∷ es) named before now rose none same below =
    let there : named + now < 2 ^ 64 - 1 = omega arith in
    absurd (omega (arith, rose there))

-- where nothing was delivered before, none was named
pub none_named_first : (start : Beginning) → IsFirst start → length (failed_events start.world.played.side) ≡ 0
none_named_first start first = ap (λ (w : ReplayState). length (failed_events w.played.side)) first.world

-- what is printed at the end was printed, by the version of the mapping that is in force
pub prints_asked : (routes : Option (List Route)) (version : MappingVersion) (sections : Sections) (mapped : Mapped) (p : Played) (old new : Output) (result : Result (Unit {0}) Unwritten) → mapped ≡ mapped_by version p.records →
    Prints (closing_held routes (meaning_by meaning mapped.by_two) sections p) old new result → Prints (closing_by routes version sections p) old new result
prints_asked routes version sections mapped p old new result by prints = subst (λ text. Prints text old new result) (closing_held_by routes version sections mapped p by) prints

-- a count that rose since a later time rose since an earlier one
pub rose_since : (before between after : ℕ) → before ≤ between → Rose between after → Rose before after
rose_since before between after earlier rose = omega arith

-- not all of the answers, the sections or the records was written
pub interrupted : (why : Unwritten) (run : Run) (before now : Moment) (between : Output) → before.stage.output.faults ≤ between.faults → (why ≡ NotWritten → Rose between.faults now.stage.output.faults) → IsInterrupted why run before now →
    Stopped (stop_of_unwritten why) run before now
interrupted NotWritten run before now between earlier rose stands = inl (rose_since before.stage.output.faults between.faults now.stage.output.faults earlier (rose refl), stands)
interrupted UnwrittenOutOfMemory run before now between earlier rose stands = inl (inr stands)

-- a run stopped while it saved the world
pub save_stops : (why : Unwritten) (run : Run) (before now : Moment) (between : Archive) → before.snapshot.faults ≤ between.faults → (why ≡ NotWritten → Rose between.faults now.snapshot.faults) → IsUnsaved run before now → Stopped (stop_of_unwritten why) run before now
save_stops NotWritten run before now between earlier rose stands = inr (rose_since before.snapshot.faults between.faults now.snapshot.faults earlier (rose refl), stands)
save_stops UnwrittenOutOfMemory run before now between earlier rose stands = inr stands

-- not all that was due was applied, or told
pub halted : (halt : Halt) (run : Run) (before now : Moment) (between : Output) → before.stage.output.faults ≤ between.faults → IsHeldUp halt run.environment between now.stage → IsHalted halt run before now → Stopped (stop_of_halt halt) run before now
halted (NotApplied NoRoom) run before now between earlier full stands = inl (full, stands)
halted (NotApplied PoolOutOfMemory) run before now between earlier held_up stands = inl (inl (inl stands))
halted (Unprinted NotWritten) run before now between earlier rose stands = inl (rose_since before.stage.output.faults between.faults now.stage.output.faults earlier rose, inr (inl stands))
halted (Unprinted UnwrittenOutOfMemory) run before now between earlier rose stands = inl (inr (inr (inl stands)))

-- not all that is held was remapped
pub left_stale : (why : StoreFault) (run : Run) (before now : Moment) → IsLeftStale why run.environment.limit now.stage.world.played.records now.stage.mapped → StandsAtMapping run before now → Stopped (stop_of_unapplied why) run before now
left_stale NoRoom run before now full stands = inr (full, stands)
left_stale PoolOutOfMemory run before now stale stands = inl (inl (inr stands))

-- a page was remapped, and not told wholly
pub page_unprinted : (why : Unwritten) (run : Run) (before now : Moment) (limit : Limit) (records : Records) (between : Output) → before.stage.output.faults ≤ between.faults →
    IsLeft (Unprinted why) limit records now.stage.mapped between now.stage.output → StandsAtPage why run before now → Stopped (stop_of_unwritten why) run before now
page_unprinted NotWritten run before now limit records between earlier rose stands = inl (rose_since before.stage.output.faults between.faults now.stage.output.faults earlier rose, inr (inr stands))
page_unprinted UnwrittenOutOfMemory run before now limit records between earlier rose stands = inl (inr (inr (inr stands)))

-- the sections weren't all written
pub broken_off : (why : Unwritten) (run : Run) (before now : Moment) (out : Output) → run.environment.report ≡ Answers → (replayed : HasReplayed run before now) →
    KeepsOnTheWay run (start_of run before) (up_to_saves run.choices.every replayed.deliveries) before.snapshot.kept now.snapshot.kept → before.stage.output.faults ≤ now.stage.output.faults →
    Prints (closing_by run.environment.routes (version_at replayed.deliveries (start_of run before)) (sections_of run.choices) now.stage.world.played) now.stage.output out (Err why) → Stopped (stop_of_unwritten why) run before (record now { stage = with_output now.stage out })
broken_off why run before now out answers replayed kept earlier prints =
    let broken : BrokenOff why run before (record now { stage = with_output now.stage out }) = record { answers = answers; between = now.stage.output; replayed = replayed; cut_short = prints.outcome; kept = kept } in
    interrupted why run before (record now { stage = with_output now.stage out }) now.stage.output earlier (λ fault. (prints.outcome.failed fault).1) (inl (inr broken))
