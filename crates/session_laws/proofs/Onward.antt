-- What a patch stream wrote behind a snapshot that it kept, beside what the run wrote that went on from there.
use Rattle.std.proofs.Common.{◌≡◌, refl, sym, subst, ◌∙◌, ap, ℕ, suc, ◌+◌, ◌-◌, ◌^◌, ◌<◌, Bool, true, false, length, List, [], ◌∷◌, ◌++◌, append_assoc, filter, flat_map, Option, None, Some, MatchOption}
use Rattle.std.specs.List.{AllByRecursion}
use Rattle.wq_io.specs.{Streams.after_known, Lines.lines}
use Rattle.delivery.specs.declared.Delivery.{Delivery}
use Rattle.replay_model.specs.{Play.Replies, Records.Bytes, Replies.failed_events, Replies.source_replies}
use Rattle.replay_model.specs.ReplayState.{ReplayState, after_end}
use Rattle.replay_parts.specs.Checkpoint.{Checkpoint, advanced, advanced_by}
use Rattle.graph_routes.specs.declared.routes.Route.{Route}
use Rattle.text_output.specs.declared.write.Unwritten.{Unwritten}
use Rattle.replica.specs.{declared.record.PatchRecord.PatchRecord, Laws.HasShortNumbers, Laws.IsReadAs}
use Rattle.replica.specs.Record.{record_lines, record_text}
use Rattle.replica.proofs.{Determined.reads_one_way, LineFeeds.splits_into_lines, ReadLines.reads_records}
use Rattle.patch_stream.specs.Stream.{Step, changes, is_change, numbered_from, steps_due}
use Rattle.snapshot.specs.{File.saved_in_bytes, Whole.Saved}
use Rattle.checkpoint.specs.Saved.{saved_of}
use Rattle.arguments.specs.Options.{closes, max_bytes_of}
use Rattle.run_model.specs.{declared.report.Report.TheVariants.Changes, declared.stop.Stop.Stop}
use Rattle.run_model.specs.Course.{along, course_after, course_ended, led_to, steps_of_delivery, stream_text_from, version_at, version_since}
use Rattle.run_model.specs.Headline.{Ending, IsSnapshotBehind, StandsAtPage, Stopped, course_of, numbers_behind}
use Rattle.run_model.specs.Moment.{Beginning, Moment, Run, behind, numbers_of, saved_at, sections_of, standing, start_of, limit_of}
use Rattle.run_model.specs.{OneRun.deliveries_of, Remapping.Mapped, Report.bytes_of, Resuming.with_loaded}
use Rattle.run_model.specs.{Taking.judgement, Taking.replies_there, Reading.AreDeliveries}
use Rattle.run_model.proofs.{Along.version-along, Reading.at_known}
use Rattle.session_laws.specs.{Complete.steps_made, Killed.AreToldOnward, Killed.WasKilledAndWentOn, Live.steps_behind}
use Rattle.session_laws.specs.Reruns.{NoFetchFails, WritesFirst, WritesPrefix, records_from, replies_at, reported}
use Rattle.session_laws.proofs.Again.{bytes_reported, bytes_told}
use Rattle.session_laws.proofs.Fronts.{IsFront, append_same, front_all, one_text, writes, writes_first}
use Rattle.session_laws.proofs.{GoesOn.loads_same, OneRun.same_state, OneRun.steps_same, Prefixes.along-append, Prefixes.stream_from-append}
use Rattle.session_laws.proofs.{Stopped.stopped_written, Unfailed.none_more, Unfailed.side-along}

-- ---- deliveries in two parts

advanced-append : (replies : Replies) (c : Checkpoint) (xs ys : List Delivery) → advanced_by replies c (xs ++ ys) ≡ advanced_by replies (advanced_by replies c xs) ys
advanced-append replies c [] ys = refl
advanced-append replies c (d ∷ xs) ys = advanced-append replies (advanced replies c d) xs ys

-- the steps of both parts, where another beginning stands between them
module _ (replies : Replies) (start then : Beginning) (a b : List Delivery) (world : then.world ≡ led_to a start replies) (version : then.mapped.version ≡ version_at a start) where
  abbrev between : Checkpoint
  between = advanced_by replies (standing start) a

  version_between : between.version ≡ then.mapped.version
  version_between = version-along replies (standing start) a ∙ sym version

  along_both : along steps_of_delivery replies (standing start) (a ++ b) ≡ along steps_of_delivery replies (standing start) a ++ along steps_of_delivery replies (standing then) b
  along_both =
      along-append steps_of_delivery replies (standing start) a b
      ∙ ap (λ l. along steps_of_delivery replies (standing start) a ++ l) (steps_same replies between (standing then) (sym world) version_between b)

  state_both : led_to (a ++ b) start replies ≡ led_to b then replies
  state_both = ap (λ (c : Checkpoint). c.state) (advanced-append replies (standing start) a b) ∙ same_state replies between (standing then) (sym world) b

  version_both : version_at (a ++ b) start ≡ version_at b then
  version_both =
      sym (version-along replies (standing start) (a ++ b))
      ∙ ap (λ (c : Checkpoint). c.version) (advanced-append replies (standing start) a b)
      ∙ version-along replies between b
      ∙ ap (λ v. version_since v b) version_between

  steps_both : (routes other : Option (List Route)) (closed : Bool) → (course_ended routes closed (a ++ b) start).steps replies ≡ along steps_of_delivery replies (standing start) a ++ (course_ended other closed b then).steps replies
  steps_both routes other false = along_both
  steps_both routes other true =
      (λ i. along_both i ++ steps_due (version_both i) replies (after_end (state_both i)))
      ∙ append_assoc (along steps_of_delivery replies (standing start) a) (along steps_of_delivery replies (standing then) b) (steps_due (version_at b then) replies (after_end (led_to b then replies)))

-- what was written behind a front, and more, is a prefix of what follows the front
behind_front : (old : Option (List ℕ)) (before front rest behind_it more : List ℕ) (until now : Option (List ℕ)) → old ≡ Some before → until ≡ after_known old front → now ≡ after_known until (behind_it ++ more) →
    WritesPrefix (front ++ rest) old now → WritesPrefix rest until (after_known until behind_it)
behind_front old before front rest behind_it more until now told has onward prefix =
    let there : after_known old (front ++ (behind_it ++ more)) ≡ now = by old ∙ ap (λ b. after_known b (behind_it ++ more)) (sym has) ∙ sym onward in
    let same : front ++ (behind_it ++ more) ≡ prefix.written = one_text old before (front ++ (behind_it ++ more)) prefix.written told (there ∙ prefix.bytes) in
    record {
      written = behind_it;
      unwritten = more ++ prefix.unwritten;
      is = append_same front rest (behind_it ++ (more ++ prefix.unwritten)) (prefix.is ∙ ap (λ l. l ++ prefix.unwritten) (sym same) ∙ append_assoc front (behind_it ++ more) prefix.unwritten
          ∙ ap (λ l. front ++ l) (append_assoc behind_it more prefix.unwritten));
      bytes = refl;
    }
  where
    by : (o : Option (List ℕ)) → after_known o (front ++ (behind_it ++ more)) ≡ after_known (after_known o front) (behind_it ++ more)
    by None = refl
    by (Some xs) = ap (λ (l : List ℕ). Some l) (sym (append_assoc xs front (behind_it ++ more)))

-- a run that ended with Ok, or stopped, wrote a prefix of what is reported of all deliveries of its input
written_told : (run : Run) (before now : Moment) (contents : ℕ → Option Bytes) (bytes : List ℕ) (ds : List Delivery) → run.environment.known ≡ Some contents → NoFetchFails before now → before.input.left ≡ Some bytes →
    AreDeliveries (max_bytes_of run.choices) bytes ds → ((why : Unwritten) → StandsAtPage why run before now → ⊥) → (stopped : Option Stop) → MatchOption stopped (Ending run before now) (λ stop. Stopped stop run before now) →
    WritesPrefix (reported run.environment.report run.environment.routes (closes run.choices) (sections_of run.choices) ds (start_of run before) (replies_at contents before)) before.stage.output.bytes now.stage.output.bytes
written_told run before now contents bytes ds known unfailed left are no_page None ending =
    let text : List Delivery → List ℕ = λ l. reported run.environment.report run.environment.routes (closes run.choices) (sections_of run.choices) l (start_of run before) (replies_at contents before) in
    let others : AreDeliveries (max_bytes_of run.choices) bytes ending.replayed.deliveries = at_known before.input.left bytes (λ b. AreDeliveries (max_bytes_of run.choices) b ending.replayed.deliveries) left ending.replayed.are in
    let alike : Some ending.replayed.deliveries ≡ Some ds = sym others.delivered ∙ are.delivered in
    let same : ending.replayed.deliveries ≡ ds = cc in
    writes (text ds) (text ds) before.stage.output.bytes now.stage.output.bytes (front_all (text ds))
    (bytes_told run before now ending unfailed contents known
    ∙ bytes_reported run.environment.report run.environment.routes (closes run.choices) (sections_of run.choices) ending.replayed.deliveries (start_of run before) (replies_at contents before)
    ∙ ap (λ l. after_known before.stage.output.bytes (text l)) same)
written_told run before now contents bytes ds known unfailed left are no_page (Some stop) stopped = stopped_written run before now contents known unfailed bytes left ds are no_page stop stopped

-- ---- the run up to the snapshot

length_numbered : (n : ℕ) (steps : List Step) → length (numbered_from n steps) ≡ length steps
length_numbered n [] = refl
length_numbered n (s ∷ steps) = ap suc (length_numbered (n + 1) steps)

-- records that can be read are told by their text
same_records : (items others : List PatchRecord) → AllByRecursion HasShortNumbers items → AllByRecursion HasShortNumbers others → flat_map record_text items ≡ flat_map record_text others → items ≡ others
same_records items others short short_others same =
    let ls : flat_map record_lines others ≡ flat_map record_lines items = sym (splits_into_lines others short_others) ∙ ap lines (sym same) ∙ splits_into_lines items short in
    (reads_one_way (flat_map record_lines items) items others None None (reads_records items short) (subst (λ l. IsReadAs None l others None) ls (reads_records others short_others))).0

module _ (run : Run) (before : Moment) (taken : List Delivery) (text : List ℕ) (kept : IsSnapshotBehind run (start_of run before) taken text) (contents : ℕ → Option Bytes) (known : run.environment.known ≡ Some contents)
    (unfailed : NoFetchFails before (record before { stage = kept.stage })) where
  abbrev begun : Beginning
  begun = start_of run before

  -- no other failed fetch is named
  named : failed_events kept.stage.world.played.side ≡ failed_events before.stage.world.played.side
  named =
      let Grown : ReplayState → Type 0 = λ w. IsFront before.stage.world.played.side w.played.side in
      none_more before.stage.world.played.side kept.stage.world.played.side before.stage.counts.faults kept.stage.counts.faults
      (subst Grown (sym kept.played.is) (side-along kept.played.replies (standing begun) taken)) kept.played.counted.failed unfailed.same unfailed.below

  replies_until : replies_there contents kept.stage.world ≡ replies_at contents before
  replies_until = ap (source_replies judgement contents) named

  world_until : kept.stage.world ≡ led_to taken begun (replies_at contents before)
  world_until = kept.played.source contents known ∙ ap (led_to taken begun) replies_until

  abbrev first_steps : List Step
  first_steps = along steps_of_delivery (replies_at contents before) (standing begun) taken

  module _ (one : run.environment.report ≡ Changes) where
    says_until : kept.stage.output.bytes ≡ after_known before.stage.output.bytes (stream_text_from run.numbered.patches first_steps)
    says_until =
        kept.played.source_says contents known
        ∙ ap (bytes_of run.environment.report (course_after run.environment.routes taken begun) begun) replies_until
        ∙ ap (λ report. bytes_of report (course_after run.environment.routes taken begun) begun (replies_at contents before)) one

    -- if its records can be read, its head counts those of what is there
    pub head_counts : (old : List ℕ) → before.stage.output.bytes ≡ Some old → AllByRecursion HasShortNumbers (records_from run.numbered.patches (steps_behind kept)) → AllByRecursion HasShortNumbers (records_from run.numbered.patches first_steps) →
        (numbers_behind kept).patches ≡ run.numbered.patches + changes first_steps
    head_counts old told short short_there =
        let told_steps : List Step = steps_behind kept in
        let played_says : kept.stage.output.bytes ≡ after_known before.stage.output.bytes (stream_text_from run.numbered.patches told_steps) =
        kept.played.says ∙ ap (λ report. bytes_of report (course_after run.environment.routes taken begun) begun kept.played.replies) one in
        let texts : stream_text_from run.numbered.patches told_steps ≡ stream_text_from run.numbered.patches first_steps =
        one_text before.stage.output.bytes old (stream_text_from run.numbered.patches told_steps) (stream_text_from run.numbered.patches first_steps) told (sym played_says ∙ says_until) in
        let records : records_from run.numbered.patches told_steps ≡ records_from run.numbered.patches first_steps =
        same_records (records_from run.numbered.patches told_steps) (records_from run.numbered.patches first_steps) short short_there texts in
        let alike : changes told_steps ≡ changes first_steps =
        sym (length_numbered (run.numbered.patches + 1) (filter is_change told_steps)) ∙ ap length records ∙ length_numbered (run.numbered.patches + 1) (filter is_change first_steps) in
        ap (λ report. (numbers_of report (course_after run.environment.routes taken begun).steps taken begun kept.played.replies).patches) one
        ∙ ap (λ n. run.numbered.patches + n) alike

-- ---- both runs

module _ (run later : Run) (before now again done : Moment) (runs : WasKilledAndWentOn run later (start_of run before) again done) (read : saved_in_bytes runs.text ≡ Some (saved_at runs.kept.stage (numbers_behind runs.kept)))
    (contents : ℕ → Option Bytes) (bytes : List ℕ) (told : AreToldOnward contents bytes before now again done runs) (one : run.environment.report ≡ Changes) (two : later.environment.report ≡ Changes) where
  abbrev start : Beginning
  start = start_of run before

  abbrev second : Run
  second = behind runs.resumed.numbers later

  abbrev loaded : Moment
  loaded = with_loaded again runs.resumed.rest runs.resumed.world

  abbrev outcome : Ending second loaded done
  outcome = runs.resumed.ending.outcome

  abbrev rest : List Delivery
  rest = deliveries_of outcome

  abbrev replies : Replies
  replies = replies_at contents before

  same : saved_of runs.resumed.world runs.resumed.numbers ≡ saved_at runs.kept.stage (numbers_behind runs.kept)
  same = loads_same (limit_of later.choices) again.resumed.left runs.resumed.world runs.resumed.numbers runs.kept.stage (numbers_behind runs.kept) runs.text runs.resumed.loaded runs.same read

  world_same : loaded.stage.world ≡ runs.kept.stage.world
  world_same = ap (λ (s : Saved). s.state) same

  none_until : NoFetchFails before (record before { stage = runs.kept.stage })
  none_until = record {
    same = told.unfailed_until;
    below = subst (λ n. length (failed_events before.stage.world.played.side) + n < 2 ^ 64 - 1) (told.unfailed.same ∙ sym told.unfailed_until) told.unfailed.below;
  }

  replies_later : replies_at contents loaded ≡ replies
  replies_later = ap (λ (w : ReplayState). source_replies judgement contents (failed_events w.played.side)) world_same ∙ replies_until run before runs.taken runs.text runs.kept contents told.known none_until

  version_until : (start_of second loaded).mapped.version ≡ version_at runs.taken start
  version_until = ap (λ (s : Saved). s.version) same ∙ ap (λ (m : Mapped). m.version) runs.kept.played.mapped

  abbrev first_text : List ℕ
  first_text = stream_text_from run.numbered.patches (along steps_of_delivery replies (standing start) runs.taken)

  abbrev rest_steps : Bool → List Step
  rest_steps closed = (course_ended later.environment.routes closed rest (start_of second loaded)).steps replies

  -- what the run writes that isn't killed
  text_is : reported Changes run.environment.routes (closes run.choices) (sections_of run.choices) (runs.taken ++ rest) start replies
      ≡ first_text ++ stream_text_from (numbers_behind runs.kept).patches (rest_steps (closes later.choices))
  text_is =
      ap (stream_text_from run.numbered.patches)
      (steps_both replies start (start_of second loaded) runs.taken rest (world_same ∙ world_until run before runs.taken runs.text runs.kept contents told.known none_until) version_until run.environment.routes later.environment.routes (closes run.choices))
      ∙ stream_from-append run.numbered.patches (along steps_of_delivery replies (standing start) runs.taken) (rest_steps (closes run.choices))
      ∙ (λ i. first_text ++ stream_text_from (sym told.counted i) (rest_steps (sym told.end_alike i)))

  -- what the later run writes
  later_is : again.stage.output.bytes ≡ Some [] → stream_text_from (numbers_behind runs.kept).patches (rest_steps (closes later.choices)) ≡ stream_text_from (numbers_behind runs.kept).patches (steps_made second loaded done outcome)
  later_is empty =
      let made : List Step = steps_made second loaded done outcome in
      let Text : Replies → List ℕ = λ r. stream_text_from second.numbered.patches ((course_ended later.environment.routes (closes later.choices) rest (start_of second loaded)).steps r) in
      let by_source : done.stage.output.bytes ≡ after_known again.stage.output.bytes (Text replies) =
      bytes_told second loaded done outcome told.unfailed_later contents told.known_later
      ∙ bytes_reported later.environment.report later.environment.routes (closes later.choices) (sections_of later.choices) rest (start_of second loaded) (replies_at contents loaded)
      ∙ ap (λ report. after_known again.stage.output.bytes (reported report later.environment.routes (closes later.choices) (sections_of later.choices) rest (start_of second loaded) (replies_at contents loaded))) two
      ∙ ap (λ r. after_known again.stage.output.bytes (Text r)) replies_later in
      let by_play : done.stage.output.bytes ≡ after_known again.stage.output.bytes (stream_text_from second.numbered.patches made) =
      outcome.replayed.replay.played.says ∙ ap (λ report. bytes_of report (course_of second rest (start_of second loaded)) (start_of second loaded) outcome.replayed.replay.played.replies) two in
      let texts : Text replies ≡ stream_text_from second.numbered.patches made = one_text again.stage.output.bytes [] (Text replies) (stream_text_from second.numbered.patches made) empty (sym by_source ∙ by_play) in
      subst (λ n. stream_text_from n (rest_steps (closes later.choices)) ≡ stream_text_from n made) (ap (λ (s : Saved). s.counts.patches) same) texts

  pub written_again : (stopped : Option Stop) → MatchOption stopped (Ending run before now) (λ stop. Stopped stop run before now) → ((why : Unwritten) → StandsAtPage why run before now → ⊥) →
      (old behind_it more : List ℕ) → before.stage.output.bytes ≡ Some old → again.stage.output.bytes ≡ Some [] → now.stage.output.bytes ≡ after_known runs.kept.stage.output.bytes (behind_it ++ more) →
      WritesFirst (records_from (numbers_behind runs.kept).patches (steps_made second loaded done outcome)) runs.kept.stage.output.bytes (after_known runs.kept.stage.output.bytes behind_it)
  written_again stopped outcome_of no_page old behind_it more there empty onward =
      let all = written_told run before now contents bytes (runs.taken ++ rest) told.known told.unfailed told.left told.are no_page stopped outcome_of in
      let changes_written = subst (λ report. WritesPrefix (reported report run.environment.routes (closes run.choices) (sections_of run.choices) (runs.taken ++ rest) start replies) before.stage.output.bytes now.stage.output.bytes) one all in
      let behind_snapshot = behind_front before.stage.output.bytes old first_text _ behind_it more runs.kept.stage.output.bytes now.stage.output.bytes there (says_until run before runs.taken runs.text runs.kept contents told.known none_until one) onward
      (subst (λ t. WritesPrefix t before.stage.output.bytes now.stage.output.bytes) text_is changes_written) in
      writes_first (records_from (numbers_behind runs.kept).patches (steps_made second loaded done outcome)) runs.kept.stage.output.bytes (after_known runs.kept.stage.output.bytes behind_it)
      (subst (λ t. WritesPrefix t runs.kept.stage.output.bytes (after_known runs.kept.stage.output.bytes behind_it)) (later_is empty) behind_snapshot)
