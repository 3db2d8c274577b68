-- Where nothing goes wrong: which statuses there are, and what the world is.
use Rattle.std.proofs.Common.{◌≡◌, ◌⊎◌, refl, sym, subst, ◌∙◌, ap, inl, inr, ⊎_elim, ℕ, zero, suc, ◌+◌, ◌<◌, ◌≤◌, Bool, true, false, cond, not, List, [], ◌∷◌, ◌++◌, length, take, filter, Option, None, Some, IfSome, IsSome, Result, Ok, Err, arith}
use Rattle.std.proofs.lemmas.Bool.{le-leb, lt-leb}
use Rattle.std.specs.{List.flat_map, Option.unwrap_or}
use Rattle.std.specs.FinMap as map
use Rattle.sorted_sets.specs.Rising.{Each, has, sorted}
use Rattle.wq_io.specs.{Streams.Rose, Lines.IsLineLong, Lines.IsOneLine, Lines.lines, Lines.longest_line, Lines.onto_first_line}
use Rattle.wq_io.proofs.LineLists.{one_line-cons}
use Rattle.rdf_term.specs.Order.{triple_cmp}
use Rattle.delivery.specs.declared.Delivery.{Delivery}
use Rattle.entity_model.specs.{declared.event.Event.Event, declared.id.EntityId.EntityId, declared.mapping.MappingVersion.MappingVersion}
use Rattle.entity_model.specs.Event.{event_cmp}
use Rattle.entity_state.specs.{State.is_kept, Record.blank}
use Rattle.event_line.specs.{declared.faults.LineCause.LineCause, declared.faults.LineCause.TheVariants.LineLong, Line.delivery_of}
use Rattle.replay_model.specs.{Acceptance.accepted, Acceptance.late, Entries.has_open_revision, Play.Played, Play.played}
use Rattle.replay_model.specs.Records.{Bytes, Records, is_settled, record_of}
use Rattle.replay_model.specs.{Replies.TellsWhatIsThere, Replies.failed_events, Replies.source_replies, ReplayState.ReplayState}
use Rattle.replay_model.specs.Union.{triples_held}
use Rattle.fetched_pages.specs.Meaning.{meaning}
use Rattle.world.proofs.Entries.{over_ids}
use Rattle.arguments.specs.Options.{closes, max_bytes_of}
use Rattle.run_model.specs.declared.status.Status.{Status}
use Rattle.run_model.specs.declared.status.Status.TheVariants.{Ok as Ended, BadWords, BadLine, ReadFault, WriteFault, TooLong, StoreFull, OutOfMemory, BadSnapshot}
use Rattle.run_model.specs.Headline.{Ending, Stopped}
use Rattle.run_model.specs.Moment.{IsFirst, Moment, Run, horizon_at, start_of, up_to_marks, up_to_saves}
use Rattle.run_model.specs.Course.{version_at}
use Rattle.run_model.specs.Reading.{AreDeliveries, IsPastLimit, IsRefusedLine, deliveries_of, line_delivers, onto_deliveries}
use Rattle.run_model.specs.{Remapping.held_triples, Stop.stop_of, declared.stop.Stop.TheVariants.StoreFull as RoomPassed}
use Rattle.run_model.specs.Taking.{judgement, replies_there}
use Rattle.session_laws.specs.Complete.{IsSaving, FindsDocument, IsStill, has_document, triples_in}
use Rattle.run_model.proofs.{Ends.none_failed, Ends.none_named_first, FromNothing.state_played, Reading.at_known, Versions.all_held_by}
use Rattle.session_laws.proofs.{Finding.none_named, Opening.any_opened, Opening.settled_triples}

-- ---- the statuses

-- a count that stands still didn't rise
pub not_risen : {G : Type 0} (before now : ℕ) → IsStill before now → Rose before now → G
not_risen before now still rose = absurd (omega (arith, still.same, still.below, rose))

onto_none : (r : Result Delivery LineCause) (o : Option (List Delivery)) → o ≡ None → onto_deliveries r o ≡ None
onto_none (Ok d) o none = ap (onto_deliveries (Ok d)) none
onto_none (Err cause) o none = refl

-- lines of which one is refused aren't deliveries
refused_among : (before : List (List ℕ)) (line : List ℕ) (others : List (List ℕ)) (cause : LineCause) → line_delivers line ≡ Err cause → deliveries_of (before ++ line ∷ others) ≡ None
refused_among [] line others cause is = ap (λ r. onto_deliveries r (deliveries_of others)) is
refused_among (l ∷ ls) line others cause is = onto_none (line_delivers l) (deliveries_of (ls ++ line ∷ others)) (refused_among ls line others cause is)

-- a first line that goes on for so many bytes
record BeginsWith (n : ℕ) (ls : List (List ℕ)) : Type 0 where
  first : List ℕ
  others : List (List ℕ)
  is : ls ≡ first ∷ others
  more : n ≤ length first

begins-cons : (b n : ℕ) (ls : List (List ℕ)) → BeginsWith n ls → BeginsWith (suc n) (onto_first_line b ls)
begins-cons b n ls begins = record {
  first = b ∷ begins.first;
  others = begins.others;
  is = ap (onto_first_line b) begins.is;
  more = omega (arith, begins.more);
}

begins-first : (b : ℕ) (ls : List (List ℕ)) → BeginsWith 1 (onto_first_line b ls)
begins-first b [] = record { first = b ∷ []; others = []; is = refl; more = omega arith }
begins-first b (l ∷ ls) = record { first = b ∷ l; others = ls; is = refl; more = omega arith }

begins : (n : ℕ) (bytes : List ℕ) → IsOneLine (take (suc n) bytes) → suc n ≤ length bytes → BeginsWith (suc n) (lines bytes)
begins n [] one more = absurd (omega arith)
begins zero (b ∷ bs) one more =
    let parts = one_line-cons b [] one in
    rw parts.0 (begins-first b (lines bs))
begins (suc n) (b ∷ bs) one more =
    let parts = one_line-cons b (take (suc n) bs) one in
    rw parts.0 (begins-cons b (suc n) (lines bs) (begins n bs parts.1 (omega (arith, more))))

-- an over-long line is refused
over_long_among : (before : List (List ℕ)) (bytes : List ℕ) (room : ℕ) → IsLineLong room longest_line bytes → deliveries_of (before ++ lines bytes) ≡ None
over_long_among before bytes room long =
    let first : BeginsWith (longest_line + 1) (lines bytes) = begins longest_line bytes long.in_line (omega (arith, long.more)) in
    let refused : line_delivers first.first ≡ Err LineLong = ap (λ b. cond b (delivery_of first.first) (Err LineLong)) (lt-leb (length first.first) longest_line (omega (arith, first.more))) in
    ap (λ ls. deliveries_of (before ++ ls)) first.is ∙ refused_among before first.first first.others LineLong refused

short_refused : (line : List ℕ) (cause : LineCause) → length line ≤ longest_line → delivery_of line ≡ Err cause → line_delivers line ≡ Err cause
short_refused line cause short is = ap (λ b. cond b (delivery_of line) (Err LineLong)) (le-leb (length line) longest_line short) ∙ is

-- an input of deliveries has no line that is refused
pub none_refused : {G : Type 0} (limit : ℕ) (bytes : List ℕ) (ds before : List Delivery) (number : ℕ) (cause : LineCause) → AreDeliveries limit bytes ds → IsRefusedLine limit bytes before number cause → G
none_refused {G} limit bytes ds before number cause are refused = ⊎_elim
    (λ bad. clash (ap deliveries_of bad.are_lines ∙ refused_among bad.before bad.line _ cause (short_refused bad.line cause bad.short bad.refused)))
    (λ long. clash (ap deliveries_of long.1.are_lines ∙ over_long_among long.1.before long.1.unread_bytes _ long.1.over))
    refused
  where
    clash : deliveries_of (lines bytes) ≡ None → G
    clash none = let never : Some ds ≡ None = sym are.delivered ∙ none in cc

none_passes : {A : Type 0} (xs : List A) → filter (λ x. false) xs ≡ []
none_passes [] = refl
none_passes (x ∷ xs) = none_passes xs

-- a save on the way was asked for
saves_some : (every : Option ℕ) (ds : List Delivery) (saves : List (List Delivery)) (last : List Delivery) → up_to_saves every ds ≡ saves ++ last ∷ [] → IsSome every
saves_some (Some n) ds saves last due = refl
saves_some None ds saves last due = absurd (by saves (sym (none_passes (up_to_marks ds)) ∙ due))
  where
    by : (s : List (List Delivery)) → [] ≡ s ++ last ∷ [] → ⊥
    by [] never = cc
    by (x ∷ s) never = cc

module _ (run : Run) (before now : Moment) (bytes : List ℕ) (ds : List Delivery) (known : before.input.left ≡ Some bytes) (are : AreDeliveries (max_bytes_of run.choices) bytes ds)
    (reads : IsStill before.input.faults now.input.faults) (writes : IsStill (start_of run before).output.faults now.stage.output.faults) (saves : IsSaving run.choices → IsStill before.snapshot.faults now.snapshot.faults) (room : Stopped RoomPassed run before now → ⊥) where
  pub ends_well : (status : Status) → (status ≡ BadWords → ⊥) → IfSome (stop_of status) (λ stop. Stopped stop run before now) → (status ≡ Ended) ⊎ (status ≡ OutOfMemory)
  ends_well Ended understood stopped = inl refl
  ends_well BadWords understood stopped = absurd (understood refl)
  ends_well (BadLine number cause) understood stopped =
      none_refused (max_bytes_of run.choices) bytes ds stopped.deliveries number cause are
      (at_known before.input.left bytes (λ b. IsRefusedLine (max_bytes_of run.choices) b stopped.deliveries number cause) known stopped.bad)
  ends_well ReadFault understood stopped = not_risen before.input.faults now.input.faults reads stopped.0
  ends_well WriteFault understood stopped = ⊎_elim (λ out. not_risen (start_of run before).output.faults now.stage.output.faults writes out.0) (λ file. not_risen before.snapshot.faults now.snapshot.faults (saves (⊎_elim (λ unsaved. inl unsaved.saves) (λ stands. inr (saves_some run.choices.every stands.deliveries stands.saves stands.deliveries stands.due)) file.1)) file.0) stopped
  ends_well TooLong understood stopped =
      let past = at_known before.input.left bytes (λ b. max_bytes_of run.choices < length b) known (more before.input.left stopped.past) in
      absurd (omega (arith, past, are.within))
    where
      more : (left : Option (List ℕ)) → IfSome left (λ b. IsPastLimit (max_bytes_of run.choices) b stopped.deliveries) → IfSome left (λ b. max_bytes_of run.choices < length b)
      more None past = tt
      more (Some b) past = past.more
  ends_well StoreFull understood stopped = absurd (room stopped)
  ends_well OutOfMemory understood stopped = inr refl
  ends_well (BadSnapshot number) understood never = absurd never

-- ---- the world

module _ (run : Run) (before now : Moment) (contents : ℕ → Option Bytes) (first : IsFirst (start_of run before)) (ending : Ending run before now) (known : run.environment.known ≡ Some contents) where
  -- no fetch failed
  none_failed_now : IsStill (start_of run before).counts.faults now.stage.counts.faults → failed_events now.stage.world.played.side ≡ []
  none_failed_now still =
      none_failed (failed_events now.stage.world.played.side) _ before.stage.counts.faults now.stage.counts.faults ending.replayed.replay.played.counted.failed (none_named_first (start_of run before) first) still.same still.below

  pub unsettled : IsStill (start_of run before).counts.faults now.stage.counts.faults → (x : EntityId) → is_settled (record_of now.stage.world.played.records x) ≡ false →
      (is_kept (record_of now.stage.world.played.records x).state.mode ≡ true) × (has_document judgement contents x (record_of now.stage.world.played.records x).state.rev ≡ false)
  unsettled still x isnt =
      let told = subst (λ failed. Each (TellsWhatIsThere judgement contents failed) now.stage.world.played.side) (none_failed_now still) ((ending.replayed.replay.names first).there contents known) in
      any_opened judgement contents x (record_of now.stage.world.played.records x) now.stage.world.played.side told
      (opened (has_open_revision now.stage.world.played.records now.stage.world.played.side x) (sym ((ending.replayed.replay.holds first).settled x) ∙ isnt))
    where
      opened : (b : Bool) → not b ≡ false → b ≡ true
      opened true is = refl
      opened false is = sym is

  pub settled_union : ((x : EntityId) → is_settled (record_of now.stage.world.played.records x) ≡ true) →
      held_triples now.stage.mapped now.stage.world.played.records
      ≡ sorted triple_cmp (flat_map (λ entry. triples_in (meaning (version_at ending.replayed.deliveries (start_of run before))) contents entry.0 entry.1.state) (map.entries now.stage.world.played.records))
  settled_union all =
      all_held_by version now.stage.mapped records ending.replayed.replay.played.mapped
      ∙ ap (sorted triple_cmp) (
      sym (over_ids (λ x r. triples_held (meaning version) x (unwrap_or r blank).held) records)
      ∙ alike (map.keys records)
      ∙ over_ids (λ x r. triples_in (meaning version) contents x (unwrap_or r blank).state) records
      )
    where
      version : MappingVersion
      version = version_at ending.replayed.deliveries (start_of run before)

      records : Records
      records = now.stage.world.played.records

      alike : (xs : List EntityId) → flat_map (λ x. triples_held (meaning version) x (record_of records x).held) xs ≡ flat_map (λ x. triples_in (meaning version) contents x (record_of records x).state) xs
      alike [] = refl
      alike (x ∷ xs) =
          rw (settled_triples judgement contents (meaning version) x (record_of records x) ((ending.replayed.replay.holds first).there contents known x) (all x), alike xs) refl

  pub nothing_named : IsStill (start_of run before).counts.faults now.stage.counts.faults → late (horizon_at (start_of run before)) ending.replayed.deliveries ≡ [] →
      ((e : Event) → has event_cmp e (accepted (horizon_at (start_of run before)) ending.replayed.deliveries) ≡ true → FindsDocument judgement contents e) → now.stage.world.played.side ≡ []
  nothing_named still none find =
      ap (λ (w : ReplayState). w.played.side) (ending.replayed.replay.played.source contents known)
      ∙ ap (λ (p : Played). p.side) (state_played run.environment.routes (closes run.choices) ending.replayed.deliveries (start_of run before) first (replies_there contents now.stage.world))
      ∙ ap (λ failed. (played (horizon_at (start_of run before)) (closes run.choices) (source_replies judgement contents failed) ending.replayed.deliveries).side) (none_failed_now still)
      ∙ none_named judgement contents (horizon_at (start_of run before)) (closes run.choices) ending.replayed.deliveries none find
