-- What follows from the taking of a delivery, and of the end, for a drill: its pages are told, and no fetch of them fails.
use Rattle.std.proofs.Common.{◌≡◌, ◌∙◌, false, refl, sym, ap, subst, inl, inr, ⊎_elim, ◌⊎◌, ℕ, ◌-◌, ◌^◌, ◌<◌, ◌≤◌, ◌+◌, arith, List, [], ◌∷◌, ◌++◌, append_assoc, append-nil, length, length-append, filter_map, Option, None, Some}
use Rattle.std.proofs.lemmas.List.Elements.{filter_map-append}
use Rattle.delivery.specs.declared.Delivery.{Delivery}
use Rattle.delivery.specs.declared.Delivery.TheVariants.{Event as Told, Watermark, Ask, Mapping, Match}
use Rattle.entity_model.specs.{declared.event.Event.Event, declared.mapping.MappingVersion.MappingVersion}
use Rattle.entity_model.specs.declared.mapping.MappingVersion.TheVariants.{One}
use Rattle.reorder_buffer.specs.{Buffered.first_due, declared.taken.Taken.Taken}
use Rattle.replay_model.specs.{Acceptance.mapping_of, Explained.revision_wanted, Play.Replies}
use Rattle.replay_model.specs.Replies.{failed_events, source_replies}
use Rattle.replay_model.specs.ReplayState.{ReplayState, after_end, after_some, entered, following, following_to_end, nothing_delivered, nothing_delivered_within}
use Rattle.replay_model.specs.Transcript.{Question, for_triples, for_bindings, asking, asks, matches, question_of}
use Rattle.world.specs.WorldState.{WorldState}
use Rattle.text_output.specs.Printing.{Output}
use Rattle.drill_replay.specs.{Drill.IsSize, Drill.contents_of, Drill.drill, Source.Source}
use Rattle.drill_replay.specs.declared.counts.DrillCounts.{DrillCounts}
use Rattle.drill_replay.specs.Playing.{Counted, HasBegun, HasFew, IsByFirst, IsPartOf, StandsAtEnd, answer_of, with_answer}
use Rattle.drill_replay.specs.Summary.{drilled, replies_of}
use Rattle.drill_replay.proofs.{Counting.counted-next, NeverFull.never_over}
use Rattle.drill_replay.proofs.Versions.{drill_by_first, part_asks_none, part_brings_none, part_by_first, part_matches_none}
use Rattle.drill_replay.proofs.Drills.{rest_of}
use Rattle.session.specs.declared.drill_playing.DrillRun.{DrillRun}
use Rattle.session.specs.DrillPlaying.{HasTakenFirst, LeavesDrill, drill_environment, drill_stage, told_of}
use Rattle.run_model.specs.{declared.stop.Stop.Stop, declared.stop.Stop.TheVariants.OutOfMemory as StopOutOfMemory}
use Rattle.run_model.specs.{declared.report.Report.TheVariants.Answers, declared.report.Reported.Reported, declared.stop.Halt.Halt}
use Rattle.run_model.specs.declared.stop.Halt.TheVariants.{Unapplied as NotApplied, Unprinted}
use Rattle.run_model.specs.Moment.{HasCountedAt, RoseBy, no_numbers, Beginning, IsFirst, Stage, environment, reported_as, start_in, with_world}
use Rattle.run_model.specs.Course.{Course, course_after, course_begun, course_to_end, led_to, version_at}
use Rattle.run_model.specs.Remapping.{HasNoRoom, KeepsVersion, Mapped, mapped_by, mapped_in}
use Rattle.run_model.specs.{Stop.stop_of_halt, Taking.IsFull, Taking.IsWithin, Taking.judgement, Taking.replies_there}
use Rattle.run_model.specs.Delivering.{AppliesDue, AtEnd, AtRest, CutsOff, IsHeldUp, IsUntaken, Leads, StaysWithin, TakesDelivery, TakesInPart, turn}
use Rattle.snapshot.specs.declared.counts.Counts.{Counts}
use Rattle.term_pool.specs.declared.fault.PoolFault.TheVariants.{Full, OutOfMemory}
use Rattle.run_model.proofs.{Along.asks-push, Along.matches-push, Deliveries.end_begun, Deliveries.end_taken}
use Rattle.run_model.proofs.Ends.{is_played, none_named_first}
use Rattle.run_model.proofs.{FromNothing.ended_first, FromNothing.led_first, FromNothing.version_first, Progress.nothing_taken}
use Rattle.rdf_term.specs.Limits.{default_max_terms}
use Rattle.world.specs.Limit.{whole}

-- ---- where the world is

-- no fetch failed where none was counted
none_failed : (failed : List Event) (named before now : ℕ) → RoseBy (length failed) before (named + now) → named ≡ 0 → now ≡ 0 → failed ≡ []
none_failed [] named before now rose none still = refl
none_failed (e ∷ es) named before now rose none still =
    let below : named + now < 2 ^ 64 - 1 = omega (arith, none, still) in
    absurd (omega (arith, rose below, none, still))

module _ (size : ℕ) (start : Beginning) (now : Stage) (nothing : IsFirst start × (start.world ≡ nothing_delivered)) (still : now.counts.faults ≡ 0) where
  none_named : length (failed_events start.world.played.side) ≡ 0
  none_named = none_named_first start nothing.0

  replies_are : failed_events now.world.played.side ≡ [] → replies_there (contents_of size) now.world ≡ replies_of size
  replies_are none = ap (source_replies judgement (contents_of size)) none

  -- where no event is due, it is where its play is
  course_is : (course : Course) (reported : Reported) → Leads (drill_environment size) course reported start now → first_due now.world.buffer ≡ None → now.mapped ≡ mapped_by course.version now.world.played.records → now.world ≡ course.state (replies_of size)
  course_is course reported leads rests mapped =
      let play = is_played (drill_environment size) course reported start now leads rests mapped in
      play.source (contents_of size) refl ∙ ap course.state (replies_are (none_failed _ _ _ _ play.counted.failed none_named still))

  pub after_is : (ds : List Delivery) (reported : Reported) → AtRest (drill_environment size) ds reported start now → now.world ≡ following None (replies_of size) ds
  after_is ds reported at_rest =
      course_is (course_after None ds start) reported at_rest.leads at_rest.rests at_rest.mapped ∙ led_first start nothing.0 (replies_of size) ds ∙ ap (λ (w : ReplayState). following w.buffer.horizon (replies_of size) ds) nothing.1

  pub end_is : (ds : List Delivery) (reported : Reported) → AtEnd (drill_environment size) ds reported start now → now.world ≡ following_to_end None (replies_of size) ds
  end_is ds reported at_end =
      course_is (course_to_end None ds start) reported at_end.leads at_end.rests at_end.mapped ∙ ended_first start nothing.0 (replies_of size) ds ∙ ap (λ (w : ReplayState). following_to_end w.buffer.horizon (replies_of size) ds) nothing.1

  unapplied_none : (halt : Halt) (made : ℕ) → HasCountedAt halt start.counts now.counts start.world.played.side made now.world.played.side → failed_events now.world.played.side ≡ []
  unapplied_none (NotApplied Full) made counted = none_failed _ _ _ _ counted.failed none_named still
  unapplied_none (Unprinted why) made counted = none_failed _ _ _ _ counted.failed none_named still
  unapplied_none (NotApplied OutOfMemory) made counted = ⊎_elim (λ same. none_failed _ _ _ _ same.failed none_named still) (λ more. none_failed _ _ _ _ more.failed none_named still) counted

  -- and where some due events were applied, it is within its play
  pub within_is : (halt : Halt) (course : Course) (begun : Replies → ReplayState) (x : IsWithin halt (drill_environment size) course begun start now) → now.world ≡ after_some (replies_of size) x.steps (begun (replies_of size))
  within_is halt course begun x =
      x.source (contents_of size) refl ∙ ap (λ (replies : Replies). after_some replies x.steps (begun replies)) (replies_are (unapplied_none halt x.made x.counted))

-- where a first run begins without a horizon, these deliveries lead where their play does
led_nothing : (size : ℕ) (ds : List Delivery) (start : Beginning) → IsFirst start → start.world ≡ nothing_delivered → led_to ds start (replies_of size) ≡ following None (replies_of size) ds
led_nothing size ds start first nothing = led_first start first (replies_of size) ds ∙ ap (λ (w : ReplayState). following w.buffer.horizon (replies_of size) ds) nothing

-- there is room for each page that is due
full_never : (size : ℕ) (world : ReplayState) (mapped : Mapped) → IsSize size → HasBegun size world → mapped ≡ mapped_by One world.played.records → IsFull (drill_environment size) world mapped → ⊥
full_never size world mapped is_size begun is full =
    never_over size default_max_terms world full.event full.bytes is_size begun (omega arith) full.due full.fetches (full.there (contents_of size) refl)
    (subst (λ m. HasNoRoom (whole default_max_terms) world.played.records m full.event.entity (revision_wanted world full.event) full.bytes) is full.over)

-- ---- one delivery of a drill

-- a delivery that wasn't taken wholly: memory was refused, before it or at one of the events that it makes due
pub record IsDrillHalted (size : ℕ) (ds : List Delivery) (d : Delivery) (stop : Stop) (world : WorldState) : Type 0 where
  pub refused : stop ≡ StopOutOfMemory
  pub at : (world.replay ≡ following None (replies_of size) ds) ⊎ ((steps : ℕ) × (world.replay ≡ after_some (replies_of size) steps (entered (following None (replies_of size) ds) d)))
  pub first : IsByFirst world

pub by_first : (world : WorldState) → mapped_in world ≡ mapped_by One world.replay.played.records → IsByFirst world
by_first world is = (ap (λ (m : Mapped). m.version) is, ap (λ (m : Mapped). m.by_two) is)

-- what neither asks nor matches is no question
no_question_in : (d : Delivery) → asks (d ∷ []) ≡ 0 → matches (d ∷ []) ≡ 0 → question_of d ≡ None
no_question_in (Told e) no_ask no_match = refl
no_question_in (Watermark w) no_ask no_match = refl
no_question_in (Ask q) no_ask no_match = cc
no_question_in (Mapping v) no_ask no_match = refl
no_question_in (Match q) no_ask no_match = cc

asks_something : (q : Question) → question_of (asking q) ≡ None → ⊥
asks_something (for_triples pattern) none = cc
asks_something (for_bindings shapes) none = cc

module _ (run : DrillRun) (ds after : List Delivery) (d : Delivery) (all : drill run.size ≡ ds ++ d ∷ after) where
  with_it : drill run.size ≡ (ds ++ d ∷ []) ++ after
  with_it = all ∙ sym (append_assoc ds (d ∷ []) after)

  asks_none : 0 ≡ asks (ds ++ d ∷ [])
  asks_none = sym (ap length (part_asks_none run.size (ds ++ d ∷ []) after with_it))

  matches_none : 0 ≡ matches (ds ++ d ∷ [])
  matches_none = sym (ap length (part_matches_none run.size (ds ++ d ∷ []) after with_it))

  none_before : 0 ≡ matches ds
  none_before = omega (arith, matches_none, matches-push ds d)

  -- none was delivered before
  none_matched : (start : Beginning) → IsFirst start → 0 ≡ start.numbered.matches + matches ds
  none_matched start first = omega (arith, none_before, ap (λ (n : Counts). n.matches) first.numbered)

  -- it is no question
  pub silent : question_of d ≡ None
  silent = no_question_in d (omega (arith, asks_none, asks-push ds d)) (omega (arith, matches_none, matches-push ds d))

  no_question : (q : Question) → d ≡ asking q → ⊥
  no_question q is = asks_something q (subst (λ x. question_of x ≡ None) is silent)

  no_mapping : (v : MappingVersion) → d ≡ Mapping v → ⊥
  no_mapping v is =
      let none : length (filter_map mapping_of (ds ++ d ∷ [])) ≡ 0 = ap length (part_brings_none run.size (ds ++ d ∷ []) after with_it) in
      let parts : length (filter_map mapping_of (ds ++ d ∷ [])) ≡ length (filter_map mapping_of ds) + length (filter_map mapping_of (d ∷ [])) =
      ap length (filter_map-append mapping_of ds (d ∷ [])) ∙ length-append (filter_map mapping_of ds) (filter_map mapping_of (d ∷ [])) in
      let one : length (filter_map mapping_of (d ∷ [])) ≡ 0 = omega (arith, none, parts) in
      let it : length (filter_map mapping_of (Mapping v ∷ [])) ≡ 0 = subst (λ x. length (filter_map mapping_of (x ∷ [])) ≡ 0) is one in
      cc

  module _ (folder : List ℕ) (out : Output) (world : WorldState) (taken : HasTakenFirst run ds out world) where
    environment_is : environment None Answers (told_of run.pages.size) folder world.limit ≡ drill_environment run.size
    environment_is = ap (λ c. environment None Answers c folder world.limit) taken.told ∙ ap (λ n. environment None Answers (told_of run.size) folder n) taken.limit

    abbrev pub before : Stage
    before = drill_stage run.pages out world

    stands : world.replay ≡ following None (replies_of run.size) ds
    stands = after_is run.size taken.start before (taken.first, taken.nothing) refl ds (reported_as 0 run.changed) taken.at_rest

    -- it is taken and counted
    pub next_taken : (pages_now : Source) (counts_now : DrillCounts) (answer : Option Taken) (reported_now : Reported) (out_now : Output) (world_now : WorldState) → told_of pages_now.size ≡ told_of run.pages.size →
        TakesDelivery (environment None Answers (told_of run.pages.size) folder world.limit) (turn (reported_as 0 run.changed) 0 d) reported_now before (drill_stage pages_now out_now world_now) → answer ≡ answer_of world.replay.buffer d → counts_now ≡ with_answer answer run.counts →
        world_now.limit ≡ world.limit → HasTakenFirst (record run { pages = pages_now; counts = counts_now; changed = reported_now.changed }) (ds ++ d ∷ []) out_now world_now
    next_taken pages_now counts_now answer reported_now out_now world_now told takes answered counted limit = record {
      start = taken.start;
      first = taken.first;
      nothing = taken.nothing;
      told = told ∙ taken.told;
      at_rest = still_none (subst (λ s. TakesDelivery s (turn (reported_as 0 run.changed) 0 d) reported_now before (drill_stage pages_now out_now world_now)) environment_is takes ds taken.start (none_matched taken.start taken.first) taken.at_rest);
      counted = subst (λ c. Counted (ds ++ d ∷ []) c)
          (sym (counted ∙ ap (λ (a : Option Taken). with_answer a run.counts) (answered ∙ ap (λ (w : ReplayState). answer_of w.buffer d) stands)))
          (counted-next (replies_of run.size) ds d run.counts taken.counted);
      limit = limit ∙ taken.limit;
    }
      where
        -- nothing is answered
        still_none : AtRest (drill_environment run.size) (ds ++ d ∷ []) reported_now taken.start (drill_stage pages_now out_now world_now) → AtRest (drill_environment run.size) (ds ++ d ∷ []) (reported_as 0 reported_now.changed) taken.start (drill_stage pages_now out_now world_now)
        still_none at_rest =
            let none : reported_now.number ≡ 0 = omega (arith, at_rest.answered, ap (λ (n : Counts). n.asks) taken.first.numbered, asks_none) in
            subst (λ n. AtRest (drill_environment run.size) (ds ++ d ∷ []) (reported_as n reported_now.changed) taken.start (drill_stage pages_now out_now world_now)) none at_rest

    module _ (pages_now : Source) (out_now : Output) (world_now : WorldState) where
      abbrev pub now : Stage
      now = drill_stage pages_now out_now world_now

      in_part : (halt : Halt) → IsUntaken halt before now ⊎ IsWithin halt (drill_environment run.size) (course_begun None ds (Some d) taken.start) (λ replies. entered (led_to ds taken.start replies) d) taken.start now →
          (world_now.replay ≡ following None (replies_of run.size) ds) ⊎ ((steps : ℕ) × (world_now.replay ≡ after_some (replies_of run.size) steps (entered (following None (replies_of run.size) ds) d)))
      in_part halt part = ⊎_elim (λ none. inl (untaken halt none)) (λ some. inr (some.steps, within_is run.size taken.start now (taken.first, taken.nothing) refl halt _ _ some ∙ ap (λ w. after_some (replies_of run.size) some.steps (entered w d)) (led_nothing run.size ds taken.start taken.first taken.nothing))) part
        where
          untaken : (halt : Halt) → IsUntaken halt before now → world_now.replay ≡ following None (replies_of run.size) ds
          untaken (NotApplied Full) never = absurd never
          untaken (NotApplied OutOfMemory) same = same.0 ∙ stands
          untaken (Unprinted why) never = absurd never

      begun : (world_now.replay ≡ following None (replies_of run.size) ds) ⊎ ((steps : ℕ) × (world_now.replay ≡ after_some (replies_of run.size) steps (entered (following None (replies_of run.size) ds) d))) → HasBegun run.size world_now.replay
      begun at = inl (⊎_elim
          (λ same. inl (record { before = ds; after = d ∷ after; all = all; is = same }))
          (λ some. inr (record { before = ds; last = d; after = after; all = all; steps = some.0; is = some.1 }))
          at)

      starves : IsSize run.size → (stop : Stop) (halt : Halt) → stop ≡ stop_of_halt halt → TakesInPart halt (drill_environment run.size) (turn (reported_as 0 run.changed) 0 d) before now → IsDrillHalted run.size ds d stop world_now
      starves is_size stop halt is x = record {
        refused = is ∙ by halt x.held_up (x.world ds taken.start taken.at_rest);
        at = at;
        first = by_first world_now mapped;
      }
        where
          at : (world_now.replay ≡ following None (replies_of run.size) ds) ⊎ ((steps : ℕ) × (world_now.replay ≡ after_some (replies_of run.size) steps (entered (following None (replies_of run.size) ds) d)))
          at = in_part halt (x.world ds taken.start taken.at_rest)

          mapped : mapped_in world_now ≡ mapped_by One world_now.replay.played.records
          mapped = x.mapped (version_at ds taken.start) taken.at_rest.mapped ∙ ap (λ v. mapped_by v world_now.replay.played.records) (version_first taken.start taken.first (replies_of run.size) ds ∙ part_by_first run.size ds (d ∷ after) all)

          by : (halt : Halt) → IsHeldUp halt (drill_environment run.size) out now →
              IsUntaken halt before now ⊎ IsWithin halt (drill_environment run.size) (course_begun None ds (Some d) taken.start) (λ replies. entered (led_to ds taken.start replies) d) taken.start now → stop_of_halt halt ≡ StopOutOfMemory
          by (NotApplied Full) full part = absurd (full_never run.size world_now.replay (mapped_in world_now) is_size (begun at) mapped full)
          by (NotApplied OutOfMemory) held_up part = refl
          by (Unprinted why) held_up part = absurd (⊎_elim (λ never. never) (λ within. within.says) part)

      -- it isn't taken wholly
      pub cut_off : IsSize run.size → (stop : Stop) → CutsOff stop (environment None Answers (told_of run.pages.size) folder world.limit) (turn (reported_as 0 run.changed) 0 d) before now → IsDrillHalted run.size ds d stop world_now
      cut_off is_size stop cuts = ⊎_elim
          (λ printing. absurd (no_question printing.2.question printing.2.is))
          (⊎_elim
          (λ starving. starves is_size stop starving.0 starving.1 starving.2)
          (λ remapping. absurd (no_mapping remapping.2.version remapping.2.is)))
          (subst (λ s. CutsOff stop s (turn (reported_as 0 run.changed) 0 d) before now) environment_is cuts)

-- a drill that halted has come to a part of any deliveries of which those are the first
pub halted_in : (size : ℕ) (ds rest whole : List Delivery) (d : Delivery) (stop : Stop) (world : WorldState) → whole ≡ ds ++ d ∷ rest → IsDrillHalted size ds d stop world → IsPartOf size whole world.replay
halted_in size ds rest whole d stop world all halted = ⊎_elim
    (λ same. inl (record { before = ds; after = d ∷ rest; all = all; is = same }))
    (λ some. inr (record { before = ds; last = d; after = rest; all = all; steps = some.0; is = some.1 }))
    halted.at

-- and is at a part at rest
pub part_at_rest : (run : DrillRun) (ds : List Delivery) (out : Output) (world : WorldState) → HasTakenFirst run ds out world → IsPartOf run.size ds world.replay
part_at_rest run ds out world taken = inl (record {
  before = ds;
  after = [];
  all = sym (append-nil ds);
  is = after_is run.size taken.start (drill_stage run.pages out world) (taken.first, taken.nothing) refl ds (reported_as 0 run.changed) taken.at_rest;
})

-- what it leaves
pub leaves_halted : (size : ℕ) (ds : List Delivery) (d : Delivery) (stop : Stop) (world world_now : WorldState) → IsDrillHalted size ds d stop world_now → world.limit ≡ whole default_max_terms → world_now.limit ≡ world.limit → LeavesDrill world_now
leaves_halted size ds d stop world world_now halted limit same = record {
  first = halted.first;
  limit = same ∙ limit;
}

-- what a drill leaves at rest
pub leaves_at_rest : (run : DrillRun) (ds after : List Delivery) (out : Output) (world : WorldState) → drill run.size ≡ ds ++ after → HasTakenFirst run ds out world → LeavesDrill world
leaves_at_rest run ds after out world all taken = record {
  first = by_first world (taken.at_rest.mapped ∙ ap (λ v. mapped_by v world.replay.played.records) (version_first taken.start taken.first (replies_of run.size) ds ∙ part_by_first run.size ds after all));
  limit = taken.limit;
}

-- before the first delivery
pub starts : (run : DrillRun) (out : Output) (world : WorldState) → told_of run.pages.size ≡ told_of run.size → run.counts ≡ record { deliveries = 0; accepted = 0; late = 0 } → run.changed ≡ false → world.replay ≡ nothing_delivered → IsByFirst world →
    world.limit ≡ whole default_max_terms → HasTakenFirst run (drill 0) out world
starts run out world told zero unchanged is first limit = record {
  start = start_in no_numbers (drill_stage run.pages out world);
  first = record { world = is ∙ ap (λ (w : ReplayState). nothing_delivered_within w.buffer.horizon) (sym is); mapping = first.0; numbered = refl };
  nothing = is;
  told = told;
  at_rest = rw (is, first.0, first.1, unchanged) (nothing_taken (drill_environment run.size) None out _);
  counted = rw zero (record { deliveries = refl; accepted = refl; late = refl });
  limit = limit;
}

-- the next delivery of an item is the next of the drill
pub next_of : (size done : ℕ) (ds rest : List Delivery) (d : Delivery) → done + 1 ≤ size → drill (done + 1) ≡ ds ++ d ∷ rest → (after : List Delivery) × (drill size ≡ ds ++ d ∷ after)
next_of size done ds rest d below all =
    let others = rest_of (done + 1) (size - (done + 1)) in
    let same : done + 1 + (size - (done + 1)) ≡ size = omega arith in
    (rest ++ others.0, sym (ap drill same) ∙ others.1 ∙ ap (λ l. l ++ others.0) all ∙ append_assoc ds (d ∷ rest) others.0)

-- the deliveries of so many items are the first of the drill
pub first_of : (size n : ℕ) → n ≤ size → (after : List Delivery) × (drill size ≡ drill n ++ after)
first_of size n below =
    let others = rest_of n (size - n) in
    let same : n + (size - n) ≡ size = omega arith in
    (others.0, sym (ap drill same) ∙ others.1)

-- no count is above 0 at the start
pub few_none : (c : DrillCounts) (n : ℕ) → c ≡ record { deliveries = 0; accepted = 0; late = 0 } → HasFew c n
few_none c n is = rw is (omega arith, omega arith, omega arith)

-- all items were taken
pub all_taken : (run : DrillRun) (size done : ℕ) (out : Output) (world : WorldState) → run.size ≡ size → size ≤ done → done ≤ size → HasTakenFirst run (drill done) out world → HasTakenFirst run (drill run.size) out world
all_taken run size done out world same low high taken =
    let is : done ≡ run.size = omega (arith, same) in
    subst (λ n. HasTakenFirst run (drill n) out world) is taken

-- ---- the end of a drill

module _ (run : DrillRun) (folder : List ℕ) (out : Output) (world : WorldState) (taken : HasTakenFirst run (drill run.size) out world) (pages_now : Source) (out_now : Output) (world_now : WorldState) where
  environment_at_end : environment None Answers (told_of run.pages.size) folder world.limit ≡ drill_environment run.size
  environment_at_end = ap (λ c. environment None Answers c folder world.limit) taken.told ∙ ap (λ n. environment None Answers (told_of run.size) folder n) taken.limit

  abbrev pub stage_before : Stage
  stage_before = drill_stage run.pages out world

  abbrev pub stage_now : Stage
  stage_now = drill_stage pages_now out_now world_now

  pub end_first : KeepsVersion (mapped_in world) (mapped_in world_now) world.replay.played.records world_now.replay.played.records → mapped_in world_now ≡ mapped_by One world_now.replay.played.records
  end_first keeps = keeps (version_at (drill run.size) taken.start) taken.at_rest.mapped ∙ ap (λ v. mapped_by v world_now.replay.played.records) (version_first taken.start taken.first (replies_of run.size) (drill run.size) ∙ drill_by_first run.size)

  -- and it leaves this
  pub leaves_end : KeepsVersion (mapped_in world) (mapped_in world_now) world.replay.played.records world_now.replay.played.records → world_now.limit ≡ world.limit → LeavesDrill world_now
  leaves_end keeps same = record {
    first = by_first world_now (end_first keeps);
    limit = same ∙ taken.limit;
  }

  -- all was applied
  pub end_reached : (reported_now : Reported) → AppliesDue (environment None Answers (told_of run.pages.size) folder world.limit) (reported_as 0 run.changed) reported_now (with_world stage_before (after_end world.replay)) stage_now →
      KeepsVersion (mapped_in world) (mapped_in world_now) world.replay.played.records world_now.replay.played.records → out.faults ≤ out_now.faults → world_now.replay ≡ drilled run.size
  end_reached reported_now applies keeps more =
      end_is run.size taken.start stage_now (taken.first, taken.nothing) refl (drill run.size) reported_now
      (end_taken (drill_environment run.size) (drill run.size) taken.start stage_before stage_now (reported_as 0 run.changed) reported_now
      (subst (λ s. AppliesDue s (reported_as 0 run.changed) reported_now (with_world stage_before (after_end world.replay)) stage_now) environment_at_end applies) keeps more taken.at_rest)

  end_within : (halt : Halt) → StaysWithin halt (environment None Answers (told_of run.pages.size) folder world.limit) (reported_as 0 run.changed) (with_world stage_before (after_end world.replay)) stage_now →
      IsWithin halt (drill_environment run.size) (course_to_end None (drill run.size) taken.start) (λ replies. after_end (led_to (drill run.size) taken.start replies)) taken.start stage_now
  end_within halt stays =
      end_begun (drill_environment run.size) (drill run.size) taken.start halt stage_before stage_now (reported_as 0 run.changed)
      (subst (λ s. StaysWithin halt s (reported_as 0 run.changed) (with_world stage_before (after_end world.replay)) stage_now) environment_at_end stays) taken.at_rest

  -- not all was applied
  pub end_halted : (halt : Halt) → StaysWithin halt (environment None Answers (told_of run.pages.size) folder world.limit) (reported_as 0 run.changed) (with_world stage_before (after_end world.replay)) stage_now → StandsAtEnd run.size world_now.replay
  end_halted halt stays =
      let within = end_within halt stays in
      record {
        steps = within.steps;
        is = within_is run.size taken.start stage_now (taken.first, taken.nothing) refl halt _ _ within
            ∙ ap (λ w. after_some (replies_of run.size) within.steps (after_end w)) (led_nothing run.size (drill run.size) taken.start taken.first taken.nothing);
      }

  -- only with OutOfMemory
  pub end_starved : IsSize run.size → (halt : Halt) → StaysWithin halt (environment None Answers (told_of run.pages.size) folder world.limit) (reported_as 0 run.changed) (with_world stage_before (after_end world.replay)) stage_now →
      KeepsVersion (mapped_in world) (mapped_in world_now) world.replay.played.records world_now.replay.played.records → IsHeldUp halt (environment None Answers (told_of run.pages.size) folder world.limit) out stage_now → halt ≡ NotApplied OutOfMemory
  end_starved is_size (NotApplied OutOfMemory) stays keeps held_up = refl
  end_starved is_size (NotApplied Full) stays keeps full =
      absurd (full_never run.size world_now.replay (mapped_in world_now) is_size (inr (end_halted (NotApplied Full) stays)) (end_first keeps)
      (subst (λ s. IsFull s world_now.replay (mapped_in world_now)) environment_at_end full))
  end_starved is_size (Unprinted why) stays keeps held_up = absurd (end_within (Unprinted why) stays).says
