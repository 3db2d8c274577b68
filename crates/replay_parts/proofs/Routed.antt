-- The deliveries that go to a part have the mark, the version in force and the questions of all deliveries, and the part of their events.
use Rattle.std.proofs.Common.{◌≡◌, ℕ, Bool, true, false, not, cond, ◌&&◌, List, [], ◌∷◌, ◌++◌, Option, None, filter, filter_map, fold, length, unwrap_or, refl, sym, ◌∙◌, ap, append-nil, true≢false}
use Rattle.std.specs.List.{cons_option, last_or}
use Rattle.std.proofs.lemmas.List.Elements.{filter-append}
use Rattle.entity_model.specs.declared.id.EntityId.{EntityId}
use Rattle.entity_model.specs.declared.event.Event.{Event}
use Rattle.entity_model.specs.Event.{event_cmp, event_cmp_total, event_cmp_same}
use Rattle.delivery.specs.declared.Delivery.{Delivery}
use Rattle.delivery.specs.declared.Delivery.TheVariants.{Event as Told, Watermark, Ask, Mapping, Match}
use Rattle.entity_model.specs.declared.mapping.MappingVersion.TheVariants.{One}
use Rattle.reorder_buffer.specs.Watermarks.{greater, reached, is_due, floor, is_below}
use Rattle.reorder_buffer.specs.Buffered.{unforgotten}
use Rattle.sorted_sets.specs.Rising.{has}
use Rattle.sorted_sets.proofs.Pushes.{by_pushes}
use Rattle.sorted_sets.proofs.Filtering.{has-filter, filter_swap, sorted-filter}
use Rattle.replay_model.specs.Acceptance.{event_of, watermark_of, mapping_of, events, mark, version_in_force, events_passing, is_repeat, is_late, is_accepted, accepted, due}
use Rattle.replay_model.specs.Fate.{in_order}
use Rattle.replay_model.specs.Play.{newly_due}
use Rattle.replay_model.specs.Transcript.{pattern_of, shapes_of, asks, matches}
use Rattle.replay_model.proofs.Deliveries.{events_passing-kept, events_passing-told}
use Rattle.replay_parts.specs.Parts.{is_routed, routed, part_of_events}

-- a filter that lets through whatever gives something leaves what a list gives
filter_map-filter : {A B : Type 0} (f : A → Option B) (p : A → Bool) → ((x : A) → p x ≡ false → f x ≡ None) → (xs : List A) → filter_map f (filter p xs) ≡ filter_map f xs
filter_map-filter f p h [] = refl
filter_map-filter {A} {B} f p h (x ∷ xs) = by (filter_map-filter f p h xs) (p x) refl
  where
    by : filter_map f (filter p xs) ≡ filter_map f xs → (b : Bool) → p x ≡ b → filter_map f (cond b (x ∷ filter p xs) (filter p xs)) ≡ cons_option (f x) (filter_map f xs)
    by rest true _ = ap (cons_option (f x)) rest
    by rest false out = rest ∙ ap (λ o. cons_option o (filter_map f xs)) (sym (h x out))

-- nothing either way
pub nothing_either_way : {A : Type 0} (b : Bool) → ◌≡◌ {A = List A} (cond b [] []) []
nothing_either_way true = refl
nothing_either_way false = refl

module _ (contains : EntityId → Bool) where
  no_watermark : (d : Delivery) → is_routed contains d ≡ false → watermark_of d ≡ None
  no_watermark (Told e) out = refl
  no_watermark (Watermark w) out = absurd (true≢false out)
  no_watermark (Ask q) out = refl
  no_watermark (Mapping v) out = refl
  no_watermark (Match q) out = refl

  no_mapping : (d : Delivery) → is_routed contains d ≡ false → mapping_of d ≡ None
  no_mapping (Told e) out = refl
  no_mapping (Watermark w) out = refl
  no_mapping (Ask q) out = refl
  no_mapping (Mapping v) out = absurd (true≢false out)
  no_mapping (Match q) out = refl

  no_question : (d : Delivery) → is_routed contains d ≡ false → pattern_of d ≡ None
  no_question (Told e) out = refl
  no_question (Watermark w) out = refl
  no_question (Ask q) out = absurd (true≢false out)
  no_question (Mapping v) out = refl
  no_question (Match q) out = absurd (true≢false out)

  no_match : (d : Delivery) → is_routed contains d ≡ false → shapes_of d ≡ None
  no_match (Told e) out = refl
  no_match (Watermark w) out = refl
  no_match (Ask q) out = refl
  no_match (Mapping v) out = refl
  no_match (Match q) out = absurd (true≢false out)

  pub mark-routed : (ds : List Delivery) → mark (routed contains ds) ≡ mark ds
  mark-routed ds = ap (fold greater None) (filter_map-filter watermark_of (is_routed contains) no_watermark ds)

  pub version-routed : (ds : List Delivery) → version_in_force (routed contains ds) ≡ version_in_force ds
  version-routed ds = ap (λ vs. unwrap_or (last_or None vs) One) (filter_map-filter mapping_of (is_routed contains) no_mapping ds)

  pub asks-routed : (ds : List Delivery) → asks (routed contains ds) ≡ asks ds
  asks-routed ds = ap length (filter_map-filter pattern_of (is_routed contains) no_question ds)

  pub matches-routed : (ds : List Delivery) → matches (routed contains ds) ≡ matches ds
  matches-routed ds = ap length (filter_map-filter shapes_of (is_routed contains) no_match ds)

  pub events-routed : (ds : List Delivery) → events (routed contains ds) ≡ part_of_events contains (events ds)
  events-routed [] = refl
  events-routed (Told e ∷ ds) = by (events-routed ds) (contains e.entity)
    where
      by : events (routed contains ds) ≡ part_of_events contains (events ds) → (b : Bool) → events (cond b (Told e ∷ routed contains ds) (routed contains ds)) ≡ cond b (e ∷ part_of_events contains (events ds)) (part_of_events contains (events ds))
      by rest true = ap (λ l. e ∷ l) rest
      by rest false = rest
  events-routed (Watermark w ∷ ds) = events-routed ds
  events-routed (Ask q ∷ ds) = events-routed ds
  events-routed (Mapping v ∷ ds) = events-routed ds
  events-routed (Match q ∷ ds) = events-routed ds

  -- one delivery more
  pub routed-push : (ds : List Delivery) (d : Delivery) → routed contains (ds ++ d ∷ []) ≡ routed contains ds ++ cond (is_routed contains d) (d ∷ []) []
  routed-push ds d = filter-append (is_routed contains) ds (d ∷ [])

  -- one event of the part, if it passes
  part_of_one : (e : Event) (passes : Bool) → part_of_events contains (cond passes (e ∷ []) []) ≡ cond (contains e.entity) (cond passes (e ∷ []) []) []
  part_of_one e true = refl
  part_of_one e false = sym (nothing_either_way (contains e.entity))

  -- the events that pass by what came before, where an event of the part passes alike by what went to the part before
  passing-routed : (passes : List Delivery → Event → Bool) → ((ds : List Delivery) (e : Event) → contains e.entity ≡ true → passes (routed contains ds) e ≡ passes ds e)
      → (ds : List Delivery) → events_passing passes (routed contains ds) ≡ part_of_events contains (events_passing passes ds)
  passing-routed passes alike = by_pushes (λ ds. events_passing passes (routed contains ds) ≡ part_of_events contains (events_passing passes ds)) refl step
    where
      kept : (ds : List Delivery) (d : Delivery) → is_routed contains d ≡ true → event_of d ≡ None → events_passing passes (routed contains ds) ≡ part_of_events contains (events_passing passes ds)
          → events_passing passes (routed contains (ds ++ d ∷ [])) ≡ part_of_events contains (events_passing passes (ds ++ d ∷ []))
      kept ds d goes none before =
          ap (events_passing passes) (routed-push ds d ∙ ap (λ b. routed contains ds ++ cond b (d ∷ []) []) goes)
          ∙ events_passing-kept passes (routed contains ds) d none
          ∙ before
          ∙ ap (part_of_events contains) (sym (events_passing-kept passes ds d none))

      told : (ds : List Delivery) (e : Event) (b : Bool) → contains e.entity ≡ b
          → events_passing passes (routed contains ds ++ cond b (Told e ∷ []) []) ≡ events_passing passes (routed contains ds) ++ cond b (cond (passes ds e) (e ∷ []) []) []
      told ds e true is = events_passing-told passes (routed contains ds) e ∙ ap (λ b. events_passing passes (routed contains ds) ++ cond b (e ∷ []) []) (alike ds e is)
      told ds e false is = ap (events_passing passes) (append-nil (routed contains ds)) ∙ sym (append-nil _)

      step : (ds : List Delivery) (d : Delivery) → events_passing passes (routed contains ds) ≡ part_of_events contains (events_passing passes ds)
          → events_passing passes (routed contains (ds ++ d ∷ [])) ≡ part_of_events contains (events_passing passes (ds ++ d ∷ []))
      step ds (Told e) before =
          ap (events_passing passes) (routed-push ds (Told e))
          ∙ told ds e (contains e.entity) refl
          ∙ (λ i. before i ++ sym (part_of_one e (passes ds e)) i)
          ∙ sym (filter-append (λ (q : Event). contains q.entity) (events_passing passes ds) (cond (passes ds e) (e ∷ []) []))
          ∙ ap (part_of_events contains) (sym (events_passing-told passes ds e))
      step ds (Watermark w) before = kept ds (Watermark w) refl refl before
      step ds (Ask q) before = kept ds (Ask q) refl refl before
      step ds (Mapping v) before = kept ds (Mapping v) refl refl before
      step ds (Match q) before = kept ds (Match q) refl refl before

  pub repeat-routed : (hz : Option ℕ) (ds : List Delivery) (e : Event) → contains e.entity ≡ true → is_repeat hz (routed contains ds) e ≡ is_repeat hz ds e
  repeat-routed hz ds e is =
      (λ i. not (is_below (floor hz (mark-routed ds i)) e.time) && has event_cmp e (events-routed ds i))
      ∙ ap (λ b. not (is_below (floor hz (mark ds)) e.time) && b) (has-filter event_cmp event_cmp_same (λ (q : Event). contains q.entity) e (events ds) ∙ ap (λ b. b && has event_cmp e (events ds)) is)

  pub late_alike : (hz : Option ℕ) (ds : List Delivery) (e : Event) → contains e.entity ≡ true → is_late hz (routed contains ds) e ≡ is_late hz ds e
  late_alike hz ds e is = λ i. not (repeat-routed hz ds e is i) && reached (mark-routed ds i) e.time

  accepted_alike : (hz : Option ℕ) (ds : List Delivery) (e : Event) → contains e.entity ≡ true → is_accepted hz (routed contains ds) e ≡ is_accepted hz ds e
  accepted_alike hz ds e is = λ i. not (repeat-routed hz ds e is i) && not (reached (mark-routed ds i) e.time)

  pub accepted-routed : (hz : Option ℕ) (ds : List Delivery) → accepted hz (routed contains ds) ≡ part_of_events contains (accepted hz ds)
  accepted-routed hz ds = passing-routed (is_accepted hz) (accepted_alike hz) ds

  pub due-routed : (hz : Option ℕ) (closed : Bool) (ds : List Delivery) → due hz closed (routed contains ds) ≡ part_of_events contains (due hz closed ds)
  due-routed hz closed ds =
      (λ i. filter (is_due closed (mark-routed ds i)) (accepted-routed hz ds i))
      ∙ filter_swap (is_due closed (mark ds)) (λ (e : Event). contains e.entity) (accepted hz ds)

  -- events of the part in order
  pub part_of-in_order : (es : List Event) → in_order (part_of_events contains es) ≡ part_of_events contains (in_order es)
  part_of-in_order es = sorted-filter event_cmp_total event_cmp_same (λ (e : Event). contains e.entity) es

  pub newly_due-routed : (hz : Option ℕ) (before : List Delivery) (closed : Bool) (after : List Delivery) → newly_due hz (routed contains before) closed (routed contains after) ≡ part_of_events contains (newly_due hz before closed after)
  newly_due-routed hz before closed after =
      (λ i. in_order (filter (λ e. not (is_due false (mark-routed before i) e)) (due-routed hz closed after i)))
      ∙ ap in_order (filter_swap (λ e. not (is_due false (mark before) e)) (λ (e : Event). contains e.entity) (due hz closed after))
      ∙ part_of-in_order (filter (λ e. not (is_due false (mark before) e)) (due hz closed after))

  -- what is kept, and what waits
  pub kept-routed : (hz : Option ℕ) (ds : List Delivery) → unforgotten (floor hz (mark (routed contains ds))) (in_order (events (routed contains ds))) ≡ part_of_events contains (unforgotten (floor hz (mark ds)) (in_order (events ds)))
  kept-routed hz ds =
      (λ i. unforgotten (floor hz (mark-routed ds i)) (in_order (events-routed ds i)))
      ∙ ap (unforgotten (floor hz (mark ds))) (part_of-in_order (events ds))
      ∙ filter_swap (λ (e : Event). not (is_below (floor hz (mark ds)) e.time)) (λ (e : Event). contains e.entity) (in_order (events ds))

  pub waiting-routed : (hz : Option ℕ) (ds : List Delivery) → in_order (filter (λ e. not (is_due false (mark (routed contains ds)) e)) (accepted hz (routed contains ds))) ≡ part_of_events contains (in_order (filter (λ e. not (is_due false (mark ds) e)) (accepted hz ds)))
  waiting-routed hz ds =
      (λ i. in_order (filter (λ e. not (is_due false (mark-routed ds i) e)) (accepted-routed hz ds i)))
      ∙ ap in_order (filter_swap (λ e. not (is_due false (mark ds) e)) (λ (e : Event). contains e.entity) (accepted hz ds))
      ∙ part_of-in_order (filter (λ e. not (is_due false (mark ds) e)) (accepted hz ds))
