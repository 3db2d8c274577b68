-- How one delivery more is counted, and what the world answers to it.
use Rattle.std.proofs.Common.{◌≡◌, ◌∙◌, refl, sym, ap, ℕ, ◌+◌, Bool, true, false, cond, not, ◌&&◌, List, [], ◌∷◌, ◌++◌, append-nil, length, length-append, Option, None, Some, arith}
use Rattle.sorted_sets.specs.Rising.{has}
use Rattle.sorted_sets.proofs.{Filtering.has-filter, Rising.has-sorted}
use Rattle.entity_model.specs.{declared.event.Event.Event, Event.event_cmp, Event.event_cmp_same, Event.event_cmp_total}
use Rattle.delivery.specs.declared.Delivery.{Delivery}
use Rattle.delivery.specs.declared.Delivery.TheVariants.{Event as Told, Watermark, Ask, Mapping, Match}
use Rattle.reorder_buffer.specs.declared.taken.Taken.{Taken}
use Rattle.reorder_buffer.specs.declared.taken.Taken.TheVariants.{New, Repeat, Late}
use Rattle.reorder_buffer.specs.Watermarks.{reached}
use Rattle.replay_model.specs.Acceptance.{accepted, events, is_accepted, is_late, is_repeat, late, mark}
use Rattle.replay_model.specs.{Fate.in_order, Play.Replies, ReplayState.following}
use Rattle.replay_model.proofs.Deliveries.{events_passing-kept, events_passing-told}
use Rattle.drill_replay.specs.declared.counts.DrillCounts.{DrillCounts}
use Rattle.drill_replay.specs.Playing.{Counted, HasFew, answer_of, with_answer}

one_more : (ds : List Delivery) (d : Delivery) (n : ℕ) → n ≡ length ds → n + 1 ≡ length (ds ++ d ∷ [])
one_more ds d n is = omega (arith, length-append ds (d ∷ []))

-- what tells no event is one delivery more
no_event : (ds : List Delivery) (d : Delivery) (c : DrillCounts) → accepted None (ds ++ d ∷ []) ≡ accepted None ds → late None (ds ++ d ∷ []) ≡ late None ds → Counted ds c
    → Counted (ds ++ d ∷ []) (with_answer None c)
no_event ds d c same_accepted same_late counted = record {
  deliveries = one_more ds d c.deliveries counted.deliveries;
  accepted = counted.accepted ∙ ap length (sym same_accepted);
  late = counted.late ∙ ap length (sym same_late);
}

-- how many events pass a test with one more event
passing_more : (test : List Delivery → Event → Bool) (passing : List Delivery → List Event) (ds : List Delivery) (e : Event) (passes : Bool) (n : ℕ)
    → passing (ds ++ Told e ∷ []) ≡ passing ds ++ cond (test ds e) (e ∷ []) [] → test ds e ≡ passes → n ≡ length (passing ds)
    → n + cond passes 1 0 ≡ length (passing (ds ++ Told e ∷ []))
passing_more test passing ds e true n more is counted =
    let one : passing (ds ++ Told e ∷ []) ≡ passing ds ++ e ∷ [] = more ∙ ap (λ b. passing ds ++ cond b (e ∷ []) []) is in
    omega (arith, ap length one, length-append (passing ds) (e ∷ []), counted)
passing_more test passing ds e false n more is counted =
    let same : passing (ds ++ Told e ∷ []) ≡ passing ds = more ∙ ap (λ b. passing ds ++ cond b (e ∷ []) []) is ∙ append-nil (passing ds) in
    omega (arith, ap length same, counted)

-- an event that is this
event_counted : (ds : List Delivery) (e : Event) (c : DrillCounts) (repeat reach : Bool) → is_repeat None ds e ≡ repeat → reached (mark ds) e.time ≡ reach → Counted ds c
    → Counted (ds ++ Told e ∷ []) (with_answer (Some (cond repeat Repeat (cond reach Late New))) c)
event_counted ds e c repeat reach is_r is_m counted =
    let accepting : is_accepted None ds e ≡ (not repeat && not reach) = (λ i. not (is_r i) && not (is_m i)) in
    let lating : is_late None ds e ≡ (not repeat && reach) = (λ i. not (is_r i) && is_m i) in
    by repeat reach
    (passing_more (is_accepted None) (accepted None) ds e (not repeat && not reach) c.accepted (events_passing-told (is_accepted None) ds e) accepting counted.accepted)
    (passing_more (is_late None) (late None) ds e (not repeat && reach) c.late (events_passing-told (is_late None) ds e) lating counted.late)
  where
    same : (n m : ℕ) → n + 0 ≡ m → n ≡ m
    same n m is = omega arith

    by : (repeat reach : Bool) → c.accepted + cond (not repeat && not reach) 1 0 ≡ length (accepted None (ds ++ Told e ∷ []))
        → c.late + cond (not repeat && reach) 1 0 ≡ length (late None (ds ++ Told e ∷ []))
        → Counted (ds ++ Told e ∷ []) (with_answer (Some (cond repeat Repeat (cond reach Late New))) c)
    by true reach a l = record { deliveries = one_more ds (Told e) c.deliveries counted.deliveries; accepted = same _ _ a; late = same _ _ l }
    by false true a l = record { deliveries = one_more ds (Told e) c.deliveries counted.deliveries; accepted = same _ _ a; late = l }
    by false false a l = record { deliveries = one_more ds (Told e) c.deliveries counted.deliveries; accepted = a; late = same _ _ l }

-- one delivery more, by what the world of those before answers
pub counted-next : (replies : Replies) (ds : List Delivery) (d : Delivery) (c : DrillCounts) → Counted ds c
    → Counted (ds ++ d ∷ []) (with_answer (answer_of (following None replies ds).buffer d) c)
counted-next replies ds (Told e) c counted =
    event_counted ds e c (has event_cmp e (following None replies ds).buffer.kept) (reached (mark ds) e.time)
    (sym (has-filter event_cmp event_cmp_same (λ (x : Event). true) e (in_order (events ds)) ∙ has-sorted event_cmp_total e (events ds))) refl counted
counted-next replies ds (Watermark w) c counted = no_event ds (Watermark w) c (events_passing-kept (is_accepted None) ds (Watermark w) refl) (events_passing-kept (is_late None) ds (Watermark w) refl) counted
counted-next replies ds (Ask p) c counted = no_event ds (Ask p) c (events_passing-kept (is_accepted None) ds (Ask p) refl) (events_passing-kept (is_late None) ds (Ask p) refl) counted
counted-next replies ds (Mapping v) c counted = no_event ds (Mapping v) c (events_passing-kept (is_accepted None) ds (Mapping v) refl) (events_passing-kept (is_late None) ds (Mapping v) refl) counted
counted-next replies ds (Match p) c counted = no_event ds (Match p) c (events_passing-kept (is_accepted None) ds (Match p) refl) (events_passing-kept (is_late None) ds (Match p) refl) counted

-- each count rises by one at most
pub few-next : (answer : Option Taken) (c : DrillCounts) (n : ℕ) → HasFew c n → HasFew (with_answer answer c) (n + 1)
few-next None c n few = (omega arith, omega arith, omega arith)
few-next (Some New) c n few = (omega arith, omega arith, omega arith)
few-next (Some Late) c n few = (omega arith, omega arith, omega arith)
few-next (Some Repeat) c n few = (omega arith, omega arith, omega arith)
