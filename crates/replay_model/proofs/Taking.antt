-- A buffer that has taken some deliveries keeps exactly their events that aren't below the floor, whatever call comes next.
use Rattle.std.proofs.Common.{◌≡◌, ℕ, ℤ, Bool, true, false, not, cond, ◌&&◌, ◌||◌, List, [], ◌∷◌, ◌++◌, Option, refl, sym, ◌∙◌, ap}
use Rattle.std.specs.Ordering.{eq_by_cmp}
use Rattle.entity_model.specs.declared.event.Event.{Event}
use Rattle.entity_model.specs.Event.{event_cmp, event_cmp_total, event_cmp_same}
use Rattle.delivery.specs.declared.Delivery.{Delivery}
use Rattle.delivery.specs.declared.Delivery.TheVariants.{Event as Told, Watermark}
use Rattle.reorder_buffer.specs.declared.taken.Taken.TheVariants.{New, Repeat, Late}
use Rattle.reorder_buffer.specs.Watermarks.{greater, reached, floor, is_below}
use Rattle.reorder_buffer.specs.Buffered.{Buffered, nothing_taken_within, answer_to, unforgotten, with_event, after_answer, after_taking, after_raising, after_closing, after_dropping}
use Rattle.sorted_sets.specs.Rising.{has}
use Rattle.sorted_sets.proofs.Bools.{and_none}
use Rattle.sorted_sets.proofs.Rising.{has-insert_key, sorted-push_again}
use Rattle.sorted_sets.proofs.Filtering.{has-filter}
use Rattle.replay_model.specs.Acceptance.{mark, events, is_repeat, is_late}
use Rattle.replay_model.specs.Fate.{in_order}
use Rattle.replay_model.specs.ReplayState.{HasTakenIn}
use Rattle.replay_model.proofs.Deliveries.{mark-kept, mark-watermark, events-kept, events-told}
use Rattle.replay_model.proofs.Floors.{above_not_below, has-kept, kept-push, kept-greater, repeat_delivered}
use Rattle.replay_model.proofs.Horizons.{answer_split}

-- the events ks are those of es that aren't below the floor
abbrev AreKept : Option ℤ → List Event → List Event → Type 0
AreKept f ks es = (q : Event) → has event_cmp q ks ≡ (not (is_below f q.time) && has event_cmp q es)

-- they have the elements of the list that is made of es
as_made : (f : Option ℤ) (ks es : List Event) → AreKept f ks es → (q : Event) → has event_cmp q ks ≡ has event_cmp q (unforgotten f (in_order es))
as_made f ks es kept q = kept q ∙ sym (has-kept f q es)

-- one more event, which is kept if it isn't below the floor
kept-one_more : (f : Option ℤ) (ks es : List Event) (e : Event) (low : Bool) → is_below f e.time ≡ low → AreKept f ks es → AreKept f (cond low ks (with_event ks e)) (es ++ e ∷ [])
kept-one_more f ks es e low is kept q =
    by low
    ∙ ap (λ b. has event_cmp q (cond b (unforgotten f (in_order es)) (with_event (unforgotten f (in_order es)) e))) (sym is)
    ∙ ap (has event_cmp q) (sym (kept-push f es e))
    ∙ has-kept f q (es ++ e ∷ [])
  where
    by : (b : Bool) → has event_cmp q (cond b ks (with_event ks e)) ≡ has event_cmp q (cond b (unforgotten f (in_order es)) (with_event (unforgotten f (in_order es)) e))
    by true = as_made f ks es kept q
    by false =
        has-insert_key event_cmp_total q e ks
        ∙ ap (λ b. eq_by_cmp event_cmp q e || b) (as_made f ks es kept q)
        ∙ sym (has-insert_key event_cmp_total q e (unforgotten f (in_order es)))

-- an event again
kept-again : (f : Option ℤ) (ks es : List Event) (e : Event) → has event_cmp e es ≡ true → AreKept f ks es → AreKept f ks (es ++ e ∷ [])
kept-again f ks es e again kept q =
    as_made f ks es kept q
    ∙ ap (λ l. has event_cmp q (unforgotten f l)) (sym (sorted-push_again event_cmp_total event_cmp_same es e again))
    ∙ has-kept f q (es ++ e ∷ [])

-- after a watermark, what isn't below the new floor
kept-raised : (hz : Option ℕ) (m : Option ℤ) (w : ℤ) (ks es : List Event) → AreKept (floor hz m) ks es → AreKept (floor hz (greater m w)) (unforgotten (floor hz (greater m w)) ks) es
kept-raised hz m w ks es kept q =
    let above = λ (x : Event). not (is_below (floor hz (greater m w)) x.time) in
    has-filter event_cmp event_cmp_same above q ks
    ∙ ap (λ b. above q && b) (as_made (floor hz m) ks es kept q)
    ∙ sym (has-filter event_cmp event_cmp_same above q (unforgotten (floor hz m) (in_order es)))
    ∙ ap (has event_cmp q) (kept-greater hz m w (in_order es))
    ∙ has-kept (floor hz (greater m w)) q es

-- ---- the calls

pub has_taken-start : (hz : Option ℕ) → HasTakenIn hz [] (nothing_taken_within hz)
has_taken-start hz = record { horizon = refl; mark_is = refl; kept = λ e. sym (and_none _) }

-- what was kept after an event is told, from what is kept of the events with it
told : (hz : Option ℕ) (ds : List Delivery) (e : Event) (ks : List Event) → AreKept (floor hz (mark ds)) ks (events ds ++ e ∷ []) → AreKept (floor hz (mark (ds ++ Told e ∷ []))) ks (events (ds ++ Told e ∷ []))
told hz ds e ks kept q = kept q ∙ (λ i. not (is_below (floor hz (sym (mark-kept ds (Told e) refl) i)) q.time) && has event_cmp q (sym (events-told ds e) i))

has_taken-answered : (hz : Option ℕ) (ds : List Delivery) (b : Buffered) (e : Event) (again reach : Bool) → has event_cmp e b.kept ≡ again → reached b.mark e.time ≡ reach → HasTakenIn hz ds b → HasTakenIn hz (ds ++ Told e ∷ []) (after_answer (cond again Repeat (cond reach Late New)) b e)
has_taken-answered hz ds b e true reach is_r is_m taken = record {
  horizon = taken.horizon;
  mark_is = taken.mark_is ∙ sym (mark-kept ds (Told e) refl);
  kept = told hz ds e b.kept (kept-again (floor hz (mark ds)) b.kept (events ds) e (repeat_delivered hz ds e (sym (taken.kept e) ∙ is_r)) taken.kept);
}
has_taken-answered hz ds b e false true is_r is_m taken = record {
  horizon = taken.horizon;
  mark_is = taken.mark_is ∙ sym (mark-kept ds (Told e) refl);
  kept = told hz ds e _ (kept-one_more (floor hz (mark ds)) b.kept (events ds) e (is_below (floor b.horizon b.mark) e.time) (λ i. is_below (floor (sym taken.horizon i) (sym taken.mark_is i)) e.time) taken.kept);
}
has_taken-answered hz ds b e false false is_r is_m taken = record {
  horizon = taken.horizon;
  mark_is = taken.mark_is ∙ sym (mark-kept ds (Told e) refl);
  kept = told hz ds e _ (kept-one_more (floor hz (mark ds)) b.kept (events ds) e false (above_not_below hz (mark ds) e.time (ap (λ m. reached m e.time) (sym taken.mark_is) ∙ is_m)) taken.kept);
}

pub has_taken-take : (hz : Option ℕ) (ds : List Delivery) (b : Buffered) (e : Event) → HasTakenIn hz ds b → HasTakenIn hz (ds ++ Told e ∷ []) (after_taking b e)
has_taken-take hz ds b e taken = has_taken-answered hz ds b e (has event_cmp e b.kept) (reached b.mark e.time) refl refl taken

pub has_taken-raise : (hz : Option ℕ) (ds : List Delivery) (b : Buffered) (w : ℤ) → HasTakenIn hz ds b → HasTakenIn hz (ds ++ Watermark w ∷ []) (after_raising b w)
has_taken-raise hz ds b w taken = record {
  horizon = taken.horizon;
  mark_is = ap (λ m. greater m w) taken.mark_is ∙ sym (mark-watermark ds w);
  kept = λ q.
      (λ i. has event_cmp q (unforgotten (floor (taken.horizon i) (greater (taken.mark_is i) w)) b.kept))
      ∙ kept-raised hz (mark ds) w b.kept (events ds) taken.kept q
      ∙ (λ i. not (is_below (floor hz (sym (mark-watermark ds w) i)) q.time) && has event_cmp q (sym (events-kept ds (Watermark w) refl) i));
}

pub has_taken-close : (hz : Option ℕ) (ds : List Delivery) (b : Buffered) → HasTakenIn hz ds b → HasTakenIn hz ds (after_closing b)
has_taken-close hz ds b taken = record { horizon = taken.horizon; mark_is = taken.mark_is; kept = taken.kept }

pub has_taken-drop : (hz : Option ℕ) (ds : List Delivery) (b : Buffered) → HasTakenIn hz ds b → HasTakenIn hz ds (after_dropping b)
has_taken-drop hz ds b taken = record { horizon = taken.horizon; mark_is = taken.mark_is; kept = taken.kept }

pub has_taken-answers : (hz : Option ℕ) (ds : List Delivery) (b : Buffered) (e : Event) → HasTakenIn hz ds b → answer_to b e ≡ cond (is_repeat hz ds e) Repeat (cond (is_late hz ds e) Late New)
has_taken-answers hz ds b e taken =
    (λ i. cond (taken.kept e i) Repeat (cond (reached (taken.mark_is i) e.time) Late New))
    ∙ answer_split hz ds e
