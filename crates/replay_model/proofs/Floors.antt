-- The floor: it is at or below the mark and only rises, and which events are kept by it.
use Rattle.std.proofs.Common.{◌≡◌, ℕ, ℤ, Bool, true, false, not, cond, ◌&&◌, List, [], ◌∷◌, ◌++◌, Option, None, Some, refl, sym, ◌∙◌, ap, int_lt, arith, append-nil}
use Rattle.std.specs.BTreeSet.{insert_key}
use Rattle.std.proofs.lemmas.Int.{ints}
use Rattle.std.proofs.lemmas.List.Elements.{filter-append}
use Rattle.entity_model.specs.declared.event.Event.{Event}
use Rattle.entity_model.specs.Event.{event_cmp, event_cmp_total, event_cmp_same}
use Rattle.delivery.specs.declared.Delivery.{Delivery}
use Rattle.reorder_buffer.specs.Watermarks.{greater, reached, floor, is_below}
use Rattle.reorder_buffer.specs.Buffered.{unforgotten}
use Rattle.sorted_sets.specs.Rising.{has}
use Rattle.sorted_sets.proofs.Bools.{clash, and_right}
use Rattle.sorted_sets.proofs.Rising.{has-sorted, sorted-push}
use Rattle.sorted_sets.proofs.Filtering.{has-filter, sorted-filter, filter_stronger}
use Rattle.replay_model.specs.Acceptance.{mark, events, is_repeat}
use Rattle.replay_model.specs.Fate.{in_order}

-- the mark has reached what is below the floor
pub below_reached : (hz : Option ℕ) (m : Option ℤ) (t : ℤ) → is_below (floor hz m) t ≡ true → reached m t ≡ true
below_reached None m t h = clash h refl
below_reached (Some n) None t h = clash h refl
below_reached (Some n) (Some m) t h = grind (arith, ints)

-- what the mark didn't reach isn't below the floor
pub above_not_below : (hz : Option ℕ) (m : Option ℤ) (t : ℤ) → reached m t ≡ false → is_below (floor hz m) t ≡ false
above_not_below hz m t above = by (is_below (floor hz m) t) refl
  where
    by : (b : Bool) → is_below (floor hz m) t ≡ b → b ≡ false
    by true h = clash (below_reached hz m t h) above
    by false h = refl

-- the floor only rises
pub below-greater : (hz : Option ℕ) (m : Option ℤ) (w t : ℤ) → is_below (floor hz m) t ≡ true → is_below (floor hz (greater m w)) t ≡ true
below-greater None m w t h = h
below-greater (Some n) None w t h = clash h refl
below-greater (Some n) (Some m) w t h =
    elim (int_lt m w) as (λ b. int_lt m w ≡ b → is_below (floor (Some n) (Some (cond b w m))) t ≡ true) [
      | true ↦ λ lt. grind (arith, ints)
      | false ↦ λ _. h
    ] refl

-- what is kept of the delivered events
pub has-kept : (f : Option ℤ) (q : Event) (es : List Event) → has event_cmp q (unforgotten f (in_order es)) ≡ (not (is_below f q.time) && has event_cmp q es)
has-kept f q es =
    has-filter event_cmp event_cmp_same (λ (e : Event). not (is_below f e.time)) q (in_order es)
    ∙ ap (λ b. not (is_below f q.time) && b) (has-sorted event_cmp_total q es)

-- one more event is kept, if it isn't below the floor
pub kept-push : (f : Option ℤ) (es : List Event) (e : Event) → unforgotten f (in_order (es ++ e ∷ [])) ≡ cond (is_below f e.time) (unforgotten f (in_order es)) (insert_key event_cmp (unforgotten f (in_order es)) e)
kept-push f es e =
    sym (sorted-filter event_cmp_total event_cmp_same (λ (x : Event). not (is_below f x.time)) (es ++ e ∷ []))
    ∙ ap in_order (filter-append (λ (x : Event). not (is_below f x.time)) es (e ∷ []))
    ∙ by (is_below f e.time)
  where
    by : (b : Bool) → in_order (unforgotten f es ++ cond (not b) (e ∷ []) []) ≡ cond b (unforgotten f (in_order es)) (insert_key event_cmp (unforgotten f (in_order es)) e)
    by true = ap in_order (append-nil (unforgotten f es)) ∙ sorted-filter event_cmp_total event_cmp_same (λ (x : Event). not (is_below f x.time)) es
    by false =
        sorted-push event_cmp_total event_cmp_same (unforgotten f es) e
        ∙ ap (λ l. insert_key event_cmp l e) (sorted-filter event_cmp_total event_cmp_same (λ (x : Event). not (is_below f x.time)) es)

-- what a later floor keeps, it keeps of what an earlier one kept
pub kept-greater : (hz : Option ℕ) (m : Option ℤ) (w : ℤ) (es : List Event) → unforgotten (floor hz (greater m w)) (unforgotten (floor hz m) es) ≡ unforgotten (floor hz (greater m w)) es
kept-greater hz m w es = filter_stronger (λ (e : Event). not (is_below (floor hz (greater m w)) e.time)) (λ (e : Event). not (is_below (floor hz m) e.time)) earlier es
  where
    earlier : (e : Event) → not (is_below (floor hz (greater m w)) e.time) ≡ true → not (is_below (floor hz m) e.time) ≡ true
    earlier e above = by (is_below (floor hz m) e.time) refl
      where
        by : (b : Bool) → is_below (floor hz m) e.time ≡ b → not b ≡ true
        by true h = clash above (ap not (below-greater hz m w e.time h))
        by false h = refl

-- a repeat was delivered before
pub repeat_delivered : (hz : Option ℕ) (ds : List Delivery) (e : Event) → is_repeat hz ds e ≡ true → has event_cmp e (events ds) ≡ true
repeat_delivered hz ds e h = and_right (not (is_below (floor hz (mark ds)) e.time)) _ h
