-- After each delivery, and after the end, a replay that takes each delivery as it comes has the state that the whole list gives.
use Rattle.std.proofs.Common.{◌≡◌, Bool, true, false, not, cond, ◌&&◌, ℤ, List, [], ◌∷◌, ◌++◌, Option, None, Some, find, filter, refl, sym, ◌∙◌, ap, append-nil, ℕ}
use Rattle.std.specs.BTreeSet.{insert_key}
use Rattle.std.proofs.lemmas.List.Elements.{filter-append}
use Rattle.entity_model.specs.declared.event.Event.{Event}
use Rattle.entity_model.specs.Event.{event_cmp, event_cmp_total, event_cmp_same}
use Rattle.entity_state.specs.declared.entry.Entry.TheVariants.{Late as LateEntry}
use Rattle.delivery.specs.declared.Delivery.{Delivery}
use Rattle.delivery.specs.declared.Delivery.TheVariants.{Event as Told, Watermark, Ask, Mapping, Match}
use Rattle.reorder_buffer.specs.declared.taken.Taken.{Taken}
use Rattle.reorder_buffer.specs.declared.taken.Taken.TheVariants.{New, Repeat, Late}
use Rattle.reorder_buffer.specs.Watermarks.{greater, reached, is_due, floor}
use Rattle.reorder_buffer.specs.Buffered.{after_answer, first_due, unforgotten}
use Rattle.sorted_sets.proofs.Rising.{sorted-push, sorted-push_again}
use Rattle.sorted_sets.proofs.Filtering.{sorted-filter, filter_swap, filter_stronger}
use Rattle.sorted_sets.proofs.FirstPassing.{filter-none, filter-all_others, filter-first, filter-others}
use Rattle.replay_model.specs.Acceptance.{mark, events, is_repeat, is_accepted, accepted}
use Rattle.replay_model.specs.Fate.{in_order}
use Rattle.replay_model.specs.Play.{Replies, Played, apply_all, newly_due, play}
use Rattle.replay_model.specs.ReplayState.{ReplayState, taken_entries, after_event, after_mark, after_applying, after_next, after_due, delivered, ended, following, following_to_end}
use Rattle.replay_model.proofs.Arrivals.{play-push}
use Rattle.replay_model.proofs.Floors.{above_not_below, has-kept, kept-push, kept-greater, repeat_delivered}
use Rattle.replay_model.proofs.Times.{reached-greater}
use Rattle.replay_model.proofs.Deliveries.{mark-kept, mark-watermark, events-kept, events-told, events_passing-kept, events_passing-told}

-- the state with these parts
abbrev state_of : List Event → List Event → Option ℤ → Option ℕ → Bool → Played → ReplayState
state_of kept waiting m hz closed p = record { buffer = record { kept = kept; waiting = waiting; mark = m; horizon = hz; closed = closed }; played = p }

-- states with equal parts are equal
same_parts : {k k' w w' : List Event} {m m' : Option ℤ} {p p' : Played} (hz : Option ℕ) (closed : Bool) → k ≡ k' → w ≡ w' → m ≡ m' → p ≡ p' → state_of k w m hz closed p ≡ state_of k' w' m' hz closed p'
same_parts hz closed k w m p = λ i. state_of (k i) (w i) (m i) hz closed (p i)

-- ---- an event

-- an event that isn't due by the mark
abbrev pub waits : Option ℤ → Event → Bool
waits m e = not (is_due false m e)

-- after an event whose answer is known
abbrev pub after_answered : Taken → ReplayState → Event → ReplayState
after_answered answer w e = record {
  buffer = after_answer answer w.buffer e;
  played = record { records = w.played.records; side = w.played.side ++ taken_entries answer e };
}

waiting-told : (hz : Option ℕ) (ds : List Delivery) (e : Event) → filter (waits (mark (ds ++ Told e ∷ []))) (accepted hz (ds ++ Told e ∷ [])) ≡ filter (waits (mark ds)) (accepted hz ds) ++ filter (waits (mark ds)) (cond (is_accepted hz ds e) (e ∷ []) [])
waiting-told hz ds e =
    ap (λ m. filter (waits m) (accepted hz (ds ++ Told e ∷ []))) (mark-kept ds (Told e) refl)
    ∙ ap (filter (waits (mark ds))) (events_passing-told (is_accepted hz) ds e)
    ∙ filter-append (waits (mark ds)) (accepted hz ds) (cond (is_accepted hz ds e) (e ∷ []) [])

-- what is kept after an event, from what was delivered
kept-told : (hz : Option ℕ) (ds : List Delivery) (e : Event) → unforgotten (floor hz (mark (ds ++ Told e ∷ []))) (in_order (events (ds ++ Told e ∷ []))) ≡ unforgotten (floor hz (mark ds)) (in_order (events ds ++ e ∷ []))
kept-told hz ds e = λ i. unforgotten (floor hz (mark-kept ds (Told e) refl i)) (in_order (events-told ds e i))

following-answered : (hz : Option ℕ) (replies : Replies) (ds : List Delivery) (e : Event) (repeat reach : Bool) → is_repeat hz ds e ≡ repeat → reached (mark ds) e.time ≡ reach
    → following hz replies (ds ++ Told e ∷ []) ≡ after_answered (cond repeat Repeat (cond reach Late New)) (following hz replies ds) e
following-answered hz replies ds e true reach is_r is_m =
    same_parts hz false
    (kept-told hz ds e ∙ ap (unforgotten (floor hz (mark ds))) (sorted-push_again event_cmp_total event_cmp_same (events ds) e (repeat_delivered hz ds e is_r)))
    (ap in_order (waiting-told hz ds e ∙ ap (λ b. filter (waits (mark ds)) (accepted hz ds) ++ filter (waits (mark ds)) (cond (not b && not (reached (mark ds) e.time)) (e ∷ []) [])) is_r ∙ append-nil _))
    (mark-kept ds (Told e) refl)
    (play-push hz replies ds (Told e) ∙ ap (λ b. record { records = (play hz replies ds).records; side = (play hz replies ds).side ++ cond (not b && reached (mark ds) e.time) (LateEntry e ∷ []) [] }) is_r)
following-answered hz replies ds e false true is_r is_m =
    same_parts hz false
    (kept-told hz ds e ∙ kept-push (floor hz (mark ds)) (events ds) e)
    (ap in_order (waiting-told hz ds e ∙ ap (λ b. filter (waits (mark ds)) (accepted hz ds) ++ filter (waits (mark ds)) (cond (not (is_repeat hz ds e) && not b) (e ∷ []) [])) is_m ∙ ap (λ b. filter (waits (mark ds)) (accepted hz ds) ++ filter (waits (mark ds)) (cond (not b && false) (e ∷ []) [])) is_r ∙ append-nil _))
    (mark-kept ds (Told e) refl)
    (play-push hz replies ds (Told e) ∙ (λ i. record { records = (play hz replies ds).records; side = (play hz replies ds).side ++ cond (not (is_r i) && is_m i) (LateEntry e ∷ []) [] }))
following-answered hz replies ds e false false is_r is_m =
    same_parts hz false
    (kept-told hz ds e ∙ kept-push (floor hz (mark ds)) (events ds) e
    ∙ ap (λ b. cond b (unforgotten (floor hz (mark ds)) (in_order (events ds))) (insert_key event_cmp (unforgotten (floor hz (mark ds)) (in_order (events ds))) e)) (above_not_below hz (mark ds) e.time is_m))
    (ap in_order (waiting-told hz ds e ∙ (λ i. filter (waits (mark ds)) (accepted hz ds) ++ filter (waits (mark ds)) (cond (not (is_r i) && not (is_m i)) (e ∷ []) [])) ∙ ap (λ b. filter (waits (mark ds)) (accepted hz ds) ++ cond (not b) (e ∷ []) []) is_m)
    ∙ sorted-push event_cmp_total event_cmp_same (filter (waits (mark ds)) (accepted hz ds)) e)
    (mark-kept ds (Told e) refl)
    (play-push hz replies ds (Told e) ∙ (λ i. record { records = (play hz replies ds).records; side = (play hz replies ds).side ++ cond (not (is_r i) && is_m i) (LateEntry e ∷ []) [] }))

following-told : (hz : Option ℕ) (replies : Replies) (ds : List Delivery) (e : Event) → following hz replies (ds ++ Told e ∷ []) ≡ after_event (following hz replies ds) e
following-told hz replies ds e =
    following-answered hz replies ds e (is_repeat hz ds e) (reached (mark ds) e.time) refl refl
    ∙ ap (λ b. after_answered (cond b Repeat (cond (reached (mark ds) e.time) Late New)) (following hz replies ds) e) (sym (has-kept (floor hz (mark ds)) e (events ds)))

-- ---- what is due

-- what waits by an earlier mark, as a later one cuts it
due_of_waiting : (closed : Bool) (m m' : Option ℤ) (es : List Event) → filter (is_due closed m') (in_order (filter (waits m) es)) ≡ in_order (filter (waits m) (filter (is_due closed m') es))
due_of_waiting closed m m' es =
    sym (sorted-filter event_cmp_total event_cmp_same (is_due closed m') (filter (waits m) es))
    ∙ ap in_order (filter_swap (is_due closed m') (waits m) es)

-- what a watermark makes due is what waits and is due after it
pub newly_due-watermark : (hz : Option ℕ) (ds : List Delivery) (w : ℤ) → newly_due hz ds false (ds ++ Watermark w ∷ []) ≡ filter (is_due false (greater (mark ds) w)) (in_order (filter (waits (mark ds)) (accepted hz ds)))
newly_due-watermark hz ds w =
    (λ i. in_order (filter (waits (mark ds)) (filter (is_due false (mark-watermark ds w i)) (events_passing-kept (is_accepted hz) ds (Watermark w) refl i))))
    ∙ sym (due_of_waiting false (mark ds) (greater (mark ds) w) (accepted hz ds))

-- what the end makes due is what waits
pub newly_due-end : (hz : Option ℕ) (ds : List Delivery) → newly_due hz ds true ds ≡ filter (is_due true (mark ds)) (in_order (filter (waits (mark ds)) (accepted hz ds)))
newly_due-end hz ds = sym (due_of_waiting true (mark ds) (mark ds) (accepted hz ds))

still_waiting : (m m' : Option ℤ) → ((e : Event) → waits m' e ≡ true → waits m e ≡ true) → (es : List Event) → filter (waits m') (in_order (filter (waits m) es)) ≡ in_order (filter (waits m') es)
still_waiting m m' earlier es =
    sym (sorted-filter event_cmp_total event_cmp_same (waits m') (filter (waits m) es))
    ∙ ap in_order (filter_stronger (waits m') (waits m) earlier es)

waits_before : (m : Option ℤ) (w : ℤ) (e : Event) → waits (greater m w) e ≡ true → waits m e ≡ true
waits_before m w e h = by (reached m e.time) refl
  where
    by : (b : Bool) → reached m e.time ≡ b → not b ≡ true
    by false r = refl
    by true r = sym (ap not (reached-greater m w e.time r)) ∙ h

following-watermark : (hz : Option ℕ) (replies : Replies) (ds : List Delivery) (w : ℤ) → following hz replies (ds ++ Watermark w ∷ []) ≡ after_due replies (after_mark (following hz replies ds) w)
following-watermark hz replies ds w =
    let later = ds ++ Watermark w ∷ [] in
    let same_accepted = events_passing-kept (is_accepted hz) ds (Watermark w) refl in
    same_parts hz false
    ((λ i. unforgotten (floor hz (mark-watermark ds w i)) (in_order (events-kept ds (Watermark w) refl i))) ∙ sym (kept-greater hz (mark ds) w (in_order (events ds))))
    ((λ i. in_order (filter (waits (mark-watermark ds w i)) (same_accepted i))) ∙ sym (still_waiting (mark ds) (greater (mark ds) w) (waits_before (mark ds) w) (accepted hz ds)))
    (mark-watermark ds w)
    (play-push hz replies ds (Watermark w)
    ∙ ap (apply_all replies (play hz replies ds)) (newly_due-watermark hz ds w))

none_left : (p : Event → Bool) → ((e : Event) → p e ≡ false) → (es : List Event) → filter p es ≡ []
none_left p h [] = refl
none_left p h (e ∷ es) = ap (λ b. cond b (e ∷ filter p es) (filter p es)) (h e) ∙ none_left p h es

pub following-end : (hz : Option ℕ) (replies : Replies) (ds : List Delivery) → following_to_end hz replies ds ≡ ended replies (following hz replies ds)
following-end hz replies ds =
    same_parts hz true
    refl
    (sym (none_left (λ e. not (is_due true (mark ds) e)) (λ e. refl) (in_order (filter (waits (mark ds)) (accepted hz ds)))))
    refl
    (ap (apply_all replies (play hz replies ds)) (newly_due-end hz ds))

-- after each delivery
pub following-delivered : (hz : Option ℕ) (replies : Replies) (ds : List Delivery) (d : Delivery) → following hz replies (ds ++ d ∷ []) ≡ delivered replies (following hz replies ds) d
following-delivered hz replies ds (Told e) = following-told hz replies ds e
following-delivered hz replies ds (Watermark w) = following-watermark hz replies ds w
following-delivered hz replies ds (Ask q) =
    same_parts hz false
    (λ i. unforgotten (floor hz (mark-kept ds (Ask q) refl i)) (in_order (events-kept ds (Ask q) refl i)))
    (λ i. in_order (filter (waits (mark-kept ds (Ask q) refl i)) (events_passing-kept (is_accepted hz) ds (Ask q) refl i)))
    (mark-kept ds (Ask q) refl)
    (play-push hz replies ds (Ask q))
following-delivered hz replies ds (Mapping v) =
    same_parts hz false
    (λ i. unforgotten (floor hz (mark-kept ds (Mapping v) refl i)) (in_order (events-kept ds (Mapping v) refl i)))
    (λ i. in_order (filter (waits (mark-kept ds (Mapping v) refl i)) (events_passing-kept (is_accepted hz) ds (Mapping v) refl i)))
    (mark-kept ds (Mapping v) refl)
    (play-push hz replies ds (Mapping v))
following-delivered hz replies ds (Match q) =
    same_parts hz false
    (λ i. unforgotten (floor hz (mark-kept ds (Match q) refl i)) (in_order (events-kept ds (Match q) refl i)))
    (λ i. in_order (filter (waits (mark-kept ds (Match q) refl i)) (events_passing-kept (is_accepted hz) ds (Match q) refl i)))
    (mark-kept ds (Match q) refl)
    (play-push hz replies ds (Match q))

-- ---- one due event after the other

-- where none is due, applying all due events changes nothing
pub after_due-none : (replies : Replies) (w : ReplayState) → first_due w.buffer ≡ None → after_due replies w ≡ w
after_due-none replies w none =
    let test = is_due w.buffer.closed w.buffer.mark in
    same_parts w.buffer.horizon w.buffer.closed refl (filter-all_others test w.buffer.waiting none) refl (ap (apply_all replies w.played) (filter-none test w.buffer.waiting none))

pub after_due-some : (replies : Replies) (w : ReplayState) (e : Event) → first_due w.buffer ≡ Some e → after_due replies (after_applying replies w (Some e)) ≡ after_due replies w
after_due-some replies w e some =
    let test = is_due w.buffer.closed w.buffer.mark in
    same_parts w.buffer.horizon w.buffer.closed refl (filter-others test w.buffer.waiting) refl (ap (apply_all replies w.played) (sym (filter-first test w.buffer.waiting e some)))

-- after the least due event, the others lead to the same state
pub after_due-next : (replies : Replies) (w : ReplayState) → after_due replies (after_next replies w) ≡ after_due replies w
after_due-next replies w =
    elim (first_due w.buffer) as (λ o. first_due w.buffer ≡ o → after_due replies (after_applying replies w o) ≡ after_due replies w) [
      | None ↦ λ _. refl
      | Some e ↦ λ some. after_due-some replies w e some
    ] refl

not_found : (p : Event → Bool) (es : List Event) → find p (filter (λ e. not (p e)) es) ≡ None
not_found p [] = refl
not_found p (e ∷ es) =
    elim (p e) as (λ b. p e ≡ b → find p (cond (not b) (e ∷ filter (λ e. not (p e)) es) (filter (λ e. not (p e)) es)) ≡ None) [
      | true ↦ λ _. not_found p es
      | false ↦ λ h. ap (λ b. cond b (Some e) (find p (filter (λ e. not (p e)) es))) h ∙ not_found p es
    ] refl

-- no event of the state after a list of deliveries is due
pub following-rests : (hz : Option ℕ) (replies : Replies) (ds : List Delivery) → first_due (following hz replies ds).buffer ≡ None
following-rests hz replies ds =
    ap (find (is_due false (mark ds))) (sorted-filter event_cmp_total event_cmp_same (waits (mark ds)) (accepted hz ds))
    ∙ not_found (is_due false (mark ds)) (in_order (accepted hz ds))
