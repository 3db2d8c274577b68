-- Which events have settled replies, and what each step adds to them.
use Rattle.std.proofs.Common.{◌≡◌, ℤ, Bool, true, false, not, ◌&&◌, ◌||◌, cond, List, [], ◌∷◌, Option, None, Some, find, filter, unwrap_or, refl, sym, ◌∙◌, ap, true≢false, ℕ}
use Rattle.std.specs.Set.{remove_key}
use Rattle.std.specs.Ordering.{eq_by_cmp}
use Rattle.std.proofs.lemmas.Bool.{and_from}
use Rattle.entity_model.specs.declared.event.Event.{Event}
use Rattle.entity_model.specs.Event.{event_cmp, event_cmp_total, event_cmp_same}
use Rattle.delivery.specs.declared.Delivery.{Delivery}
use Rattle.reorder_buffer.specs.declared.taken.Taken.TheVariants.{New, Repeat, Late}
use Rattle.reorder_buffer.specs.Watermarks.{greater, reached, is_due}
use Rattle.reorder_buffer.specs.Buffered.{first_due}
use Rattle.sorted_sets.specs.Rising.{has, IsRising}
use Rattle.sorted_sets.proofs.Bools.{equal, or_swap, and_none, and_left, and_right}
use Rattle.sorted_sets.proofs.Rising.{has-insert_key, IsRising-sorted}
use Rattle.sorted_sets.proofs.FirstPassing.{has-taken_out}
use Rattle.replay_model.specs.Acceptance.{mark, accepted}
use Rattle.replay_model.specs.Explained.{is_applied}
use Rattle.replay_model.specs.Play.{Replies}
use Rattle.replay_model.specs.ReplayState.{ReplayState, after_event, after_mark, after_end, after_applying, following}
use Rattle.replay_model.proofs.Following.{after_answered, waits}
use Rattle.replay_model.proofs.Times.{due-greater}

-- after a list of deliveries, the waiting events are in order
pub following_rises : (hz : Option ℕ) (replies : Replies) (ds : List Delivery) → IsRising event_cmp (following hz replies ds).buffer.waiting
following_rises hz replies ds = IsRising-sorted event_cmp_total (filter (waits (mark ds)) (accepted hz ds))

-- ---- taking an event settles none

-- an event that isn't due may wait
may_wait : (d tie waiting : Bool) → (tie ≡ true → d ≡ false) → (d && not (tie || waiting)) ≡ (d && not waiting)
may_wait d true waiting h = ap (λ b. b && false) (h refl) ∙ sym (ap (λ b. b && not waiting) (h refl))
may_wait d false waiting h = refl

pub applied-event : (w : ReplayState) (e q : Event) → w.buffer.closed ≡ false → is_applied (after_event w e) q ≡ is_applied w q
applied-event w e q not_closed = by (has event_cmp e w.buffer.kept) (reached w.buffer.mark e.time) refl
  where
    by : (repeat reach : Bool) → reached w.buffer.mark e.time ≡ reach → is_applied (after_answered (cond repeat Repeat (cond reach Late New)) w e) q ≡ is_applied w q
    by true reach is = refl
    by false true is = refl
    by false false is =
        ap (λ b. is_due w.buffer.closed w.buffer.mark q && not b) (has-insert_key event_cmp_total q e w.buffer.waiting)
        ∙ may_wait (is_due w.buffer.closed w.buffer.mark q) (eq_by_cmp event_cmp q e) (has event_cmp q w.buffer.waiting)
        (λ tie. ap (λ closed. is_due closed w.buffer.mark q) not_closed ∙ ap (λ (y : Event). reached w.buffer.mark y.time) (event_cmp_same q e (equal _ tie)) ∙ is)

-- ---- what is settled stays so with a watermark and at the end

due_later : (closed : Bool) (m : Option ℤ) (w : ℤ) (q : Event) → is_due closed m q ≡ true → is_due closed (greater m w) q ≡ true
due_later true m w q h = refl
due_later false m w q h = due-greater m w q h

pub applied-mark : (w : ReplayState) (m : ℤ) (q : Event) → is_applied w q ≡ true → is_applied (after_mark w m) q ≡ true
applied-mark w m q h =
    and_from (is_due w.buffer.closed (greater w.buffer.mark m) q) (not (has event_cmp q w.buffer.waiting))
    (due_later w.buffer.closed w.buffer.mark m q (and_left _ (not (has event_cmp q w.buffer.waiting)) h))
    (and_right (is_due w.buffer.closed w.buffer.mark q) _ h)

pub applied-end : (w : ReplayState) (q : Event) → is_applied w q ≡ true → is_applied (after_end w) q ≡ true
applied-end w q h = and_right (is_due w.buffer.closed w.buffer.mark q) _ h

-- ---- one more event is applied

-- a list has the first that passes a test, and what is left without it
pub has-first_or_left : (p : Event → Bool) (q x : Event) (xs : List Event) → find p xs ≡ Some x → has event_cmp q xs ≡ (eq_by_cmp event_cmp q x || has event_cmp q (remove_key p xs))
has-first_or_left p q x [] e = absurd (true≢false (ap (λ o. none_is o) e))
  where
    none_is : Option Event → Bool
    none_is None = true
    none_is (Some y) = false
has-first_or_left p q x (y ∷ ys) e =
    elim (p y) as (λ b. cond b (Some y) (find p ys) ≡ Some x → (eq_by_cmp event_cmp q y || has event_cmp q ys) ≡ (eq_by_cmp event_cmp q x || has event_cmp q (cond b ys (y ∷ remove_key p ys)))) [
      | true ↦ λ e. ap (λ z. eq_by_cmp event_cmp q z || has event_cmp q ys) (ap (λ o. unwrap_or o x) e)
      | false ↦ λ e. ap (λ b. eq_by_cmp event_cmp q y || b) (has-first_or_left p q x ys e) ∙ or_swap (eq_by_cmp event_cmp q y) (eq_by_cmp event_cmp q x) (has event_cmp q (remove_key p ys))
    ] e

-- what is found passes the test
found_passes : (p : Event → Bool) (x : Event) (xs : List Event) → find p xs ≡ Some x → p x ≡ true
found_passes p x [] e = cc
found_passes p x (y ∷ ys) e =
    elim (p y) as (λ b. p y ≡ b → cond b (Some y) (find p ys) ≡ Some x → p x ≡ true) [
      | true ↦ λ passes is. ap p (sym (ap (λ o. unwrap_or o x) is)) ∙ passes
      | false ↦ λ _ is. found_passes p x ys is
    ] refl e

-- the replies to an event that waits aren't settled
pub waiting_not_applied : (w : ReplayState) (e : Event) → has event_cmp e w.buffer.waiting ≡ true → is_applied w e ≡ false
waiting_not_applied w e h = ap (λ b. is_due w.buffer.closed w.buffer.mark e && not b) h ∙ and_none (is_due w.buffer.closed w.buffer.mark e)

pub applied-next : (replies : Replies) (w : ReplayState) (e q : Event) → IsRising event_cmp w.buffer.waiting → first_due w.buffer ≡ Some e → is_applied (after_applying replies w (Some e)) q ≡ (eq_by_cmp event_cmp q e || is_applied w q)
applied-next replies w e q rises some = by (eq_by_cmp event_cmp q e) refl
  where
    gone : has event_cmp e (remove_key (is_due w.buffer.closed w.buffer.mark) w.buffer.waiting) ≡ false
    gone = has-taken_out (is_due w.buffer.closed w.buffer.mark) event_cmp_total e w.buffer.waiting rises some

    by : (t : Bool) → eq_by_cmp event_cmp q e ≡ t → (is_due w.buffer.closed w.buffer.mark q && not (has event_cmp q (remove_key (is_due w.buffer.closed w.buffer.mark) w.buffer.waiting))) ≡ (t || is_applied w q)
    by true tie =
        ap (λ y. is_due w.buffer.closed w.buffer.mark y && not (has event_cmp y (remove_key (is_due w.buffer.closed w.buffer.mark) w.buffer.waiting))) (event_cmp_same q e (equal _ tie))
        ∙ (λ i. found_passes (is_due w.buffer.closed w.buffer.mark) e w.buffer.waiting some i && not (gone i))
    by false tie =
        ap (λ b. is_due w.buffer.closed w.buffer.mark q && not b)
        (sym (has-first_or_left (is_due w.buffer.closed w.buffer.mark) q e w.buffer.waiting some ∙ ap (λ t. t || has event_cmp q (remove_key (is_due w.buffer.closed w.buffer.mark) w.buffer.waiting)) tie))
