-- What a horizon leaves as it is: the accepted events and the records. What a buffer with one answers.
use Rattle.std.proofs.Common.{◌≡◌, ℕ, Bool, true, false, not, cond, ◌&&◌, List, Option, None, filter, refl, sym, ◌∙◌, ap}
use Rattle.entity_model.specs.declared.event.Event.{Event}
use Rattle.entity_model.specs.Event.{event_cmp}
use Rattle.delivery.specs.declared.Delivery.{Delivery}
use Rattle.reorder_buffer.specs.declared.taken.Taken.TheVariants.{New, Repeat, Late}
use Rattle.reorder_buffer.specs.Watermarks.{reached, is_due, floor}
use Rattle.reorder_buffer.specs.Buffered.{answer_to}
use Rattle.sorted_sets.specs.Rising.{has}
use Rattle.sorted_sets.proofs.Bools.{and_none}
use Rattle.replay_model.specs.Acceptance.{mark, events, events_passing, is_repeat, is_late, is_accepted, accepted}
use Rattle.replay_model.specs.Fate.{in_order}
use Rattle.replay_model.specs.Play.{Replies, played}
use Rattle.replay_model.specs.ReplayState.{following}
use Rattle.replay_model.proofs.Floors.{above_not_below, has-kept}
use Rattle.replay_model.proofs.PlayedRecords.{records_of, records-played}

-- an event that the mark didn't reach isn't below the floor, so it is accepted as without one
accepted_alike : (hz : Option ℕ) (ds : List Delivery) (e : Event) → is_accepted hz ds e ≡ is_accepted None ds e
accepted_alike hz ds e = by (reached (mark ds) e.time) refl
  where
    by : (b : Bool) → reached (mark ds) e.time ≡ b → (not (is_repeat hz ds e) && not b) ≡ (not (is_repeat None ds e) && not b)
    by true h = and_none (not (is_repeat hz ds e)) ∙ sym (and_none (not (is_repeat None ds e)))
    by false h = ap (λ b. not (not b && has event_cmp e (events ds)) && true) (above_not_below hz (mark ds) e.time h)

pub accepted-alike : (hz : Option ℕ) (ds : List Delivery) → accepted hz ds ≡ accepted None ds
accepted-alike hz ds = λ i. events_passing (λ before e. accepted_alike hz before e i) ds

pub records-alike : (hz : Option ℕ) (closed : Bool) (replies : Replies) (ds : List Delivery) → (played hz closed replies ds).records ≡ (played None closed replies ds).records
records-alike hz closed replies ds =
    records-played hz closed replies ds
    ∙ ap (λ es. records_of replies (in_order (filter (is_due closed (mark ds)) es))) (accepted-alike hz ds)
    ∙ sym (records-played None closed replies ds)

-- what is no repeat and at or below the mark is late
pub answer_split : (hz : Option ℕ) (ds : List Delivery) (e : Event) → cond (is_repeat hz ds e) Repeat (cond (reached (mark ds) e.time) Late New) ≡ cond (is_repeat hz ds e) Repeat (cond (is_late hz ds e) Late New)
answer_split hz ds e = by (is_repeat hz ds e)
  where
    by : (b : Bool) → cond b Repeat (cond (reached (mark ds) e.time) Late New) ≡ cond b Repeat (cond (not b && reached (mark ds) e.time) Late New)
    by true = refl
    by false = refl

pub answer-following : (hz : Option ℕ) (replies : Replies) (ds : List Delivery) (e : Event) → answer_to (following hz replies ds).buffer e ≡ cond (is_repeat hz ds e) Repeat (cond (is_late hz ds e) Late New)
answer-following hz replies ds e =
    ap (λ b. cond b Repeat (cond (reached (mark ds) e.time) Late New)) (has-kept (floor hz (mark ds)) e (events ds))
    ∙ answer_split hz ds e
