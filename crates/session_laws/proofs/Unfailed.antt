-- The side output grows, and if no fetch of a run fails, it names no other failed fetches than before.
use Rattle.std.proofs.Common.{◌≡◌, ◌∙◌, ap, ℕ, zero, suc, ◌+◌, ◌-◌, ◌^◌, ◌<◌, Bool, true, false, List, [], ◌∷◌, ◌++◌, append-nil, length, length-append, Option, None, Some, refl, arith}
use Rattle.std.proofs.lemmas.List.Elements.{filter_map-append}
use Rattle.delivery.specs.declared.Delivery.{Delivery}
use Rattle.delivery.specs.declared.Delivery.TheVariants.{Event as Told, Watermark, Ask, Mapping, Match}
use Rattle.entity_model.specs.declared.event.Event.{Event}
use Rattle.reorder_buffer.specs.Buffered.{answer_to, first_due}
use Rattle.entity_state.specs.declared.entry.Entry.{Entry}
use Rattle.replay_model.specs.{Play.Played, Play.Replies, Play.apply, Play.apply_all, Play.entries_after, Records.record_of}
use Rattle.replay_model.specs.Replies.{failed_event, failed_events}
use Rattle.replay_model.specs.ReplayState.{ReplayState, after_applying, after_due, after_end, after_mark, after_some, delivered, due_now, taken_entries}
use Rattle.replay_parts.specs.Checkpoint.{Checkpoint, advanced}
use Rattle.graph_routes.specs.declared.routes.Route.{Route}
use Rattle.run_model.specs.{Course.course_ended, Course.led_to, Course.state_along, Moment.Beginning, Moment.RoseBy, Moment.standing}
use Rattle.run_model.specs.Taking.{entered_if_any}
use Rattle.session_laws.proofs.Fronts.{IsFront, front_all, front_on, front_with}

-- ---- the side output grows

module _ (replies : Replies) where
  applied : (p : Played) (es : List Event) → IsFront p.side (apply_all replies p es).side
  applied p [] = front_all p.side
  applied p (e ∷ es) = front_on p.side (apply replies p e).side (apply_all replies (apply replies p e) es).side (front_with p.side (entries_after replies e (record_of p.records e.entity))) (applied (apply replies p e) es)

  due : (w : ReplayState) → IsFront w.played.side (after_due replies w).played.side
  due w = applied w.played (due_now w.buffer)

  one_more : (w : ReplayState) (d : Delivery) → IsFront w.played.side (delivered replies w d).played.side
  one_more w (Told e) = front_with w.played.side (taken_entries (answer_to w.buffer e) e)
  one_more w (Watermark m) = due (after_mark w m)
  one_more w (Ask q) = front_all w.played.side
  one_more w (Mapping v) = front_all w.played.side
  one_more w (Match q) = front_all w.played.side

  pub side-along : (c : Checkpoint) (ds : List Delivery) → IsFront c.state.played.side (state_along replies c ds).played.side
  side-along c [] = front_all c.state.played.side
  side-along c (d ∷ ds) = front_on c.state.played.side (delivered replies c.state d).played.side (state_along replies (advanced replies c d) ds).played.side (one_more c.state d) (side-along (advanced replies c d) ds)

  next : (w : ReplayState) (o : Option Event) → IsFront w.played.side (after_applying replies w o).played.side
  next w None = front_all w.played.side
  next w (Some e) = front_with w.played.side (entries_after replies e (record_of w.played.records e.entity))

  pub side-some : (n : ℕ) (w : ReplayState) → IsFront w.played.side (after_some replies n w).played.side
  side-some zero w = front_all w.played.side
  side-some (suc n) w = front_on w.played.side (after_some replies n w).played.side (after_some replies (suc n) w).played.side (side-some n w) (next (after_some replies n w) (first_due (after_some replies n w).buffer))

  pub side-entered : (w : ReplayState) (o : Option Delivery) → IsFront w.played.side (entered_if_any w o).played.side
  side-entered w None = front_all w.played.side
  side-entered w (Some (Told e)) = front_with w.played.side (taken_entries (answer_to w.buffer e) e)
  side-entered w (Some (Watermark m)) = front_all w.played.side
  side-entered w (Some (Ask q)) = front_all w.played.side
  side-entered w (Some (Mapping v)) = front_all w.played.side
  side-entered w (Some (Match q)) = front_all w.played.side

  pub side-ended : (routes : Option (List Route)) (closed : Bool) (ds : List Delivery) (start : Beginning) → IsFront start.world.played.side ((course_ended routes closed ds start).state replies).played.side
  side-ended routes false ds start = side-along (standing start) ds
  side-ended routes true ds start = front_on start.world.played.side (led_to ds start replies).played.side ((course_ended routes true ds start).state replies).played.side (side-along (standing start) ds) (due (after_end (led_to ds start replies)))

-- ---- no fetch failed

no_more : {A : Type 0} (xs : List A) → length xs ≡ 0 → xs ≡ []
no_more [] none = refl
no_more (x ∷ xs) none = absurd (omega (arith, none))

-- the side output names no other failed fetches if the counter of failures stayed the same
pub none_more : (before side : List Entry) (faults faults_now : ℕ) → IsFront before side → RoseBy (length (failed_events side)) faults (length (failed_events before) + faults_now) → faults_now ≡ faults →
    length (failed_events before) + faults_now < 2 ^ 64 - 1 → failed_events side ≡ failed_events before
none_more before side faults faults_now front rose same below =
    let all : failed_events side ≡ failed_events before ++ failed_events front.rest = ap failed_events front.is ∙ filter_map-append failed_event before front.rest in
    let many = rose below in
    let none : length (failed_events front.rest) ≡ 0 = omega (arith, many, same, ap length all, length-append (failed_events before) (failed_events front.rest)) in
    all ∙ ap (λ l. failed_events before ++ l) (no_more (failed_events front.rest) none) ∙ append-nil (failed_events before)
