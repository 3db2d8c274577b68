-- What a watermark or the end makes due, in order, stands after what was due before, in order.
use Rattle.std.proofs.Common.{◌≡◌, Bool, true, false, not, ℤ, List, [], ◌∷◌, ◌++◌, Option, refl, ◌∙◌, ap, filter, ℕ}
use Rattle.entity_model.specs.declared.event.Event.{Event}
use Rattle.entity_model.specs.Event.{event_cmp_total, event_cmp_same}
use Rattle.delivery.specs.declared.Delivery.{Delivery}
use Rattle.delivery.specs.declared.Delivery.TheVariants.{Watermark}
use Rattle.reorder_buffer.specs.Watermarks.{is_due}
use Rattle.sorted_sets.proofs.Filtering.{sorted_parts, filter_stronger}
use Rattle.replay_model.specs.Acceptance.{mark, accepted, is_accepted, due}
use Rattle.replay_model.specs.Fate.{in_order}
use Rattle.replay_model.specs.Play.{newly_due}
use Rattle.replay_model.proofs.Times.{before_from_mark, due-greater}
use Rattle.replay_model.proofs.Deliveries.{mark-watermark, events_passing-kept}

-- what a later mark makes due, in two parts by an earlier mark
due_by_marks : (c : Bool) (m m' : Option ℤ) → ((e : Event) → is_due false m e ≡ true → is_due c m' e ≡ true) → (es : List Event)
    → in_order (filter (is_due c m') es) ≡ in_order (filter (is_due false m) es) ++ in_order (filter (λ e. not (is_due false m e)) (filter (is_due c m') es))
due_by_marks c m m' later es =
    sorted_parts event_cmp_total event_cmp_same (is_due false m) (before_from_mark m) (filter (is_due c m') es)
    ∙ ap (λ l. in_order l ++ in_order (filter (λ e. not (is_due false m e)) (filter (is_due c m') es))) (filter_stronger (is_due false m) (is_due c m') later es)

-- after a watermark
pub due-watermark : (hz : Option ℕ) (ds : List Delivery) (w : ℤ) → in_order (due hz false (ds ++ Watermark w ∷ [])) ≡ in_order (due hz false ds) ++ newly_due hz ds false (ds ++ Watermark w ∷ [])
due-watermark hz ds w =
    due_by_marks false (mark ds) (mark (ds ++ Watermark w ∷ [])) (λ e h. ap (λ m. is_due false m e) (mark-watermark ds w) ∙ due-greater (mark ds) w e h) (accepted hz (ds ++ Watermark w ∷ []))
    ∙ ap (λ l. in_order (filter (is_due false (mark ds)) l) ++ newly_due hz ds false (ds ++ Watermark w ∷ [])) (events_passing-kept (is_accepted hz) ds (Watermark w) refl)

-- after the end
pub due-end : (hz : Option ℕ) (ds : List Delivery) → in_order (due hz true ds) ≡ in_order (due hz false ds) ++ newly_due hz ds true ds
due-end hz ds = due_by_marks true (mark ds) (mark ds) (λ e h. refl) (accepted hz ds)
