-- What one more event or watermark adds to the accepted, late, due and known events.
use Rattle.std.proofs.Common.{◌≡◌, Bool, true, false, not, cond, ◌&&◌, ℤ, List, [], ◌∷◌, ◌++◌, None, Some, refl, ◌∙◌, ap, append-nil, fold, filter, option_and_then, Option, ℕ}
use Rattle.std.specs.List.{cons_option}
use Rattle.std.proofs.lemmas.List.Elements.{filter-append}
use Rattle.entity_model.specs.declared.event.Event.{Event}
use Rattle.delivery.specs.declared.Delivery.{Delivery}
use Rattle.delivery.specs.declared.Delivery.TheVariants.{Event as Told, Watermark}
use Rattle.reorder_buffer.specs.Watermarks.{greater, reached, is_due}
use Rattle.replay_model.specs.Acceptance.{event_of, watermark_of, events, mark, events_passing, is_repeat, is_accepted, accepted, due}
use Rattle.replay_model.proofs.Arrivals.{events-push, mark-push, events_passing-push}

-- a delivery that is no watermark leaves the mark
pub mark-kept : (ds : List Delivery) (d : Delivery) → watermark_of d ≡ None → mark (ds ++ d ∷ []) ≡ mark ds
mark-kept ds d e = mark-push ds d ∙ ap (λ o. fold greater (mark ds) (cons_option o [])) e

-- a delivery that tells no event leaves the events that pass a test
pub events_passing-kept : (test : List Delivery → Event → Bool) (ds : List Delivery) (d : Delivery) → event_of d ≡ None → events_passing test (ds ++ d ∷ []) ≡ events_passing test ds
events_passing-kept test ds d e =
    events_passing-push test ds d
    ∙ ap (λ o. events_passing test ds ++ cons_option (option_and_then (λ e. cond (test ds e) (Some e) None) o) []) e
    ∙ append-nil (events_passing test ds)

pub events-kept : (ds : List Delivery) (d : Delivery) → event_of d ≡ None → events (ds ++ d ∷ []) ≡ events ds
events-kept ds d e = events-push ds d ∙ ap (λ o. events ds ++ cons_option o []) e ∙ append-nil (events ds)

-- an event is one more of those that pass a test, if it does
pub events_passing-told : (test : List Delivery → Event → Bool) (ds : List Delivery) (e : Event) → events_passing test (ds ++ Told e ∷ []) ≡ events_passing test ds ++ cond (test ds e) (e ∷ []) []
events_passing-told test ds e = events_passing-push test ds (Told e) ∙ ap (λ l. events_passing test ds ++ l) (one (test ds e))
  where
    one : (b : Bool) → cons_option (cond b (Some e) None) [] ≡ cond b (e ∷ []) []
    one true = refl
    one false = refl

pub events-told : (ds : List Delivery) (e : Event) → events (ds ++ Told e ∷ []) ≡ events ds ++ e ∷ []
events-told ds e = events-push ds (Told e)

-- an event that is told now isn't due yet
pub due-told : (hz : Option ℕ) (ds : List Delivery) (e : Event) → due hz false (ds ++ Told e ∷ []) ≡ due hz false ds
due-told hz ds e =
    ap (λ m. filter (is_due false m) (accepted hz (ds ++ Told e ∷ []))) (mark-kept ds (Told e) refl)
    ∙ ap (filter (is_due false (mark ds))) (events_passing-told (is_accepted hz) ds e)
    ∙ filter-append (is_due false (mark ds)) (accepted hz ds) (cond (is_accepted hz ds e) (e ∷ []) [])
    ∙ ap (λ l. due hz false ds ++ l) (above (is_repeat hz ds e) (reached (mark ds) e.time) refl)
    ∙ append-nil (due hz false ds)
  where
    above : (a b : Bool) → reached (mark ds) e.time ≡ b → filter (is_due false (mark ds)) (cond (not a && not b) (e ∷ []) []) ≡ []
    above true b h = refl
    above false true h = refl
    above false false h = ap (λ t. cond t (e ∷ []) []) h

-- the mark after a watermark
pub mark-watermark : (ds : List Delivery) (w : ℤ) → mark (ds ++ Watermark w ∷ []) ≡ greater (mark ds) w
mark-watermark ds w = mark-push ds (Watermark w)

-- a delivery that is neither an event nor a watermark leaves what is due
pub due-kept : (hz : Option ℕ) (closed : Bool) (ds : List Delivery) (d : Delivery) → event_of d ≡ None → watermark_of d ≡ None → due hz closed (ds ++ d ∷ []) ≡ due hz closed ds
due-kept hz closed ds d no_event no_watermark = λ i. filter (is_due closed (mark-kept ds d no_watermark i)) (events_passing-kept (is_accepted hz) ds d no_event i)
