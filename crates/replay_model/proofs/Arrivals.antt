-- What one more delivery at the end adds to the deliveries' arrivals, events, mark and play.
use Rattle.std.proofs.Common.{◌≡◌, Bool, List, [], ◌∷◌, ◌++◌, None, sym, ◌∙◌, ap, append_assoc, append-nil, fold, filter_map, flat_map, Option, ℕ}
use Rattle.std.specs.List.{cons_option}
use Rattle.std.proofs.lemmas.List.Elements.{filter_map-append}
use Rattle.std.proofs.lemmas.List.Concat.{flat_map-append}
use Rattle.std.proofs.lemmas.List.Sums.{fold-append, fold_push}
use Rattle.entity_model.specs.declared.event.Event.{Event}
use Rattle.delivery.specs.declared.Delivery.{Delivery}
use Rattle.reorder_buffer.specs.Watermarks.{greater}
use Rattle.replay_model.specs.Acceptance.{Arrival, arrivals_after, arrivals, event_of, watermark_of, events, mark, event_passing, events_passing}
use Rattle.replay_model.specs.Play.{Replies, Played, nothing_played, happens, play, fetches_at, fetches}

arrivals_after-push : (before ds : List Delivery) (d : Delivery) → arrivals_after before (ds ++ d ∷ []) ≡ arrivals_after before ds ++ record { before = before ++ ds; delivery = d } ∷ []
arrivals_after-push before [] d = ap (λ l. record { before = l; delivery = d } ∷ []) (sym (append-nil before))
arrivals_after-push before (e ∷ ds) d =
    ap (λ l. record { before = before; delivery = e } ∷ l)
    (arrivals_after-push (before ++ e ∷ []) ds d
    ∙ ap (λ l. arrivals_after (before ++ e ∷ []) ds ++ record { before = l; delivery = d } ∷ []) (append_assoc before (e ∷ []) ds))

pub arrivals-push : (ds : List Delivery) (d : Delivery) → arrivals (ds ++ d ∷ []) ≡ arrivals ds ++ record { before = ds; delivery = d } ∷ []
arrivals-push ds d = arrivals_after-push [] ds d

pub events-push : (ds : List Delivery) (d : Delivery) → events (ds ++ d ∷ []) ≡ events ds ++ cons_option (event_of d) []
events-push ds d = filter_map-append event_of ds (d ∷ [])

pub mark-push : (ds : List Delivery) (d : Delivery) → mark (ds ++ d ∷ []) ≡ fold greater (mark ds) (cons_option (watermark_of d) [])
mark-push ds d = ap (fold greater None) (filter_map-append watermark_of ds (d ∷ [])) ∙ fold-append greater None (filter_map watermark_of ds) (cons_option (watermark_of d) [])

pub events_passing-push : (test : List Delivery → Event → Bool) (ds : List Delivery) (d : Delivery) → events_passing test (ds ++ d ∷ []) ≡ events_passing test ds ++ cons_option (event_passing test (record { before = ds; delivery = d })) []
events_passing-push test ds d = ap (filter_map (event_passing test)) (arrivals-push ds d) ∙ filter_map-append (event_passing test) (arrivals ds) (record { before = ds; delivery = d } ∷ [])

pub play-push : (hz : Option ℕ) (replies : Replies) (ds : List Delivery) (d : Delivery) → play hz replies (ds ++ d ∷ []) ≡ happens hz replies ds d (play hz replies ds)
play-push hz replies ds d =
    ap (fold (λ (p : Played) (a : Arrival). happens hz replies a.before a.delivery p) nothing_played) (arrivals-push ds d)
    ∙ fold_push (λ (p : Played) (a : Arrival). happens hz replies a.before a.delivery p) nothing_played (arrivals ds) (record { before = ds; delivery = d })

pub fetches-push : (hz : Option ℕ) (replies : Replies) (ds : List Delivery) (d : Delivery) → fetches hz replies (ds ++ d ∷ []) ≡ fetches hz replies ds ++ fetches_at hz replies (record { before = ds; delivery = d })
fetches-push hz replies ds d =
    ap (flat_map (fetches_at hz replies)) (arrivals-push ds d)
    ∙ flat_map-append (fetches_at hz replies) (arrivals ds) (record { before = ds; delivery = d } ∷ [])
    ∙ ap (λ l. fetches hz replies ds ++ l) (append-nil (fetches_at hz replies (record { before = ds; delivery = d })))
