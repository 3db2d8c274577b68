-- The late entries of a replay are the late events, in the order of their first deliveries.
use Rattle.std.proofs.Common.{◌≡◌, Bool, true, false, cond, List, [], ◌∷◌, ◌++◌, Result, Ok, Err, filter_map, refl, sym, ◌∙◌, ap, append-nil, Option, ℕ}
use Rattle.std.proofs.lemmas.List.Elements.{filter_map-append}
use Rattle.entity_model.specs.declared.event.Event.{Event}
use Rattle.entity_state.specs.declared.record.Record.{Record}
use Rattle.entity_state.specs.State.{state_after}
use Rattle.entity_state.specs.Record.{held_revision, wants}
use Rattle.entity_state.specs.declared.entry.Cause.{Cause}
use Rattle.entity_state.specs.declared.entry.Entry.{Entry}
use Rattle.entity_state.specs.declared.entry.Entry.TheVariants.{Late}
use Rattle.delivery.specs.declared.Delivery.{Delivery}
use Rattle.delivery.specs.declared.Delivery.TheVariants.{Event as Told, Watermark, Ask, Mapping, Match}
use Rattle.sorted_sets.proofs.Pushes.{by_pushes}
use Rattle.replay_model.specs.Acceptance.{is_late, late}
use Rattle.replay_model.specs.Records.{Bytes, record_of}
use Rattle.replay_model.specs.Play.{Replies, Played, entry_of, entries_after, apply, apply_all, newly_due, happens, play, played}
use Rattle.replay_model.specs.Entries.{late_event, late_events}
use Rattle.replay_model.proofs.Arrivals.{play-push}
use Rattle.replay_model.proofs.Deliveries.{events_passing-told, events_passing-kept}

late-entry_of : (e : Event) (r : _) (reply : Result Bytes Cause) → filter_map late_event (entry_of e r reply) ≡ []
late-entry_of e r (Ok bytes) = refl
late-entry_of e r (Err cause) = refl

-- applying an event makes no late entry
pub late-entries_after : (replies : Replies) (e : Event) (r : Record Bytes) → late_events (entries_after replies e r) ≡ []
late-entries_after replies e r = only (wants (state_after r.state e) (held_revision r.held))
  where
    only : (b : Bool) → late_events (cond b (entry_of e (state_after r.state e).rev (replies e (state_after r.state e).rev)) []) ≡ []
    only true = late-entry_of e (state_after r.state e).rev (replies e (state_after r.state e).rev)
    only false = refl

pub late-append : (side more : List Entry) → late_events more ≡ [] → late_events (side ++ more) ≡ late_events side
late-append side more h = filter_map-append late_event side more ∙ ap (λ l. late_events side ++ l) h ∙ append-nil (late_events side)

pub late-apply_all : (replies : Replies) (p : Played) (es : List Event) → late_events (apply_all replies p es).side ≡ late_events p.side
late-apply_all replies p [] = refl
late-apply_all replies p (e ∷ es) =
    late-apply_all replies (apply replies p e) es
    ∙ late-append p.side (entries_after replies e (record_of p.records e.entity)) (late-entries_after replies e (record_of p.records e.entity))

late-happens : (hz : Option ℕ) (replies : Replies) (ds : List Delivery) (d : Delivery) (p : Played) → late_events p.side ≡ late hz ds → late_events (happens hz replies ds d p).side ≡ late hz (ds ++ d ∷ [])
late-happens hz replies ds (Told e) p before =
    filter_map-append late_event p.side (cond (is_late hz ds e) (Late e ∷ []) [])
    ∙ ap (λ l. l ++ late_events (cond (is_late hz ds e) (Late e ∷ []) [])) before
    ∙ ap (λ l. late hz ds ++ l) (one (is_late hz ds e))
    ∙ sym (events_passing-told (is_late hz) ds e)
  where
    one : (b : Bool) → late_events (cond b (Late e ∷ []) []) ≡ cond b (e ∷ []) []
    one true = refl
    one false = refl
late-happens hz replies ds (Ask q) p before = before ∙ sym (events_passing-kept (is_late hz) ds (Ask q) refl)
late-happens hz replies ds (Mapping v) p before = before ∙ sym (events_passing-kept (is_late hz) ds (Mapping v) refl)
late-happens hz replies ds (Match q) p before = before ∙ sym (events_passing-kept (is_late hz) ds (Match q) refl)
late-happens hz replies ds (Watermark w) p before = late-apply_all replies p (newly_due hz ds false (ds ++ Watermark w ∷ [])) ∙ before ∙ sym (events_passing-kept (is_late hz) ds (Watermark w) refl)

late-play : (hz : Option ℕ) (replies : Replies) (ds : List Delivery) → late_events (play hz replies ds).side ≡ late hz ds
late-play hz replies = by_pushes (λ ds. late_events (play hz replies ds).side ≡ late hz ds) refl
    (λ ds d before. ap (λ (p : Played). late_events p.side) (play-push hz replies ds d) ∙ late-happens hz replies ds d (play hz replies ds) before)

pub late-played : (hz : Option ℕ) (closed : Bool) (replies : Replies) (ds : List Delivery) → late_events (played hz closed replies ds).side ≡ late hz ds
late-played hz false replies ds = late-play hz replies ds
late-played hz true replies ds = late-apply_all replies (play hz replies ds) (newly_due hz ds true ds) ∙ late-play hz replies ds
