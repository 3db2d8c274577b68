-- What the application of an event takes from the replies: one reply at most, and the events that it names as failed.
use Rattle.std.proofs.Common.{◌≡◌, ℕ, Bool, true, false, cond, List, [], ◌∷◌, ◌++◌, Option, None, Some, Result, Ok, Err, refl, sym, ◌∙◌, ap, append-nil}
use Rattle.std.specs.FinMap as map
use Rattle.std.specs.Ordering.{eq_by_cmp}
use Rattle.std.proofs.lemmas.List.Elements.{filter_map-append}
use Rattle.entity_model.specs.declared.id.EntityId.{EntityId}
use Rattle.entity_model.specs.declared.event.Event.{Event}
use Rattle.entity_model.specs.declared.unfit.Unfit.{Unfit}
use Rattle.entity_model.specs.Event.{event_cmp}
use Rattle.entity_state.specs.State.{state_after, is_deleted}
use Rattle.entity_state.specs.declared.entry.Cause.{Cause}
use Rattle.entity_state.specs.declared.entry.Cause.TheVariants.{Missing, Failed, Unfit as NoDocument}
use Rattle.reorder_buffer.specs.declared.taken.Taken.{Taken}
use Rattle.reorder_buffer.specs.declared.taken.Taken.TheVariants.{New, Repeat, Late}
use Rattle.entity_state.specs.declared.entry.Entry.{Entry}
use Rattle.sorted_sets.specs.Rising.{has}
use Rattle.sorted_sets.proofs.Bools.{or_none}
use Rattle.replay_model.specs.Records.{Bytes, record_of}
use Rattle.replay_model.specs.Play.{Replies, Played, held_after_fetch, entry_of, entries_after}
use Rattle.entity_state.specs.Standing.{reconciled_after}
use Rattle.replay_model.specs.Replies.{Judgement, judged, reply_there, failed_event, failed_events, missing_event, missing_events}
use Rattle.replay_model.specs.ReplayState.{ReplayState, taken_entries, after_applying}
use Rattle.replay_model.specs.Explained.{revision_wanted, is_fetching}

-- what is played after an event, if it fetches, with this reply
abbrev applied_with : ReplayState → Event → Bool → Result Bytes Cause → Played
applied_with w e fetching reply =
    let r = record_of w.played.records e.entity in
    let s = state_after r.state e in
    record {
      records = map.insert w.played.records e.entity (record {
        state = s;
        held = cond fetching (held_after_fetch s.rev reply r.held) (cond (is_deleted s.mode) None r.held);
        reconciled = reconciled_after r.reconciled e;
      });
      side = w.played.side ++ cond fetching (entry_of e s.rev reply) [];
    }

-- replies that agree where a fetch is made apply the event alike
pub apply-same : (some others : Replies) (w : ReplayState) (e : Event) → (is_fetching w e ≡ true → others e (revision_wanted w e) ≡ some e (revision_wanted w e)) → after_applying some w (Some e) ≡ after_applying others w (Some e)
apply-same some others w e same = ap (λ p. record { buffer = (after_applying some w (Some e)).buffer; played = p }) (by (is_fetching w e) same)
  where
    by : (fetching : Bool) → (fetching ≡ true → others e (revision_wanted w e) ≡ some e (revision_wanted w e)) → applied_with w e fetching (some e (revision_wanted w e)) ≡ applied_with w e fetching (others e (revision_wanted w e))
    by true same = ap (applied_with w e true) (sym (same refl))
    by false same = refl

-- ---- the failed events

-- the event, if its fetch failed
abbrev pub failed_of : Event → Result Bytes Cause → List Event
failed_of e (Ok bytes) = []
failed_of e (Err Missing) = []
failed_of e (Err Failed) = e ∷ []
failed_of e (Err (NoDocument unfit)) = []

failed-entry_of : (e : Event) (r : ℕ) (reply : Result Bytes Cause) → failed_events (entry_of e r reply) ≡ failed_of e reply
failed-entry_of e r (Ok bytes) = refl
failed-entry_of e r (Err Missing) = refl
failed-entry_of e r (Err Failed) = refl
failed-entry_of e r (Err (NoDocument unfit)) = refl

-- the event, if it was fetched for and the fetch failed
abbrev pub failed_by : Bool → Event → Result Bytes Cause → List Event
failed_by fetching e reply = cond fetching (failed_of e reply) []

pub failed-applying : (replies : Replies) (w : ReplayState) (e : Event) → failed_events (after_applying replies w (Some e)).played.side ≡ failed_events w.played.side ++ failed_by (is_fetching w e) e (replies e (revision_wanted w e))
failed-applying replies w e = filter_map-append failed_event w.played.side (entries_after replies e (record_of w.played.records e.entity)) ∙ ap (λ l. failed_events w.played.side ++ l) (by (is_fetching w e))
  where
    by : (fetching : Bool) → failed_events (cond fetching (entry_of e (revision_wanted w e) (replies e (revision_wanted w e))) []) ≡ failed_by fetching e (replies e (revision_wanted w e))
    by true = failed-entry_of e (revision_wanted w e) (replies e (revision_wanted w e))
    by false = refl

-- only the event itself
pub has-failed_by : (q e : Event) (fetching : Bool) (reply : Result Bytes Cause) → eq_by_cmp event_cmp q e ≡ false → has event_cmp q (failed_by fetching e reply) ≡ false
has-failed_by q e false reply other = refl
has-failed_by q e true (Ok bytes) other = refl
has-failed_by q e true (Err Missing) other = refl
has-failed_by q e true (Err Failed) other = or_none (eq_by_cmp event_cmp q e) ∙ other
has-failed_by q e true (Err (NoDocument unfit)) other = refl

-- what is there is no failure
pub failed_of-there : (unfit : Judgement) (e : Event) (there : Option Bytes) → failed_of e (reply_there unfit e.entity there) ≡ []
failed_of-there unfit e None = refl
failed_of-there unfit e (Some bytes) = by (unfit e.entity bytes)
  where
    by : (u : Option Unfit) → failed_of e (judged u bytes) ≡ []
    by None = refl
    by (Some u) = refl

-- taking an event names none as failed
pub failed-taken : (side : List Entry) (answer : Taken) (e : Event) → failed_events (side ++ taken_entries answer e) ≡ failed_events side
failed-taken side New e = ap failed_events (append-nil side)
failed-taken side Repeat e = ap failed_events (append-nil side)
failed-taken side Late e = filter_map-append failed_event side (taken_entries Late e) ∙ append-nil (failed_events side)

-- ---- the events whose revision is missing

-- the event, if nothing was there for it
abbrev pub missing_of : Event → Result Bytes Cause → List Event
missing_of e (Ok bytes) = []
missing_of e (Err Missing) = e ∷ []
missing_of e (Err Failed) = []
missing_of e (Err (NoDocument unfit)) = []

missing-entry_of : (e : Event) (r : ℕ) (reply : Result Bytes Cause) → missing_events (entry_of e r reply) ≡ missing_of e reply
missing-entry_of e r (Ok bytes) = refl
missing-entry_of e r (Err Missing) = refl
missing-entry_of e r (Err Failed) = refl
missing-entry_of e r (Err (NoDocument unfit)) = refl

pub missing-applying : (replies : Replies) (w : ReplayState) (e : Event) → missing_events (after_applying replies w (Some e)).played.side ≡ missing_events w.played.side ++ cond (is_fetching w e) (missing_of e (replies e (revision_wanted w e))) []
missing-applying replies w e = filter_map-append missing_event w.played.side (entries_after replies e (record_of w.played.records e.entity)) ∙ ap (λ l. missing_events w.played.side ++ l) (by (is_fetching w e))
  where
    by : (fetching : Bool) → missing_events (cond fetching (entry_of e (revision_wanted w e) (replies e (revision_wanted w e))) []) ≡ cond fetching (missing_of e (replies e (revision_wanted w e))) []
    by true = missing-entry_of e (revision_wanted w e) (replies e (revision_wanted w e))
    by false = refl

pub missing-taken : (side : List Entry) (answer : Taken) (e : Event) → missing_events (side ++ taken_entries answer e) ≡ missing_events side
missing-taken side New e = ap missing_events (append-nil side)
missing-taken side Repeat e = ap missing_events (append-nil side)
missing-taken side Late e = filter_map-append missing_event side (taken_entries Late e) ∙ append-nil (missing_events side)

-- ---- what is there, as a reply

pub there-document : (unfit : Judgement) (x : EntityId) (bytes : Bytes) (there : Option Bytes) → unfit x bytes ≡ None → there ≡ Some bytes → Ok bytes ≡ reply_there unfit x there
there-document unfit x bytes there document is = sym (ap (reply_there unfit x) is ∙ ap (λ why. judged why bytes) document)

pub there-unfit : (unfit : Judgement) (x : EntityId) (bytes : Bytes) (why : Unfit) (there : Option Bytes) → unfit x bytes ≡ Some why → there ≡ Some bytes → Err (NoDocument why) ≡ reply_there unfit x there
there-unfit unfit x bytes why there is_unfit is = sym (ap (reply_there unfit x) is ∙ ap (λ why. judged why bytes) is_unfit)

pub there-nothing : (unfit : Judgement) (x : EntityId) (there : Option Bytes) → there ≡ None → Err Missing ≡ reply_there unfit x there
there-nothing unfit x there is = sym (ap (reply_there unfit x) is)
