-- A world that took the head, or an event, may take more lines.
use Rattle.std.proofs.Common.{◌≡◌, ℕ, ℤ, Bool, true, false, ◌||◌, filter, List, [], ◌∷◌, ◌++◌, length, Option, None, Result, Ok, Err, refl, sym, ◌∙◌, ap, subst, arith}
use Rattle.std.specs.FinMap as map
use Rattle.std.specs.{Ordering.eq_by_cmp, Result.OnOk}
use Rattle.std.proofs.{lemmas.List.length-map, lemmas.List.Elements.filter_map-append}
use Rattle.sorted_sets.specs.Rising.{has}
use Rattle.sorted_sets.proofs.{Bools.equal, Rising.has-append}
use Rattle.entity_model.specs.{Event.event_cmp, Event.event_cmp_same, declared.id.EntityId.EntityId, declared.event.Event.Event}
use Rattle.entity_model.specs.declared.mapping.MappingVersion.{MappingVersion}
use Rattle.entity_model.specs.declared.mapping.MappingVersion.TheVariants.{One, Two}
use Rattle.entity_state.specs.declared.record.Record.{Record}
use Rattle.entity_state.specs.declared.entry.Cause.TheVariants.{Missing, Failed, Unfit}
use Rattle.entity_state.specs.{declared.entry.Entry.Entry, declared.entry.Entry.TheVariants.Late, declared.entry.Entry.TheVariants.Revision}
use Rattle.reorder_buffer.specs.{Watermarks.reached, Buffered.after_taking}
use Rattle.replay_model.specs.{Records.Bytes, Replies.failed_event, Replies.failed_events, Play.nothing_played}
use Rattle.replay_model.specs.ReplayState.{ReplayState, nothing_delivered}
use Rattle.replay_model.specs.Versions.{all_by, is_holder, meaning_by}
use Rattle.world.specs.{Limit.HasRoomBy, Limit.Limit, Limit.stored_by, Restoring.MayStand, Restoring.restored, WorldState.WorldState}
use Rattle.holders.proofs.Rooming.{nothing_held}
use Rattle.world.proofs.PuttingIn.{documents_put, no_documents}
use Rattle.fetched_pages.specs.Meaning.{meaning}
use Rattle.snapshot.specs.{declared.line.Head.Head, Whole.beginning, Whole.noting, declared.counts.Counts.Counts}
use Rattle.checkpoint.specs.declared.stage.Stage.TheVariants.{Unbegun, Begun}
use Rattle.checkpoint.specs.Loading.{HasReachedFailed, HoldsDocuments, IsReady, IsResting, may_note}
use Rattle.checkpoint.specs.Saved.{AreWithin}
use Rattle.world_snapshots.proofs.Rests.{mark-taking, rests-empty, rests-taking}

no_entries : {A : Type 0} (es : List A) → length es ≡ 0 → es ≡ []
no_entries [] e = refl
no_entries (x ∷ es) e = absurd (omega arith)

-- without records nobody holds a page
all_by-empty : (v : MappingVersion) → all_by v nothing_played.records ≡ []
all_by-empty One = refl
all_by-empty Two =
    let none : length (map.keys nothing_played.records) ≡ 0 = length-map (map.entries nothing_played.records) (λ e. e.0) ∙ sym (map.len-entries nothing_played.records) ∙ map.len-empty _ _ in
    ap (λ (ids : List EntityId). filter (is_holder nothing_played.records) ids) (no_entries _ none)

-- what follows from two facts on a call that ended with Ok
pub on_ok_both : {T E P Q R : Type 0} (r : Result T E) → OnOk r P → OnOk r Q → (P → Q → R) → OnOk r R
on_ok_both (Ok x) first second then = then first second
on_ok_both (Err e) first second then = tt

-- ---- a new world

pub new_ready : (room : Limit) → IsReady (record { replay = nothing_delivered; limit = room; mapping = One; by_two = [] }) Unbegun 0
new_ready room = record {
  fresh = (refl, refl);
  by_one = sym (all_by-empty One);
  resting = rests-empty None None;
  failed = λ e there. cc;
  documents = no_documents;
  held = nothing_held (stored_by room.lean (meaning_by meaning []) nothing_played.records) nothing_played.records room.terms (map.len-empty _ _);
  within = tt;
}

-- ---- the head

abbrev pub with_head : WorldState → Head → WorldState
with_head w h = record w { replay = (beginning h).state; mapping = h.mapping }

pub head_ready : (old new : WorldState) (n number : ℕ) (h : Head) (counts : Counts) → IsReady old Unbegun n → new ≡ with_head old h → AreWithin counts → IsReady new (Begun counts) number
head_ready old new n number h counts ready is within = subst (λ (w : WorldState). IsReady w (Begun counts) number) (sym is) (record {
  fresh = tt;
  by_one = ready.by_one ∙ ap (λ (r : ReplayState). all_by old.mapping r.played.records) ready.fresh.0 ∙ all_by-empty old.mapping ∙ sym (all_by-empty h.mapping);
  resting = rests-empty h.horizon h.mark;
  failed = λ e there. cc;
  documents = no_documents;
  held = nothing_held (stored_by old.limit.lean (meaning_by meaning old.by_two) nothing_played.records) nothing_played.records old.limit.terms (map.len-empty _ _);
  within = within;
})

-- ---- an event

abbrev pub with_event : WorldState → Event → WorldState
with_event w e = record w { replay = record w.replay { buffer = after_taking w.replay.buffer e } }

pub event_ready : (old new : WorldState) (counts : Counts) (n number : ℕ) (e : Event) → IsReady old (Begun counts) n → new ≡ with_event old e → IsReady new (Begun counts) number
event_ready old new counts n number e ready is = subst (λ (w : WorldState). IsReady w (Begun counts) number) (sym is) (record {
  fresh = tt;
  by_one = ready.by_one;
  resting = rests-taking old.replay.buffer e ready.resting;
  failed = λ q there. ap (λ m. reached m q.time) (mark-taking old.replay.buffer e) ∙ ready.failed q there;
  documents = ready.documents;
  held = ready.held;
  within = ready.within;
})

-- ---- an entry of the side output

-- an entry that may stand beside the mark names no failed event that the mark hasn't reached
may_note_reached : (mark : Option ℤ) (entry : Entry) → may_note mark entry ≡ true → HasReachedFailed mark (entry ∷ [])
may_note_reached mark (Late e) may q there = cc
may_note_reached mark (Revision e r Missing) may q there = cc
may_note_reached mark (Revision e r (Unfit why)) may q there = cc
may_note_reached mark (Revision e r Failed) may q there = by (eq_by_cmp event_cmp q e) refl there
  where
    by : (t : Bool) → eq_by_cmp event_cmp q e ≡ t → (t || false) ≡ true → reached mark q.time ≡ true
    by true tie there = ap (λ (x : Event). reached mark x.time) (event_cmp_same q e (equal _ tie)) ∙ may
    by false other there = cc

reached_both : (mark : Option ℤ) (side : List Entry) (entry : Entry) → HasReachedFailed mark side → HasReachedFailed mark (entry ∷ []) → HasReachedFailed mark (side ++ entry ∷ [])
reached_both mark side entry before one q there =
    by (has event_cmp q (failed_events side)) refl
    (sym (has-append event_cmp q (failed_events side) (failed_events (entry ∷ []))) ∙ ap (has event_cmp q) (sym (filter_map-append failed_event side (entry ∷ []))) ∙ there)
  where
    by : (t : Bool) → has event_cmp q (failed_events side) ≡ t → (t || has event_cmp q (failed_events (entry ∷ []))) ≡ true → reached mark q.time ≡ true
    by true among there = before q among
    by false other there = one q there

abbrev pub with_entry : WorldState → Entry → WorldState
with_entry w entry = record w { replay = noting w.replay entry }

pub entry_ready : (old new : WorldState) (counts : Counts) (n number : ℕ) (entry : Entry) → IsReady old (Begun counts) n → may_note old.replay.buffer.mark entry ≡ true → new ≡ with_entry old entry
    → IsReady new (Begun counts) number
entry_ready old new counts n number entry ready may is = subst (λ (w : WorldState). IsReady w (Begun counts) number) (sym is) (record {
  fresh = tt;
  by_one = ready.by_one;
  resting = ready.resting;
  failed = reached_both old.replay.buffer.mark old.replay.played.side entry ready.failed (may_note_reached old.replay.buffer.mark entry may);
  documents = ready.documents;
  held = ready.held;
  within = ready.within;
})

-- ---- the record of an entity

pub record_ready : (old new : WorldState) (counts : Counts) (n number : ℕ) (x : EntityId) (r : Record Bytes) → IsReady old (Begun counts) n → MayStand old.replay.played.side x r
    → new ≡ restored old x r → new.by_two ≡ all_by new.mapping new.replay.played.records → HasRoomBy new.limit (meaning_by meaning new.by_two) new.replay.played.records → IsReady new (Begun counts) number
record_ready old new counts n number x r ready may is by_one held = record {
  fresh = tt;
  by_one = by_one;
  resting = subst (λ (w : WorldState). IsResting w.replay.buffer) (sym is) ready.resting;
  failed = subst (λ (w : WorldState). HasReachedFailed w.replay.buffer.mark w.replay.played.side) (sym is) ready.failed;
  documents = subst (λ (w : WorldState). HoldsDocuments w.replay.played.records) (sym is) (documents_put old.replay.played.records x r ready.documents may.document);
  held = held;
  within = ready.within;
}
