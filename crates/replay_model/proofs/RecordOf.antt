-- The record of an entity is what its own due events leave, applied in order; its state is their fate.
use Rattle.std.proofs.Common.{◌≡◌, Bool, true, false, cond, List, [], ◌∷◌, Option, Some, fold, refl, sym, ◌∙◌, ap, unwrap_or, ℕ}
use Rattle.std.specs.FinMap as map
use Rattle.entity_model.specs.declared.id.EntityId.{EntityId}
use Rattle.entity_model.specs.declared.event.Event.{Event}
use Rattle.entity_model.specs.EntityId.{entity_cmp, entity_cmp_total, entity_cmp_same}
use Rattle.entity_model.specs.Event.{event_cmp_total, event_cmp_same}
use Rattle.entity_state.specs.declared.record.Record.{Record}
use Rattle.entity_state.specs.State.{state_after}
use Rattle.entity_state.specs.Record.{blank}
use Rattle.delivery.specs.declared.Delivery.{Delivery}
use Rattle.sorted_sets.proofs.Bools.{equal}
use Rattle.sorted_sets.proofs.Filtering.{sorted-filter}
use Rattle.replay_model.specs.Acceptance.{due}
use Rattle.replay_model.specs.Fate.{is_of, events_of, in_order, fate}
use Rattle.replay_model.specs.Records.{Bytes, Records, record_of}
use Rattle.replay_model.specs.Play.{Replies, record_after, records_after, played}
use Rattle.entity_state.specs.Standing.{reconciled_after}
use Rattle.replay_model.proofs.PlayedRecords.{records_of, records-played}

-- an event of the entity x names x
pub entity_of : (x : EntityId) (e : Event) → is_of x e ≡ true → x ≡ e.entity
entity_of x e h = entity_cmp_same x e.entity (equal _ h)

-- the events are applied to the record of their entity, one after the other
abbrev pub applied_to : Replies → Record Bytes → List Event → Record Bytes
applied_to replies r es = fold (λ r e. record_after replies e r) r es

unwrapped : (b : Bool) (v r : Record Bytes) (o : Option (Record Bytes)) → unwrap_or (cond b (Some v) o) r ≡ cond b v (unwrap_or o r)
unwrapped true v r o = refl
unwrapped false v r o = refl

-- the records after an event: its entity's record is new, and the others stay
pub record-after : (replies : Replies) (m : Records) (e : Event) (x : EntityId) → record_of (records_after replies m e) x ≡ cond (is_of x e) (record_after replies e (record_of m x)) (record_of m x)
record-after replies m e x =
    ap (λ o. unwrap_or o blank) (map.get-insert entity_cmp_total m e.entity (record_after replies e (record_of m e.entity)) x)
    ∙ unwrapped (is_of x e) (record_after replies e (record_of m e.entity)) blank (map.get m x)
    ∙ own (is_of x e) refl
  where
    own : (b : Bool) → is_of x e ≡ b → cond b (record_after replies e (record_of m e.entity)) (record_of m x) ≡ cond b (record_after replies e (record_of m x)) (record_of m x)
    own true h = ap (λ y. record_after replies e (record_of m y)) (sym (entity_of x e h))
    own false h = refl

record-fold : (replies : Replies) (m : Records) (es : List Event) (x : EntityId) → record_of (fold (records_after replies) m es) x ≡ applied_to replies (record_of m x) (events_of x es)
record-fold replies m [] x = refl
record-fold replies m (e ∷ es) x =
    record-fold replies (records_after replies m e) es x
    ∙ ap (λ r. applied_to replies r (events_of x es)) (record-after replies m e x)
    ∙ split (is_of x e)
  where
    split : (b : Bool) → applied_to replies (cond b (record_after replies e (record_of m x)) (record_of m x)) (events_of x es) ≡ applied_to replies (record_of m x) (cond b (e ∷ events_of x es) (events_of x es))
    split true = refl
    split false = refl

pub record_of-empty : (x : EntityId) → record_of map.empty x ≡ blank
record_of-empty x = ap (λ o. unwrap_or o blank) (map.get-empty entity_cmp x)

-- the record that events leave is what the events of the entity leave
pub record-records_of : (replies : Replies) (es : List Event) (x : EntityId) → record_of (records_of replies es) x ≡ applied_to replies blank (events_of x es)
record-records_of replies es x = record-fold replies map.empty es x ∙ ap (λ r. applied_to replies r (events_of x es)) (record_of-empty x)

-- the events of one entity in order
pub events_of-in_order : (x : EntityId) (es : List Event) → events_of x (in_order es) ≡ in_order (events_of x es)
events_of-in_order x es = sym (sorted-filter event_cmp_total event_cmp_same (is_of x) es)

-- after a replay
pub record-played : (hz : Option ℕ) (closed : Bool) (replies : Replies) (ds : List Delivery) (x : EntityId) → record_of (played hz closed replies ds).records x ≡ applied_to replies blank (in_order (events_of x (due hz closed ds)))
record-played hz closed replies ds x =
    ap (λ m. record_of m x) (records-played hz closed replies ds)
    ∙ record-records_of replies (in_order (due hz closed ds)) x
    ∙ ap (applied_to replies blank) (events_of-in_order x (due hz closed ds))

pub state-applied_to : (replies : Replies) (r : Record Bytes) (es : List Event) → (applied_to replies r es).state ≡ fold state_after r.state es
state-applied_to replies r [] = refl
state-applied_to replies r (e ∷ es) = state-applied_to replies (record_after replies e r) es

pub reconciled-applied_to : (replies : Replies) (r : Record Bytes) (es : List Event) → (applied_to replies r es).reconciled ≡ fold reconciled_after r.reconciled es
reconciled-applied_to replies r [] = refl
reconciled-applied_to replies r (e ∷ es) = reconciled-applied_to replies (record_after replies e r) es

-- the state of an entity is the fate of its due events
pub state-played : (hz : Option ℕ) (closed : Bool) (replies : Replies) (ds : List Delivery) (x : EntityId) → (record_of (played hz closed replies ds).records x).state ≡ fate (in_order (events_of x (due hz closed ds)))
state-played hz closed replies ds x =
    ap (λ (r : Record Bytes). r.state) (record-played hz closed replies ds x)
    ∙ state-applied_to replies blank (in_order (events_of x (due hz closed ds)))
