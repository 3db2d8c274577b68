-- A late event is open exactly where its entity's record has no reconciliation after it.
use Rattle.std.proofs.Common.{◌≡◌, Bool, true, false, not, cond, ◌&&◌, ◌||◌, List, [], ◌∷◌, Option, None, Some, Ordering, Less, Equal, Greater, is_lt, fold, refl, sym, ◌∙◌, ap, true≢false, ℕ}
use Rattle.std.specs.List.{list_any}
use Rattle.entity_model.specs.declared.event.Event.{Event}
use Rattle.entity_model.specs.Event.{event_cmp, event_cmp_total, event_cmp_same}
use Rattle.entity_state.specs.declared.record.Record.{Record}
use Rattle.entity_state.specs.Record.{blank}
use Rattle.entity_state.specs.Entry.{is_before}
use Rattle.delivery.specs.declared.Delivery.{Delivery}
use Rattle.sorted_sets.proofs.Bools.{or_assoc, or_none}
use Rattle.sorted_sets.proofs.Rising.{turned}
use Rattle.sorted_sets.proofs.Finding.{list_any-sorted, list_any-filter}
use Rattle.replay_model.specs.Acceptance.{due}
use Rattle.replay_model.specs.Fate.{is_of, events_of, in_order}
use Rattle.replay_model.specs.Records.{Bytes, record_of}
use Rattle.replay_model.specs.Play.{Replies, played}
use Rattle.entity_state.specs.Standing.{is_reconciliation, reconciled_after}
use Rattle.replay_model.specs.Entries.{is_later, is_open_late}
use Rattle.replay_model.proofs.RecordOf.{record-played, reconciled-applied_to}

less : (r : Ordering) → is_lt r ≡ true → r ≡ Less
less Less e = refl
less Equal e = absurd (true≢false (sym e))
less Greater e = absurd (true≢false (sym e))

right_of : (a b : Bool) → (a ≡ true → b ≡ true) → b ≡ (a || b)
right_of true b h = h refl
right_of false b h = refl

left_of : (a b : Bool) → (b ≡ true → a ≡ true) → a ≡ (a || b)
left_of true b h = refl
left_of false true h = h refl
left_of false false h = refl

before-after : (e : Event) (s : Option Event) (r : Event) → is_before e (reconciled_after s r) ≡ (is_before e s || is_later e r)
before-after e None r =
    elim (is_reconciliation r.kind) as (λ k. is_before e (cond k (Some r) None) ≡ (k && is_lt (event_cmp e r))) [ true ↦ refl | false ↦ refl ]
before-after e (Some q) r =
    elim (is_reconciliation r.kind) as (λ k. is_before e (cond (k && is_lt (event_cmp q r)) (Some r) (Some q)) ≡ (is_lt (event_cmp e q) || (k && is_lt (event_cmp e r)))) [
      | true ↦ elim (event_cmp q r) as (λ o. event_cmp q r ≡ o → is_before e (cond (is_lt o) (Some r) (Some q)) ≡ (is_lt (event_cmp e q) || is_lt (event_cmp e r))) [
        | Less ↦ λ o. right_of _ _ (λ a. ap is_lt (event_cmp_total.trans e q r (less _ a) o))
        | Equal ↦ λ o. left_of _ _ (λ a. ap (λ y. is_lt (event_cmp e y)) (event_cmp_same q r o) ∙ a)
        | Greater ↦ λ o. left_of _ _ (λ a. ap is_lt (event_cmp_total.trans e r q (less _ a) (turned event_cmp_total q r Greater o)))
      ] refl
      | false ↦ sym (or_none _)
    ]

before-fold : (e : Event) (s : Option Event) (es : List Event) → is_before e (fold reconciled_after s es) ≡ (is_before e s || list_any (is_later e) es)
before-fold e s [] = sym (or_none (is_before e s))
before-fold e s (r ∷ es) =
    before-fold e (reconciled_after s r) es
    ∙ ap (λ b. b || list_any (is_later e) es) (before-after e s r)
    ∙ or_assoc (is_before e s) (is_later e r) (list_any (is_later e) es)

pub open_late-played : (hz : Option ℕ) (closed : Bool) (replies : Replies) (ds : List Delivery) (e : Event) → is_open_late (due hz closed ds) e ≡ not (is_before e (record_of (played hz closed replies ds).records e.entity).reconciled)
open_late-played hz closed replies ds e =
    let own = events_of e.entity (due hz closed ds) in
    ap not (sym (
    ap (λ (r : Record Bytes). is_before e r.reconciled) (record-played hz closed replies ds e.entity)
    ∙ ap (is_before e) (reconciled-applied_to replies blank (in_order own))
    ∙ before-fold e None (in_order own)
    ∙ list_any-sorted event_cmp event_cmp_same (is_later e) own
    ∙ list_any-filter (is_later e) (is_of e.entity) (due hz closed ds)))
