-- The fate over the due events is that over all known events, where no late event of the entity is open.
use Rattle.std.proofs.Common.{◌≡◌, Bool, true, false, not, cond, ◌&&◌, ◌||◌, ℤ, List, [], ◌∷◌, ◌++◌, Option, Less, Equal, Greater, is_lt, fold, refl, sym, ◌∙◌, ap, ℕ}
use Rattle.std.proofs.lemmas.Bool.{not-false}
use Rattle.std.specs.BTreeSet.{insert_key}
use Rattle.std.specs.Ordering.{eq_by_cmp, match_ordering}
use Rattle.std.specs.List.{list_any}
use Rattle.std.proofs.lemmas.List.Elements.{filter-append}
use Rattle.std.proofs.lemmas.List.Folds.{list_any-append}
use Rattle.entity_model.specs.declared.id.EntityId.{EntityId}
use Rattle.entity_model.specs.declared.event.Event.{Event}
use Rattle.entity_model.specs.declared.event.Kind.{Kind}
use Rattle.entity_model.specs.declared.event.Kind.TheVariants.{Edit, Delete, Undelete, ReconcileDeleted, ReconcileKept}
use Rattle.entity_model.specs.Event.{event_cmp, event_cmp_total, event_cmp_same}
use Rattle.entity_state.specs.declared.state.State.{State}
use Rattle.entity_state.specs.State.{state_after, after_kind, unknown}
use Rattle.delivery.specs.declared.Delivery.{Delivery}
use Rattle.delivery.specs.declared.Delivery.TheVariants.{Event as Told, Watermark, Ask, Mapping, Match}
use Rattle.reorder_buffer.specs.Watermarks.{reached, is_due}
use Rattle.sorted_sets.specs.Rising.{has}
use Rattle.sorted_sets.proofs.Bools.{clash, equal, or_none, or_true, or_false_left, or_false_right}
use Rattle.sorted_sets.proofs.Pushes.{by_pushes}
use Rattle.sorted_sets.proofs.Rising.{has-append, sorted_same}
use Rattle.sorted_sets.proofs.Filtering.{has-filter}
use Rattle.sorted_sets.proofs.Finding.{list_any-sorted, list_any-filter}
use Rattle.replay_model.specs.Acceptance.{mark, events, is_repeat, is_late, is_accepted, accepted, late, due, known}
use Rattle.replay_model.specs.Fate.{is_of, events_of, in_order, fate}
use Rattle.entity_state.specs.Standing.{is_reconciliation}
use Rattle.replay_model.specs.Entries.{is_later, is_open_late}
use Rattle.replay_model.proofs.Floors.{repeat_delivered}
use Rattle.replay_model.proofs.Times.{reached-greater}
use Rattle.replay_model.proofs.Deliveries.{mark-kept, mark-watermark, events-kept, events-told, events_passing-kept, events_passing-told}
use Rattle.replay_model.proofs.RecordOf.{entity_of, events_of-in_order}

-- ---- a reconciliation forgets what precedes it

reconciles : (k : Kind) (s t : State) (r : _) → is_reconciliation k ≡ true → after_kind k s r ≡ after_kind k t r
reconciles Edit s t r h = clash h refl
reconciles Delete s t r h = clash h refl
reconciles Undelete s t r h = clash h refl
reconciles ReconcileDeleted s t r h = refl
reconciles ReconcileKept s t r h = refl

-- after events with a reconciliation, the state doesn't depend on the state before
pub forgets : (es : List Event) → list_any (λ (r : Event). is_reconciliation r.kind) es ≡ true → (s t : State) → fold state_after s es ≡ fold state_after t es
forgets [] h s t = clash h refl
forgets (e ∷ es) h s t =
    elim (is_reconciliation e.kind) as (λ b. is_reconciliation e.kind ≡ b → (b || list_any (λ (r : Event). is_reconciliation r.kind) es) ≡ true → fold state_after (state_after s e) es ≡ fold state_after (state_after t e) es) [
      | true ↦ λ k _. ap (λ u. fold state_after u es) (reconciles e.kind s t e.rev k)
      | false ↦ λ _ rest. forgets es rest (state_after s e) (state_after t e)
    ] refl h

some_later : (l : Event) (es : List Event) → list_any (is_later l) es ≡ true → list_any (λ (r : Event). is_reconciliation r.kind) es ≡ true
some_later l [] h = h
some_later l (e ∷ es) h =
    elim (is_reconciliation e.kind) as (λ b. ((b && is_lt (event_cmp l e)) || list_any (is_later l) es) ≡ true → (b || list_any (λ (r : Event). is_reconciliation r.kind) es) ≡ true) [
      | true ↦ λ _. refl
      | false ↦ λ rest. some_later l es rest
    ] h

-- an event put before a later reconciliation leaves the state
pub place_below : (l : Event) (es : List Event) → list_any (is_later l) es ≡ true → (s : State) → fold state_after s (insert_key event_cmp es l) ≡ fold state_after s es
place_below l [] h s = clash h refl
place_below l (e ∷ es) h s =
    elim (event_cmp l e) as (λ o. event_cmp l e ≡ o → fold state_after s (match_ordering o (l ∷ e ∷ es) (e ∷ es) (e ∷ insert_key event_cmp es l)) ≡ fold state_after s (e ∷ es)) [
      | Less ↦ λ _. forgets (e ∷ es) (some_later l (e ∷ es) h) (state_after s l) s
      | Equal ↦ λ _. refl
      | Greater ↦ λ o. place_below l es (past (is_reconciliation e.kind) (list_any (is_later l) es) (ap (λ r. (is_reconciliation e.kind && is_lt r) || list_any (is_later l) es) (sym o) ∙ h)) (state_after s e)
    ] refl
  where
    past : (a b : Bool) → ((a && false) || b) ≡ true → b ≡ true
    past true b e = e
    past false b e = e

-- ---- late events that aren't open make no difference

closed_late : (x : EntityId) (l : Event) (dues : List Event) → is_of x l ≡ true → is_open_late dues l ≡ false → list_any (is_later l) (events_of x dues) ≡ true
closed_late x l dues of closed =
    list_any-filter (is_later l) (is_of x) dues
    ∙ ap (λ y. list_any (λ r. is_of y r && is_later l r) dues) (entity_of x l of)
    ∙ not-false _ closed

dropped : (x : EntityId) (dues lates : List Event) → list_any (is_open_late dues) (events_of x lates) ≡ false → fate (in_order (events_of x lates ++ events_of x dues)) ≡ fate (in_order (events_of x dues))
dropped x dues [] none = refl
dropped x dues (l ∷ lates) none =
    elim (is_of x l) as (λ b. is_of x l ≡ b → list_any (is_open_late dues) (cond b (l ∷ events_of x lates) (events_of x lates)) ≡ false → fate (in_order (cond b (l ∷ events_of x lates) (events_of x lates) ++ events_of x dues)) ≡ fate (in_order (events_of x dues))) [
      | true ↦ λ of none.
          place_below l (in_order (events_of x lates ++ events_of x dues))
          (list_any-sorted event_cmp event_cmp_same (is_later l) (events_of x lates ++ events_of x dues)
          ∙ list_any-append (is_later l) (events_of x lates) (events_of x dues)
          ∙ or_true (list_any (is_later l) (events_of x lates)) _ (closed_late x l dues of (or_false_left (is_open_late dues l) _ none)))
          unknown
          ∙ dropped x dues lates (or_false_right (is_open_late dues l) _ none)
      | false ↦ λ _ none. dropped x dues lates none
    ] refl none

-- ---- the delivered events are the late and the accepted ones

split : (a b : Bool) (ev la ac t : Bool) → ev ≡ (la || ac) → (a ≡ true → t ≡ true → ev ≡ true)
    → (ev || (t || false)) ≡ ((la || cond (not a && b) (t || false) false) || (ac || cond (not a && not b) (t || false) false))
split true b true true ac t e r = refl
split true b true false true t e r = refl
split true b true false false t e r = e
split true b false true ac t e r = clash refl (sym e)
split true b false false true t e r = clash refl (sym e)
split true b false false false true e r = sym (r refl refl)
split true b false false false false e r = refl
split false true ev la ac t e r = ap (λ v. v || (t || false)) e ∙ turn la ac t
  where
    turn : (la ac t : Bool) → ((la || ac) || (t || false)) ≡ ((la || (t || false)) || (ac || false))
    turn true ac t = refl
    turn false true true = refl
    turn false true false = refl
    turn false false true = refl
    turn false false false = refl
split false false ev la ac t e r = ap (λ v. v || (t || false)) e ∙ turn la ac t
  where
    turn : (la ac t : Bool) → ((la || ac) || (t || false)) ≡ ((la || false) || (ac || (t || false)))
    turn true ac t = refl
    turn false true t = refl
    turn false false t = refl

pub has-one : (q e : Event) (b : Bool) → has event_cmp q (cond b (e ∷ []) []) ≡ cond b (eq_by_cmp event_cmp q e || false) false
has-one q e true = refl
has-one q e false = refl

pub has-events : (hz : Option ℕ) (q : Event) (ds : List Delivery) → has event_cmp q (events ds) ≡ (has event_cmp q (late hz ds) || has event_cmp q (accepted hz ds))
has-events hz q = by_pushes (λ ds. has event_cmp q (events ds) ≡ (has event_cmp q (late hz ds) || has event_cmp q (accepted hz ds))) refl step
  where
    step : (ds : List Delivery) (d : Delivery) → has event_cmp q (events ds) ≡ (has event_cmp q (late hz ds) || has event_cmp q (accepted hz ds)) → has event_cmp q (events (ds ++ d ∷ [])) ≡ (has event_cmp q (late hz (ds ++ d ∷ [])) || has event_cmp q (accepted hz (ds ++ d ∷ [])))
    step ds (Told e) before =
        ap (has event_cmp q) (events-told ds e)
        ∙ has-append event_cmp q (events ds) (e ∷ [])
        ∙ split (is_repeat hz ds e) (reached (mark ds) e.time) (has event_cmp q (events ds)) (has event_cmp q (late hz ds)) (has event_cmp q (accepted hz ds)) (eq_by_cmp event_cmp q e) before
        (λ repeat tie. ap (λ y. has event_cmp y (events ds)) (event_cmp_same q e (equal _ tie)) ∙ repeat_delivered hz ds e repeat)
        ∙ sym (ap (λ b. b || has event_cmp q (accepted hz (ds ++ Told e ∷ []))) (ap (has event_cmp q) (events_passing-told (is_late hz) ds e) ∙ has-append event_cmp q (late hz ds) (cond (is_late hz ds e) (e ∷ []) []) ∙ ap (λ b. has event_cmp q (late hz ds) || b) (has-one q e (is_late hz ds e)))
        ∙ ap (λ b. (has event_cmp q (late hz ds) || cond (is_late hz ds e) (eq_by_cmp event_cmp q e || false) false) || b) (ap (has event_cmp q) (events_passing-told (is_accepted hz) ds e) ∙ has-append event_cmp q (accepted hz ds) (cond (is_accepted hz ds e) (e ∷ []) []) ∙ ap (λ b. has event_cmp q (accepted hz ds) || b) (has-one q e (is_accepted hz ds e))))
    step ds (Watermark w) before =
        ap (has event_cmp q) (events-kept ds (Watermark w) refl)
        ∙ before
        ∙ sym (ap (λ b. b || has event_cmp q (accepted hz (ds ++ Watermark w ∷ []))) (ap (has event_cmp q) (events_passing-kept (is_late hz) ds (Watermark w) refl))
        ∙ ap (λ b. has event_cmp q (late hz ds) || b) (ap (has event_cmp q) (events_passing-kept (is_accepted hz) ds (Watermark w) refl)))
    step ds (Ask a) before =
        ap (has event_cmp q) (events-kept ds (Ask a) refl)
        ∙ before
        ∙ sym (ap (λ b. b || has event_cmp q (accepted hz (ds ++ Ask a ∷ []))) (ap (has event_cmp q) (events_passing-kept (is_late hz) ds (Ask a) refl))
        ∙ ap (λ b. has event_cmp q (late hz ds) || b) (ap (has event_cmp q) (events_passing-kept (is_accepted hz) ds (Ask a) refl)))
    step ds (Mapping v) before =
        ap (has event_cmp q) (events-kept ds (Mapping v) refl)
        ∙ before
        ∙ sym (ap (λ b. b || has event_cmp q (accepted hz (ds ++ Mapping v ∷ []))) (ap (has event_cmp q) (events_passing-kept (is_late hz) ds (Mapping v) refl))
        ∙ ap (λ b. has event_cmp q (late hz ds) || b) (ap (has event_cmp q) (events_passing-kept (is_accepted hz) ds (Mapping v) refl)))
    step ds (Match a) before =
        ap (has event_cmp q) (events-kept ds (Match a) refl)
        ∙ before
        ∙ sym (ap (λ b. b || has event_cmp q (accepted hz (ds ++ Match a ∷ []))) (ap (has event_cmp q) (events_passing-kept (is_late hz) ds (Match a) refl))
        ∙ ap (λ b. has event_cmp q (late hz ds) || b) (ap (has event_cmp q) (events_passing-kept (is_accepted hz) ds (Match a) refl)))

-- the mark has reached each late event
late_reached : (hz : Option ℕ) (q : Event) (ds : List Delivery) → has event_cmp q (late hz ds) ≡ true → reached (mark ds) q.time ≡ true
late_reached hz q = by_pushes (λ ds. has event_cmp q (late hz ds) ≡ true → reached (mark ds) q.time ≡ true) (λ h. clash h refl) step
  where
    either : (a b : Bool) {G : Type 0} → (a || b) ≡ true → (a ≡ true → G) → (b ≡ true → G) → G
    either true b h p q = p refl
    either false b h p q = q h

    here : (ds : List Delivery) (e : Event) (a b : Bool) → reached (mark ds) e.time ≡ b → cond (not a && b) (eq_by_cmp event_cmp q e || false) false ≡ true → reached (mark ds) q.time ≡ true
    here ds e true b m h = clash h refl
    here ds e false false m h = clash h refl
    here ds e false true m h = ap (λ (y : Event). reached (mark ds) y.time) (event_cmp_same q e (equal _ (sym (or_none _) ∙ h))) ∙ m

    step : (ds : List Delivery) (d : Delivery) → (has event_cmp q (late hz ds) ≡ true → reached (mark ds) q.time ≡ true) → has event_cmp q (late hz (ds ++ d ∷ [])) ≡ true → reached (mark (ds ++ d ∷ [])) q.time ≡ true
    step ds (Told e) before h =
        ap (λ m. reached m q.time) (mark-kept ds (Told e) refl)
        ∙ either (has event_cmp q (late hz ds)) (cond (is_late hz ds e) (eq_by_cmp event_cmp q e || false) false)
        (ap (λ b. has event_cmp q (late hz ds) || b) (sym (has-one q e (is_late hz ds e))) ∙ sym (has-append event_cmp q (late hz ds) (cond (is_late hz ds e) (e ∷ []) [])) ∙ sym (ap (has event_cmp q) (events_passing-told (is_late hz) ds e)) ∙ h)
        before (here ds e (is_repeat hz ds e) (reached (mark ds) e.time) refl)
    step ds (Watermark w) before h =
        ap (λ m. reached m q.time) (mark-watermark ds w)
        ∙ reached-greater (mark ds) w q.time (before (sym (ap (has event_cmp q) (events_passing-kept (is_late hz) ds (Watermark w) refl)) ∙ h))
    step ds (Ask a) before h =
        ap (λ m. reached m q.time) (mark-kept ds (Ask a) refl)
        ∙ before (sym (ap (has event_cmp q) (events_passing-kept (is_late hz) ds (Ask a) refl)) ∙ h)
    step ds (Mapping v) before h =
        ap (λ m. reached m q.time) (mark-kept ds (Mapping v) refl)
        ∙ before (sym (ap (has event_cmp q) (events_passing-kept (is_late hz) ds (Mapping v) refl)) ∙ h)
    step ds (Match a) before h =
        ap (λ m. reached m q.time) (mark-kept ds (Match a) refl)
        ∙ before (sym (ap (has event_cmp q) (events_passing-kept (is_late hz) ds (Match a) refl)) ∙ h)

distributed : (p a b : Bool) → (a ≡ true → p ≡ true) → (p && (a || b)) ≡ (a || (p && b))
distributed true a b h = refl
distributed false true b h = h refl
distributed false false b h = refl

reached_due : (closed : Bool) (m : Option ℤ) (e : Event) → reached m e.time ≡ true → is_due closed m e ≡ true
reached_due true m e h = refl
reached_due false m e h = h

-- the known events are the late and the due ones
pub has-known : (hz : Option ℕ) (closed : Bool) (ds : List Delivery) (q : Event) → has event_cmp q (known closed ds) ≡ has event_cmp q (late hz ds ++ due hz closed ds)
has-known hz closed ds q =
    has-filter event_cmp event_cmp_same (is_due closed (mark ds)) q (events ds)
    ∙ ap (λ b. is_due closed (mark ds) q && b) (has-events hz q ds)
    ∙ distributed (is_due closed (mark ds) q) (has event_cmp q (late hz ds)) (has event_cmp q (accepted hz ds)) (λ h. reached_due closed (mark ds) q (late_reached hz q ds h))
    ∙ ap (λ b. has event_cmp q (late hz ds) || b) (sym (has-filter event_cmp event_cmp_same (is_due closed (mark ds)) q (accepted hz ds)))
    ∙ sym (has-append event_cmp q (late hz ds) (due hz closed ds))

known_in_order : (hz : Option ℕ) (closed : Bool) (ds : List Delivery) (x : EntityId) → in_order (events_of x (known closed ds)) ≡ in_order (events_of x (late hz ds) ++ events_of x (due hz closed ds))
known_in_order hz closed ds x =
    sym (events_of-in_order x (known closed ds))
    ∙ ap (events_of x) (sorted_same event_cmp_total event_cmp_same (known closed ds) (late hz ds ++ due hz closed ds) (has-known hz closed ds))
    ∙ events_of-in_order x (late hz ds ++ due hz closed ds)
    ∙ ap in_order (filter-append (is_of x) (late hz ds) (due hz closed ds))

-- where no late event of the entity is open, its fate is that over all known events
pub fate-known : (hz : Option ℕ) (closed : Bool) (ds : List Delivery) (x : EntityId) → list_any (is_open_late (due hz closed ds)) (events_of x (late hz ds)) ≡ false → fate (in_order (events_of x (due hz closed ds))) ≡ fate (in_order (events_of x (known closed ds)))
fate-known hz closed ds x none = sym (ap fate (known_in_order hz closed ds x) ∙ dropped x (due hz closed ds) (late hz ds) none)
