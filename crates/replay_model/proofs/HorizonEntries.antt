-- A horizon leaves the entries that aren't late, and the fetches.
use Rattle.std.proofs.Common.{◌≡◌, ℕ, Bool, true, false, not, cond, List, [], ◌∷◌, ◌++◌, Option, None, filter, is_none, refl, sym, ◌∙◌, ap, append-nil}
use Rattle.std.proofs.lemmas.List.Elements.{filter-append}
use Rattle.entity_model.specs.declared.event.Event.{Event}
use Rattle.entity_state.specs.declared.entry.Entry.{Entry}
use Rattle.entity_state.specs.declared.entry.Entry.TheVariants.{Late}
use Rattle.delivery.specs.declared.Delivery.{Delivery}
use Rattle.delivery.specs.declared.Delivery.TheVariants.{Event as Told, Watermark, Ask, Mapping, Match}
use Rattle.reorder_buffer.specs.Watermarks.{is_due}
use Rattle.sorted_sets.proofs.Pushes.{by_pushes}
use Rattle.replay_model.specs.Acceptance.{mark, is_late}
use Rattle.replay_model.specs.Fate.{in_order}
use Rattle.replay_model.specs.Records.{record_of}
use Rattle.replay_model.specs.Entries.{late_event}
use Rattle.replay_model.specs.Play.{Replies, Played, entries_after, apply, apply_all, newly_due, happens, play, played, fetches_of, fetches_of_all, fetches_at, fetches, fetches_to_end, records_after}
use Rattle.replay_model.proofs.Arrivals.{play-push, fetches-push}
use Rattle.replay_model.proofs.Horizons.{accepted-alike, records-alike}

-- the entries that aren't late
abbrev others : List Entry → List Entry
others side = filter (λ entry. is_none (late_event entry)) side

others-more : (side side' more more' : List Entry) → others side ≡ others side' → others more ≡ others more' → others (side ++ more) ≡ others (side' ++ more')
others-more side side' more more' same same_more =
    filter-append (λ entry. is_none (late_event entry)) side more
    ∙ (λ i. same i ++ same_more i)
    ∙ sym (filter-append (λ entry. is_none (late_event entry)) side' more')

others-late : (side : List Entry) (e : Event) (b : Bool) → others (side ++ cond b (Late e ∷ []) []) ≡ others side
others-late side e b = filter-append (λ entry. is_none (late_event entry)) side (cond b (Late e ∷ []) []) ∙ ap (λ l. others side ++ l) (none b) ∙ append-nil (others side)
  where
    none : (b : Bool) → others (cond b (Late e ∷ []) []) ≡ []
    none true = refl
    none false = refl

-- events make the same of equal records
others-apply_all : (replies : Replies) (es : List Event) (p p' : Played) → p.records ≡ p'.records → others p.side ≡ others p'.side → others (apply_all replies p es).side ≡ others (apply_all replies p' es).side
others-apply_all replies [] p p' records same = same
others-apply_all replies (e ∷ es) p p' records same =
    others-apply_all replies es (apply replies p e) (apply replies p' e)
    (ap (λ r. records_after replies r e) records)
    (others-more p.side p'.side (entries_after replies e (record_of p.records e.entity)) (entries_after replies e (record_of p'.records e.entity)) same (ap (λ r. others (entries_after replies e (record_of r e.entity))) records))

fetches_of_all-same : (replies : Replies) (es : List Event) (p p' : Played) → p.records ≡ p'.records → fetches_of_all replies p es ≡ fetches_of_all replies p' es
fetches_of_all-same replies [] p p' records = refl
fetches_of_all-same replies (e ∷ es) p p' records =
    let rest = fetches_of_all-same replies es (apply replies p e) (apply replies p' e) (ap (λ r. records_after replies r e) records) in
    λ i. fetches_of e (record_of (records i) e.entity) ++ rest i

newly_due-alike : (hz : Option ℕ) (before : List Delivery) (closed : Bool) (after : List Delivery) → newly_due hz before closed after ≡ newly_due None before closed after
newly_due-alike hz before closed after = ap (λ es. in_order (filter (λ e. not (is_due false (mark before) e)) (filter (is_due closed (mark after)) es))) (accepted-alike hz after)

-- ---- the entries

others-happens : (hz : Option ℕ) (replies : Replies) (ds : List Delivery) (d : Delivery) (p p' : Played) → p.records ≡ p'.records → others p.side ≡ others p'.side → others (happens hz replies ds d p).side ≡ others (happens None replies ds d p').side
others-happens hz replies ds (Told e) p p' records same = others-late p.side e (is_late hz ds e) ∙ same ∙ sym (others-late p'.side e (is_late None ds e))
others-happens hz replies ds (Ask q) p p' records same = same
others-happens hz replies ds (Mapping v) p p' records same = same
others-happens hz replies ds (Match q) p p' records same = same
others-happens hz replies ds (Watermark w) p p' records same =
    ap (λ es. others (apply_all replies p es).side) (newly_due-alike hz ds false (ds ++ Watermark w ∷ []))
    ∙ others-apply_all replies (newly_due None ds false (ds ++ Watermark w ∷ [])) p p' records same

others-play : (hz : Option ℕ) (replies : Replies) (ds : List Delivery) → others (play hz replies ds).side ≡ others (play None replies ds).side
others-play hz replies = by_pushes (λ ds. others (play hz replies ds).side ≡ others (play None replies ds).side) refl
    (λ ds d same.
    ap (λ (p : Played). others p.side) (play-push hz replies ds d)
    ∙ others-happens hz replies ds d (play hz replies ds) (play None replies ds) (records-alike hz false replies ds) same
    ∙ ap (λ (p : Played). others p.side) (sym (play-push None replies ds d)))

pub others-played : (hz : Option ℕ) (closed : Bool) (replies : Replies) (ds : List Delivery) → others (played hz closed replies ds).side ≡ others (played None closed replies ds).side
others-played hz false replies ds = others-play hz replies ds
others-played hz true replies ds =
    ap (λ es. others (apply_all replies (play hz replies ds) es).side) (newly_due-alike hz ds true ds)
    ∙ others-apply_all replies (newly_due None ds true ds) (play hz replies ds) (play None replies ds) (records-alike hz false replies ds) (others-play hz replies ds)

-- ---- the fetches

fetches-newly_due : (hz : Option ℕ) (replies : Replies) (before : List Delivery) (closed : Bool) (after : List Delivery) → fetches_of_all replies (play hz replies before) (newly_due hz before closed after) ≡ fetches_of_all replies (play None replies before) (newly_due None before closed after)
fetches-newly_due hz replies before closed after =
    ap (fetches_of_all replies (play hz replies before)) (newly_due-alike hz before closed after)
    ∙ fetches_of_all-same replies (newly_due None before closed after) (play hz replies before) (play None replies before) (records-alike hz false replies before)

fetches_at-alike : (hz : Option ℕ) (replies : Replies) (ds : List Delivery) (d : Delivery) → fetches_at hz replies (record { before = ds; delivery = d }) ≡ fetches_at None replies (record { before = ds; delivery = d })
fetches_at-alike hz replies ds (Told e) = refl
fetches_at-alike hz replies ds (Ask q) = refl
fetches_at-alike hz replies ds (Mapping v) = refl
fetches_at-alike hz replies ds (Match q) = refl
fetches_at-alike hz replies ds (Watermark w) = fetches-newly_due hz replies ds false (ds ++ Watermark w ∷ [])

pub fetches-alike : (hz : Option ℕ) (replies : Replies) (ds : List Delivery) → fetches hz replies ds ≡ fetches None replies ds
fetches-alike hz replies = by_pushes (λ ds. fetches hz replies ds ≡ fetches None replies ds) refl
    (λ ds d same.
    fetches-push hz replies ds d
    ∙ (λ i. same i ++ fetches_at-alike hz replies ds d i)
    ∙ sym (fetches-push None replies ds d))

pub fetches_to_end-alike : (hz : Option ℕ) (replies : Replies) (ds : List Delivery) → fetches_to_end hz replies ds ≡ fetches_to_end None replies ds
fetches_to_end-alike hz replies ds = λ i. fetches-alike hz replies ds i ++ fetches-newly_due hz replies ds true ds i
