-- A part makes the fetches of its entities.
use Rattle.std.proofs.Common.{◌≡◌, ℕ, Bool, true, false, cond, List, [], ◌∷◌, ◌++◌, Option, refl, sym, ◌∙◌, ap, append-nil}
use Rattle.std.proofs.lemmas.List.Elements.{filter-append}
use Rattle.sorted_sets.proofs.Pushes.{by_pushes}
use Rattle.entity_model.specs.declared.id.EntityId.{EntityId}
use Rattle.entity_model.specs.declared.event.Event.{Event}
use Rattle.delivery.specs.declared.Delivery.{Delivery}
use Rattle.delivery.specs.declared.Delivery.TheVariants.{Event as Told, Watermark, Ask, Mapping, Match}
use Rattle.entity_state.specs.declared.record.Record.{Record}
use Rattle.entity_state.specs.Record.{held_revision, wants}
use Rattle.entity_state.specs.State.{state_after}
use Rattle.replay_model.specs.Play.{Replies, Played, Fetch, fetches_of, fetches_of_all, fetches_at, fetches, fetches_to_end, apply, newly_due, play}
use Rattle.replay_model.specs.Records.{Bytes, record_of}
use Rattle.replay_model.proofs.Arrivals.{fetches-push}
use Rattle.replay_parts.specs.Parts.{is_routed, routed, part_of_events, part_of_fetches, part_of_played, AgreeOnPart}
use Rattle.replay_parts.proofs.PlayedParts.{apply-part, apply-elsewhere, play-routed, record_of-own}
use Rattle.replay_parts.proofs.Routed.{nothing_either_way, routed-push, newly_due-routed}

module _ (contains : EntityId → Bool) (own replies : Replies) (agree : AgreeOnPart contains own replies) where
  part_of-fetches_of : (e : Event) (r : Record Bytes) → part_of_fetches contains (fetches_of e r) ≡ cond (contains e.entity) (fetches_of e r) []
  part_of-fetches_of e r = by (wants (state_after r.state e) (held_revision r.held))
    where
      by : (b : Bool) → part_of_fetches contains (cond b (record { event = e; revision = (state_after r.state e).rev } ∷ []) []) ≡ cond (contains e.entity) (cond b (record { event = e; revision = (state_after r.state e).rev } ∷ []) []) []
      by true = refl
      by false = sym (nothing_either_way (contains e.entity))

  part_of-append : (xs ys : List Fetch) → part_of_fetches contains (xs ++ ys) ≡ part_of_fetches contains xs ++ part_of_fetches contains ys
  part_of-append xs ys = filter-append (λ (f : Fetch). contains f.event.entity) xs ys

  fetches_of_all-part : (es : List Event) (p : Played) → fetches_of_all own (part_of_played contains p) (part_of_events contains es) ≡ part_of_fetches contains (fetches_of_all replies p es)
  fetches_of_all-part [] p = refl
  fetches_of_all-part (e ∷ es) p =
      by (contains e.entity) refl (fetches_of_all-part es (apply replies p e))
      ∙ ap (λ l. l ++ part_of_fetches contains (fetches_of_all replies (apply replies p e) es)) (sym (part_of-fetches_of e (record_of p.records e.entity)))
      ∙ sym (part_of-append (fetches_of e (record_of p.records e.entity)) (fetches_of_all replies (apply replies p e) es))
    where
      by : (b : Bool) → contains e.entity ≡ b → fetches_of_all own (part_of_played contains (apply replies p e)) (part_of_events contains es) ≡ part_of_fetches contains (fetches_of_all replies (apply replies p e) es)
          → fetches_of_all own (part_of_played contains p) (cond b (e ∷ part_of_events contains es) (part_of_events contains es)) ≡ cond b (fetches_of e (record_of p.records e.entity)) [] ++ part_of_fetches contains (fetches_of_all replies (apply replies p e) es)
      by true is rest =
          (λ i. fetches_of e (record_of-own contains p.records e.entity is i) ++ fetches_of_all own (apply-part contains own replies agree p e is i) (part_of_events contains es))
          ∙ ap (λ l. fetches_of e (record_of p.records e.entity) ++ l) rest
      by false is rest = ap (λ q. fetches_of_all own q (part_of_events contains es)) (apply-elsewhere contains own replies agree p e is) ∙ rest

  fetches-newly_due : (hz : Option ℕ) (before : List Delivery) (closed : Bool) (after : List Delivery)
      → fetches_of_all own (play hz own (routed contains before)) (newly_due hz (routed contains before) closed (routed contains after)) ≡ part_of_fetches contains (fetches_of_all replies (play hz replies before) (newly_due hz before closed after))
  fetches-newly_due hz before closed after =
      (λ i. fetches_of_all own (play-routed contains own replies agree hz before i) (newly_due-routed contains hz before closed after i))
      ∙ fetches_of_all-part (newly_due hz before closed after) (play hz replies before)

  fetches-step : (hz : Option ℕ) (ds : List Delivery) (d : Delivery) → fetches hz own (routed contains ds) ≡ part_of_fetches contains (fetches hz replies ds)
      → fetches hz own (routed contains ds ++ cond (is_routed contains d) (d ∷ []) []) ≡ part_of_fetches contains (fetches hz replies ds) ++ part_of_fetches contains (fetches_at hz replies (record { before = ds; delivery = d }))
  fetches-step hz ds (Told e) before = told (contains e.entity) ∙ before ∙ sym (append-nil (part_of_fetches contains (fetches hz replies ds)))
    where
      told : (b : Bool) → fetches hz own (routed contains ds ++ cond b (Told e ∷ []) []) ≡ fetches hz own (routed contains ds)
      told true = fetches-push hz own (routed contains ds) (Told e) ∙ append-nil (fetches hz own (routed contains ds))
      told false = ap (fetches hz own) (append-nil (routed contains ds))
  fetches-step hz ds (Watermark w) before =
      fetches-push hz own (routed contains ds) (Watermark w)
      ∙ (λ i. before i ++ fetches_of_all own (play hz own (routed contains ds)) (newly_due hz (routed contains ds) false (sym (routed-push contains ds (Watermark w)) i)))
      ∙ ap (λ l. part_of_fetches contains (fetches hz replies ds) ++ l) (fetches-newly_due hz ds false (ds ++ Watermark w ∷ []))
  fetches-step hz ds (Ask q) before = fetches-push hz own (routed contains ds) (Ask q) ∙ ap (λ l. l ++ []) before
  fetches-step hz ds (Mapping v) before = fetches-push hz own (routed contains ds) (Mapping v) ∙ ap (λ l. l ++ []) before
  fetches-step hz ds (Match q) before = fetches-push hz own (routed contains ds) (Match q) ∙ ap (λ l. l ++ []) before

  -- a part makes the fetches of its entities
  pub fetches-routed : (hz : Option ℕ) (ds : List Delivery) → fetches hz own (routed contains ds) ≡ part_of_fetches contains (fetches hz replies ds)
  fetches-routed hz = by_pushes (λ ds. fetches hz own (routed contains ds) ≡ part_of_fetches contains (fetches hz replies ds)) refl
      (λ ds d before.
      ap (fetches hz own) (routed-push contains ds d)
      ∙ fetches-step hz ds d before
      ∙ sym (part_of-append (fetches hz replies ds) (fetches_at hz replies (record { before = ds; delivery = d })))
      ∙ ap (part_of_fetches contains) (sym (fetches-push hz replies ds d)))

  pub fetches_to_end-routed : (hz : Option ℕ) (ds : List Delivery) → fetches_to_end hz own (routed contains ds) ≡ part_of_fetches contains (fetches_to_end hz replies ds)
  fetches_to_end-routed hz ds =
      (λ i. fetches-routed hz ds i ++ fetches-newly_due hz ds true ds i)
      ∙ sym (part_of-append (fetches hz replies ds) (fetches_of_all replies (play hz replies ds) (newly_due hz ds true ds)))
