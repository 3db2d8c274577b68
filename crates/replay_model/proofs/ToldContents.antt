-- Over a source with told contents, what is held is what the source has, and each entry says of a revision what is so.
use Rattle.std.proofs.Common.{◌≡◌, ℕ, Bool, true, false, cond, List, [], ◌∷◌, ◌++◌, Option, None, Some, Result, Err, refl, sym, ◌∙◌, ap, subst}
use Rattle.entity_model.specs.declared.id.EntityId.{EntityId}
use Rattle.entity_model.specs.declared.event.Event.{Event}
use Rattle.entity_model.specs.declared.unfit.Unfit.{Unfit}
use Rattle.entity_model.specs.Event.{event_cmp}
use Rattle.entity_state.specs.declared.state.State.{State}
use Rattle.entity_state.specs.declared.record.Held.{Held}
use Rattle.entity_state.specs.declared.record.Record.{Record}
use Rattle.entity_state.specs.State.{state_after, is_deleted}
use Rattle.entity_state.specs.Record.{blank, held_revision, wants}
use Rattle.entity_state.specs.declared.entry.Cause.{Cause}
use Rattle.entity_state.specs.declared.entry.Cause.TheVariants.{Failed, Unfit as NoDocument}
use Rattle.entity_state.specs.declared.entry.Entry.{Entry}
use Rattle.entity_state.specs.declared.entry.Entry.TheVariants.{Late}
use Rattle.delivery.specs.declared.Delivery.{Delivery}
use Rattle.delivery.specs.declared.Delivery.TheVariants.{Event as Told, Watermark, Ask, Mapping, Match}
use Rattle.sorted_sets.specs.Rising.{has, Each}
use Rattle.sorted_sets.proofs.Pushes.{by_pushes}
use Rattle.replay_model.specs.Acceptance.{is_late, due}
use Rattle.replay_model.specs.Fate.{is_of, events_of, in_order}
use Rattle.replay_model.specs.Records.{Bytes, record_of}
use Rattle.replay_model.specs.Play.{Played, held_after_fetch, record_after, entry_of, entries_after, apply, apply_all, newly_due, happens, play, played}
use Rattle.replay_model.specs.Replies.{Judgement, judged, reply_there, source_replies, HoldsWhatIsThere, HasUnfit, TellsWhatIsThere}
use Rattle.replay_model.proofs.Arrivals.{play-push}
use Rattle.replay_model.proofs.PlayedRecords.{records-played}
use Rattle.replay_model.proofs.RecordOf.{entity_of, applied_to, record-records_of}

pub Each-append : {A : Type 0} (P : A → Type 0) (xs ys : List A) → Each P xs → Each P ys → Each P (xs ++ ys)
Each-append P [] ys hx hy = hy
Each-append P (x ∷ xs) ys hx hy = (hx.0, Each-append P xs ys hx.1 hy)

-- a reply that names why there is no document is what is there
pub unfit_there : (unfit : Judgement) (x : EntityId) (why : Unfit) (there : Option Bytes) → HasUnfit unfit x why there → ◌≡◌ {A = Result Bytes Cause} (Err (NoDocument why)) (reply_there unfit x there)
unfit_there unfit x why None has = absurd has
unfit_there unfit x why (Some bytes) has = rw has refl

module _ (unfit : Judgement) (contents : ℕ → Option Bytes) (failed : List Event) where
  -- ---- what is held

  held-judged : (x : EntityId) (r : ℕ) (bytes : Bytes) (held : Option (Held Bytes)) (why : Option Unfit) → unfit x bytes ≡ why → contents r ≡ Some bytes → HoldsWhatIsThere unfit contents x held → HoldsWhatIsThere unfit contents x (held_after_fetch r (judged why bytes) held)
  held-judged x r bytes held None document there before = (there, document)
  held-judged x r bytes held (Some why) document there before = before

  held-there : (x : EntityId) (r : ℕ) (held : Option (Held Bytes)) (found : Option Bytes) → contents r ≡ found → HoldsWhatIsThere unfit contents x held → HoldsWhatIsThere unfit contents x (held_after_fetch r (reply_there unfit x found) held)
  held-there x r held None there before = before
  held-there x r held (Some bytes) there before = held-judged x r bytes held (unfit x bytes) refl there before

  held-reply : (e : Event) (r : ℕ) (held : Option (Held Bytes)) → HoldsWhatIsThere unfit contents e.entity held → HoldsWhatIsThere unfit contents e.entity (held_after_fetch r (source_replies unfit contents failed e r) held)
  held-reply e r held before =
      elim (has event_cmp e failed) as (λ b. HoldsWhatIsThere unfit contents e.entity (held_after_fetch r (cond b (Err Failed) (reply_there unfit e.entity (contents r))) held)) [
        | true ↦ before
        | false ↦ held-there e.entity r held (contents r) refl before
      ]

  held-step : (e : Event) (r : Record Bytes) → HoldsWhatIsThere unfit contents e.entity r.held → HoldsWhatIsThere unfit contents e.entity (record_after (source_replies unfit contents failed) e r).held
  held-step e r before = by (state_after r.state e) (wants (state_after r.state e) (held_revision r.held)) (is_deleted (state_after r.state e).mode)
    where
      by : (s : State) (fetching deleting : Bool) → HoldsWhatIsThere unfit contents e.entity (cond fetching (held_after_fetch s.rev (source_replies unfit contents failed e s.rev) r.held) (cond deleting None r.held))
      by s true deleting = held-reply e s.rev r.held before
      by s false true = tt
      by s false false = before

  held-applied_to : (x : EntityId) (r : Record Bytes) (es : List Event) → HoldsWhatIsThere unfit contents x r.held → HoldsWhatIsThere unfit contents x (applied_to (source_replies unfit contents failed) r (events_of x es)).held
  held-applied_to x r [] before = before
  held-applied_to x r (e ∷ es) before =
      elim (is_of x e) as (λ b. is_of x e ≡ b → HoldsWhatIsThere unfit contents x (applied_to (source_replies unfit contents failed) r (cond b (e ∷ events_of x es) (events_of x es))).held) [
        | true ↦ λ of. held-applied_to x (record_after (source_replies unfit contents failed) e r) es (subst (λ y. HoldsWhatIsThere unfit contents y (record_after (source_replies unfit contents failed) e r).held) (sym (entity_of x e of)) (held-step e r (subst (λ y. HoldsWhatIsThere unfit contents y r.held) (entity_of x e of) before)))
        | false ↦ λ _. held-applied_to x r es before
      ] refl

  pub held-told : (hz : Option ℕ) (closed : Bool) (ds : List Delivery) (x : EntityId) → HoldsWhatIsThere unfit contents x (record_of (played hz closed (source_replies unfit contents failed) ds).records x).held
  held-told hz closed ds x =
      subst (λ (r : Record Bytes). HoldsWhatIsThere unfit contents x r.held)
      (sym (ap (λ m. record_of m x) (records-played hz closed (source_replies unfit contents failed) ds) ∙ record-records_of (source_replies unfit contents failed) (in_order (due hz closed ds)) x))
      (held-applied_to x blank (in_order (due hz closed ds)) tt)

  -- ---- the entries

  abbrev AllTold : List Entry → Type 0
  AllTold = Each (TellsWhatIsThere unfit contents failed)

  told-judged : (e : Event) (r : ℕ) (bytes : Bytes) (why : Option Unfit) → unfit e.entity bytes ≡ why → contents r ≡ Some bytes → AllTold (entry_of e r (judged why bytes))
  told-judged e r bytes None document there = tt
  told-judged e r bytes (Some why) document there = (subst (λ found. HasUnfit unfit e.entity why found) (sym there) document, tt)

  told-there : (e : Event) (r : ℕ) (found : Option Bytes) → contents r ≡ found → AllTold (entry_of e r (reply_there unfit e.entity found))
  told-there e r None there = (there, tt)
  told-there e r (Some bytes) there = told-judged e r bytes (unfit e.entity bytes) refl there

  told-entries : (e : Event) (r : Record Bytes) → AllTold (entries_after (source_replies unfit contents failed) e r)
  told-entries e r =
      elim (wants (state_after r.state e) (held_revision r.held)) as (λ w. AllTold (cond w (entry_of e (state_after r.state e).rev (source_replies unfit contents failed e (state_after r.state e).rev)) [])) [
        | true ↦ elim (has event_cmp e failed) as (λ b. has event_cmp e failed ≡ b → AllTold (entry_of e (state_after r.state e).rev (cond b (Err Failed) (reply_there unfit e.entity (contents (state_after r.state e).rev))))) [
          | true ↦ λ named. (named, tt)
          | false ↦ λ _. told-there e (state_after r.state e).rev (contents (state_after r.state e).rev) refl
        ] refl
        | false ↦ tt
      ]

  told-apply_all : (p : Played) (es : List Event) → AllTold p.side → AllTold (apply_all (source_replies unfit contents failed) p es).side
  told-apply_all p [] before = before
  told-apply_all p (e ∷ es) before = told-apply_all (apply (source_replies unfit contents failed) p e) es (Each-append (TellsWhatIsThere unfit contents failed) p.side (entries_after (source_replies unfit contents failed) e (record_of p.records e.entity)) before (told-entries e (record_of p.records e.entity)))

  told-happens : (hz : Option ℕ) (ds : List Delivery) (d : Delivery) (p : Played) → AllTold p.side → AllTold (happens hz (source_replies unfit contents failed) ds d p).side
  told-happens hz ds (Told e) p before = Each-append (TellsWhatIsThere unfit contents failed) p.side (cond (is_late hz ds e) (Late e ∷ []) []) before (elim (is_late hz ds e) as (λ b. AllTold (cond b (Late e ∷ []) [])) [ true ↦ (tt, tt) | false ↦ tt ])
  told-happens hz ds (Ask q) p before = before
  told-happens hz ds (Mapping v) p before = before
  told-happens hz ds (Match q) p before = before
  told-happens hz ds (Watermark w) p before = told-apply_all p (newly_due hz ds false (ds ++ Watermark w ∷ [])) before

  told-play : (hz : Option ℕ) (ds : List Delivery) → AllTold (play hz (source_replies unfit contents failed) ds).side
  told-play hz = by_pushes (λ ds. AllTold (play hz (source_replies unfit contents failed) ds).side) tt
      (λ ds d before. subst (λ (p : Played). AllTold p.side) (sym (play-push hz (source_replies unfit contents failed) ds d)) (told-happens hz ds d (play hz (source_replies unfit contents failed) ds) before))

  pub entries-told : (hz : Option ℕ) (closed : Bool) (ds : List Delivery) → Each (TellsWhatIsThere unfit contents failed) (played hz closed (source_replies unfit contents failed) ds).side
  entries-told hz false ds = told-play hz ds
  entries-told hz true ds = told-apply_all (play hz (source_replies unfit contents failed) ds) (newly_due hz ds true ds) (told-play hz ds)
