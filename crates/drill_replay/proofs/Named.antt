-- Where it is known what the source has, each page that is held or wanted is at a revision that a delivered event names.
use Rattle.std.proofs.Common.{◌≡◌, ℕ, zero, suc, Bool, true, false, cond, ◌||◌, ◌&&◌, ◌==◌, nat_lt, nat_le, List, [], ◌∷◌, ◌++◌, Option, None, Some, Result, Ok, Err, refl, sym, ◌∙◌, ap, subst, true≢false, filter}
use Rattle.std.specs.{List.cons_option, Ordering.eq_by_cmp}
use Rattle.entity_model.specs.{declared.id.EntityId.EntityId, declared.event.Event.Event, declared.event.Kind.Kind}
use Rattle.entity_model.specs.declared.event.Kind.TheVariants.{Edit, Delete, Undelete, ReconcileDeleted, ReconcileKept}
use Rattle.entity_model.specs.{declared.unfit.Unfit.Unfit, Event.event_cmp, Event.event_cmp_total, Event.event_cmp_same}
use Rattle.delivery.specs.declared.Delivery.{Delivery}
use Rattle.delivery.specs.declared.Delivery.TheVariants.{Event as Told, Watermark, Ask, Mapping, Match}
use Rattle.entity_state.specs.{declared.state.State.State, declared.record.Held.Held, declared.record.Record.Record}
use Rattle.entity_state.specs.State.{after_kind, deleted, is_deleted, is_kept, kept, state_after}
use Rattle.entity_state.specs.Record.{held_revision, wants}
use Rattle.entity_state.specs.{declared.entry.Cause.Cause, declared.entry.Cause.TheVariants.Failed}
use Rattle.reorder_buffer.specs.declared.taken.Taken.{Taken}
use Rattle.reorder_buffer.specs.declared.taken.Taken.TheVariants.{New, Repeat, Late}
use Rattle.reorder_buffer.specs.{Watermarks.is_due, Buffered.after_answer, Buffered.answer_to, Buffered.first_due}
use Rattle.sorted_sets.specs.Rising.{has}
use Rattle.sorted_sets.proofs.{Bools.and_left, Bools.and_right, Bools.clash, Bools.equal, Bools.or_true, Filtering.has-filter}
use Rattle.sorted_sets.proofs.{FirstPassing.has-found, FirstPassing.has-remove_key, Pushes.by_pushes}
use Rattle.sorted_sets.proofs.Rising.{has-append, has-insert_key, has_itself}
use Rattle.replay_model.specs.{Acceptance.event_of, Acceptance.events, Explained.is_fetching, Explained.revision_wanted, Fate.is_of}
use Rattle.replay_model.specs.Play.{Played, Replies, apply, apply_all, held_after, held_after_fetch, record_after}
use Rattle.replay_model.specs.Records.{Bytes, record_of}
use Rattle.replay_model.specs.ReplayState.{ReplayState, after_applying, after_due, after_end, after_event, after_mark, after_next, after_some, delivered, due_now, entered, following, nothing_delivered_within}
use Rattle.replay_model.specs.Replies.{Judgement, judged, reply_there, source_replies}
use Rattle.replay_model.proofs.{Arrivals.events-push, Following.following-delivered}
use Rattle.replay_model.proofs.RecordOf.{entity_of, record-after, record_of-empty}
use Rattle.drill_replay.specs.Told.{keeps_page}

-- the state after an event is kept at a revision of which P holds, where P holds of the revision before and of the event's
pub kept_after : (P : ℕ → Type 0) (k : Kind) (s : State) (r : ℕ) → (is_kept s.mode ≡ true → P s.rev) → (keeps_page k ≡ true → P r) → is_kept (after_kind k s r).mode ≡ true → P (after_kind k s r).rev
kept_after P Edit s r before now = elim (nat_lt s.rev r) as (λ b. is_kept (cond b (kept r) s).mode ≡ true → P (cond b (kept r) s).rev) [ true ↦ λ _. now refl | false ↦ before ]
kept_after P Delete s r before now = elim (nat_le s.rev r) as (λ b. is_kept (cond b (deleted r) s).mode ≡ true → P (cond b (deleted r) s).rev) [ true ↦ λ no. absurd (true≢false (sym no)) | false ↦ before ]
kept_after P Undelete s r before now =
    elim (nat_lt s.rev r || (s.rev == r && is_deleted s.mode)) as (λ b. is_kept (cond b (kept r) s).mode ≡ true → P (cond b (kept r) s).rev) [ true ↦ λ _. now refl | false ↦ before ]
kept_after P ReconcileDeleted s r before now = λ no. absurd (true≢false (sym no))
kept_after P ReconcileKept s r before now = λ _. now refl

-- an event of these names the revision of the entity, and may say that its page is there
pub record IsNamed (es : List Event) (x : EntityId) (rev : ℕ) : Type 0 where
  pub event : Event
  pub there : has event_cmp event es ≡ true
  pub keeps : keeps_page event.kind ≡ true
  pub entity : event.entity ≡ x
  pub at : event.rev ≡ rev

-- each of the first events is one of the second
abbrev pub AreAmong : List Event → List Event → Type 0
AreAmong fs es = (e : Event) → has event_cmp e fs ≡ true → has event_cmp e es ≡ true

module _ (contents : ℕ → Option Bytes) where
  -- bytes that a reply gives are there
  abbrev pub GivesThere : ℕ → Result Bytes Cause → Type 0
  GivesThere r (Ok bytes) = contents r ≡ Some bytes
  GivesThere r (Err cause) = Unit {0}

  -- a source with these contents gives what is there
  pub source_gives : (unfit : Judgement) (failed : List Event) (e : Event) (r : ℕ) → GivesThere r (source_replies unfit contents failed e r)
  source_gives unfit failed e r = by (has event_cmp e failed)
    where
      fit : (bytes : Bytes) (why : Option Unfit) → contents r ≡ Some bytes → GivesThere r (judged why bytes)
      fit bytes None there = there
      fit bytes (Some why) there = tt

      found : (there : Option Bytes) → contents r ≡ there → GivesThere r (reply_there unfit e.entity there)
      found None is = tt
      found (Some bytes) is = fit bytes (unfit e.entity bytes) is

      by : (b : Bool) → GivesThere r (cond b (Err Failed) (reply_there unfit e.entity (contents r)))
      by true = tt
      by false = found (contents r) refl

  module _ (es : List Event) where
    -- the page that is held, if there is one, is at a revision that an event names, and is what is there
    abbrev pub HoldsNamed : EntityId → Option (Held Bytes) → Type 0
    HoldsNamed x None = Unit {0}
    HoldsNamed x (Some h) = IsNamed es x h.revision × (contents h.revision ≡ Some h.content)

    -- the state's page and the held one are at revisions that events name
    pub record RecordNamed (x : EntityId) (r : Record Bytes) : Type 0 where
      pub kept : is_kept r.state.mode ≡ true → IsNamed es x r.state.rev
      pub held : HoldsNamed x r.held

    -- and so it is with each entity
    abbrev pub AllNamed : Played → Type 0
    AllNamed p = (x : EntityId) → RecordNamed x (record_of p.records x)

    -- and each event that waits was delivered
    pub record WorldNamed (w : ReplayState) : Type 0 where
      pub waits : AreAmong w.buffer.waiting es
      pub pages : AllNamed w.played

    -- ---- an event is applied

    own : (e : Event) → has event_cmp e es ≡ true → keeps_page e.kind ≡ true → IsNamed es e.entity e.rev
    own e there keeps = record { event = e; there = there; keeps = keeps; entity = refl; at = refl }

    pub kept_named : (e : Event) (r : Record Bytes) → has event_cmp e es ≡ true → RecordNamed e.entity r → is_kept (state_after r.state e).mode ≡ true → IsNamed es e.entity (state_after r.state e).rev
    kept_named e r there before = kept_after (λ n. IsNamed es e.entity n) e.kind r.state e.rev before.kept (own e there)

    held_fetched : (x : EntityId) (rev : ℕ) (reply : Result Bytes Cause) (held : Option (Held Bytes)) → IsNamed es x rev → GivesThere rev reply → HoldsNamed x held → HoldsNamed x (held_after_fetch rev reply held)
    held_fetched x rev (Ok bytes) held named there before = (named, there)
    held_fetched x rev (Err cause) held named there before = before

    held_named : (x : EntityId) (s : State) (reply : Result Bytes Cause) (held : Option (Held Bytes)) → (is_kept s.mode ≡ true → IsNamed es x s.rev) → GivesThere s.rev reply → HoldsNamed x held → HoldsNamed x (held_after s reply held)
    held_named x s reply held kept there before = by (wants s (held_revision held)) (is_deleted s.mode) refl
      where
        by : (wanted deleting : Bool) → wants s (held_revision held) ≡ wanted → HoldsNamed x (cond wanted (held_after_fetch s.rev reply held) (cond deleting None held))
        by true deleting is = held_fetched x s.rev reply held (kept (and_left (is_kept s.mode) _ is)) there before
        by false true is = tt
        by false false is = before

    module _ (replies : Replies) (gives : (e : Event) (r : ℕ) → GivesThere r (replies e r)) where
      step_named : (e : Event) (r : Record Bytes) → has event_cmp e es ≡ true → RecordNamed e.entity r → RecordNamed e.entity (record_after replies e r)
      step_named e r there before = record {
        kept = kept_named e r there before;
        held = held_named e.entity (state_after r.state e) (replies e (state_after r.state e).rev) r.held (kept_named e r there before) (gives e (state_after r.state e).rev) before.held;
      }

      apply_named : (p : Played) (e : Event) → has event_cmp e es ≡ true → AllNamed p → AllNamed (apply replies p e)
      apply_named p e there all x = subst (RecordNamed x) (sym (record-after replies p.records e x)) (by (is_of x e) refl)
        where
          by : (b : Bool) → is_of x e ≡ b → RecordNamed x (cond b (record_after replies e (record_of p.records x)) (record_of p.records x))
          by true of = subst (λ y. RecordNamed y (record_after replies e (record_of p.records x))) (sym (entity_of x e of))
              (step_named e (record_of p.records x) there (subst (λ y. RecordNamed y (record_of p.records x)) (entity_of x e of) (all x)))
          by false of = all x

      apply_all_named : (p : Played) (fs : List Event) → AreAmong fs es → AllNamed p → AllNamed (apply_all replies p fs)
      apply_all_named p [] among all = all
      apply_all_named p (e ∷ fs) among all =
          apply_all_named (apply replies p e) fs (λ q h. among q (or_true (eq_by_cmp event_cmp q e) (has event_cmp q fs) h)) (apply_named p e (among e (has_itself event_cmp_total e fs)) all)

      -- ---- what is due is applied

      passing : (p : Event → Bool) (fs : List Event) → AreAmong fs es → AreAmong (filter p fs) es
      passing p fs among e h = among e (and_right (p e) (has event_cmp e fs) (sym (has-filter event_cmp event_cmp_same p e fs) ∙ h))

      due_named : (w : ReplayState) → WorldNamed w → WorldNamed (after_due replies w)
      due_named w all = record {
        waits = passing _ w.buffer.waiting all.waits;
        pages = apply_all_named w.played (due_now w.buffer) (passing _ w.buffer.waiting all.waits) all.pages;
      }

      next_named : (w : ReplayState) → WorldNamed w → WorldNamed (after_next replies w)
      next_named w all = by (first_due w.buffer) refl
        where
          by : (found : Option Event) → first_due w.buffer ≡ found → WorldNamed (after_applying replies w found)
          by None is = all
          by (Some e) is = record {
            waits = λ q h. all.waits q (has-remove_key (is_due w.buffer.closed w.buffer.mark) event_cmp q w.buffer.waiting h);
            pages = apply_named w.played e (all.waits e (has-found (is_due w.buffer.closed w.buffer.mark) event_cmp_total e w.buffer.waiting is)) all.pages;
          }

      pub some_named : (steps : ℕ) (w : ReplayState) → WorldNamed w → WorldNamed (after_some replies steps w)
      some_named zero w all = all
      some_named (suc n) w all = next_named (after_some replies n w) (some_named n w all)

      -- ---- a delivery is taken

      event_named : (w : ReplayState) (e : Event) → has event_cmp e es ≡ true → WorldNamed w → WorldNamed (after_event w e)
      event_named w e there all = record { waits = by (answer_to w.buffer e); pages = all.pages }
        where
          either : (q : Event) (b : Bool) → eq_by_cmp event_cmp q e ≡ b → (b || has event_cmp q w.buffer.waiting) ≡ true → has event_cmp q es ≡ true
          either q true is h = ap (λ y. has event_cmp y es) (event_cmp_same q e (equal _ is)) ∙ there
          either q false is h = all.waits q h

          by : (answer : Taken) → AreAmong (after_answer answer w.buffer e).waiting es
          by New q h = either q (eq_by_cmp event_cmp q e) refl (sym (has-insert_key event_cmp_total q e w.buffer.waiting) ∙ h)
          by Repeat q h = all.waits q h
          by Late q h = all.waits q h

      pub end_named : (w : ReplayState) → WorldNamed w → WorldNamed (after_end w)
      end_named w all = record { waits = all.waits; pages = all.pages }

      pub entered_named : (w : ReplayState) (d : Delivery) → ((e : Event) → event_of d ≡ Some e → has event_cmp e es ≡ true) → WorldNamed w → WorldNamed (entered w d)
      entered_named w (Told e) there all = event_named w e (there e refl) all
      entered_named w (Watermark m) there all = record { waits = all.waits; pages = all.pages }
      entered_named w (Ask q) there all = all
      entered_named w (Mapping v) there all = all
      entered_named w (Match q) there all = all

      delivered_named : (w : ReplayState) (d : Delivery) → ((e : Event) → event_of d ≡ Some e → has event_cmp e es ≡ true) → WorldNamed w → WorldNamed (delivered replies w d)
      delivered_named w (Told e) there all = event_named w e (there e refl) all
      delivered_named w (Watermark m) there all = due_named (after_mark w m) (record { waits = all.waits; pages = all.pages })
      delivered_named w (Ask q) there all = all
      delivered_named w (Mapping v) there all = all
      delivered_named w (Match q) there all = all

      start_named : (h : Option ℕ) → WorldNamed (nothing_delivered_within h)
      start_named h = record {
        waits = λ q h. clash h refl;
        pages = λ x. subst (RecordNamed x) (sym (record_of-empty x)) (record { kept = λ kept. absurd (true≢false (sym kept)); held = tt });
      }

      -- the event of the last delivery was delivered
      pub last_among : (ds : List Delivery) (d : Delivery) → AreAmong (events (ds ++ d ∷ [])) es → (e : Event) → event_of d ≡ Some e → has event_cmp e es ≡ true
      last_among ds d among e is =
          among e (ap (has event_cmp e) (events-push ds d) ∙ has-append event_cmp e (events ds) (cons_option (event_of d) [])
          ∙ or_true (has event_cmp e (events ds)) _ (ap (λ o. has event_cmp e (cons_option o [])) is ∙ has_itself event_cmp_total e []))

      -- and so were the others
      pub first_among : (ds : List Delivery) (d : Delivery) → AreAmong (events (ds ++ d ∷ [])) es → AreAmong (events ds) es
      first_among ds d among e h =
          among e (ap (has event_cmp e) (events-push ds d) ∙ has-append event_cmp e (events ds) (cons_option (event_of d) []) ∙ ap (λ b. b || has event_cmp e (cons_option (event_of d) [])) h)

      pub following_named : (hz : Option ℕ) (ds : List Delivery) → AreAmong (events ds) es → WorldNamed (following hz replies ds)
      following_named hz = by_pushes (λ ds. AreAmong (events ds) es → WorldNamed (following hz replies ds)) (λ among. start_named hz)
          (λ ds d before among. subst WorldNamed (sym (following-delivered hz replies ds d))
          (delivered_named (following hz replies ds) d (last_among ds d among) (before (first_among ds d among))))

    -- ---- the page that the least due event wants

    pub wanted_named : (w : ReplayState) (e : Event) → first_due w.buffer ≡ Some e → is_fetching w e ≡ true → WorldNamed w → IsNamed es e.entity (revision_wanted w e)
    wanted_named w e due fetches all =
        kept_named e (record_of w.played.records e.entity) (all.waits e (has-found (is_due w.buffer.closed w.buffer.mark) event_cmp_total e w.buffer.waiting due)) (all.pages e.entity)
        (and_left (is_kept (state_after (record_of w.played.records e.entity).state e).mode) _ fetches)
