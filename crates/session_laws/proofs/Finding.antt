-- Where no event is late and each page is found, nothing is named in the side output.
use Rattle.std.proofs.Common.{◌≡◌, ℕ, Bool, true, false, cond, not, filter, ◌||◌, is_ok, List, [], ◌∷◌, ◌++◌, Option, None, Some, Result, Ok, Err, refl, sym, ◌∙◌, ap, subst, true≢false}
use Rattle.std.specs.List.{cons_option}
use Rattle.entity_model.specs.{declared.id.EntityId.EntityId, declared.event.Event.Event}
use Rattle.entity_model.specs.Event.{event_cmp, event_cmp_total, event_cmp_same}
use Rattle.delivery.specs.declared.Delivery.{Delivery}
use Rattle.delivery.specs.declared.Delivery.TheVariants.{Event as Told, Watermark, Ask, Mapping, Match}
use Rattle.entity_state.specs.{State.is_kept, State.state_after, Record.held_revision, Record.wants, declared.record.Record.Record}
use Rattle.entity_state.specs.{declared.entry.Cause.Cause, declared.entry.Entry.TheVariants.Late}
use Rattle.sorted_sets.specs.Rising.{has}
use Rattle.sorted_sets.proofs.{Bools.and_left, Bools.and_right, Bools.or_true, Filtering.has-filter}
use Rattle.sorted_sets.proofs.{Rising.has-append, Rising.has-sorted, Rising.has_itself, Pushes.by_pushes, Pushes.first_empty}
use Rattle.reorder_buffer.specs.Watermarks.{is_due}
use Rattle.replay_model.specs.Acceptance.{accepted, due, is_accepted, is_late, late, mark}
use Rattle.replay_model.specs.Fate.{is_of}
use Rattle.replay_model.specs.Play.{Played, apply, apply_all, entries_after, entry_of, happens, newly_due, nothing_played, play, played, record_after}
use Rattle.replay_model.specs.{Records.Bytes, Records.record_of, Replies.Judgement, Replies.reply_there, Replies.source_replies}
use Rattle.replay_model.proofs.Arrivals.{events_passing-push, play-push}
use Rattle.replay_model.proofs.RecordOf.{entity_of, record-after, record_of-empty}
use Rattle.drill_replay.proofs.Named.{kept_after}
use Rattle.session_laws.specs.Complete.{FindsDocument, has_document}

-- a document makes no entry
no_entry : (e : Event) (r : ℕ) (reply : Result Bytes Cause) → is_ok reply ≡ true → entry_of e r reply ≡ []
no_entry e r (Ok bytes) found = refl
no_entry e r (Err cause) found = absurd (true≢false (sym found))

module _ (unfit : Judgement) (contents : ℕ → Option Bytes) where
  -- nothing is named, and each page that is there is a document
  record AllFound (p : Played) : Type 0 where
    none : p.side ≡ []
    found : (x : EntityId) → is_kept (record_of p.records x).state.mode ≡ true → has_document unfit contents x (record_of p.records x).state.rev ≡ true

  found-own : (e : Event) (r : Record Bytes) → FindsDocument unfit contents e → (is_kept r.state.mode ≡ true → has_document unfit contents e.entity r.state.rev ≡ true) →
      is_kept (state_after r.state e).mode ≡ true → has_document unfit contents e.entity (state_after r.state e).rev ≡ true
  found-own e r finds before = kept_after (λ n. has_document unfit contents e.entity n ≡ true) e.kind r.state e.rev before finds

  no_entries : (e : Event) (r : Record Bytes) → (is_kept (state_after r.state e).mode ≡ true → has_document unfit contents e.entity (state_after r.state e).rev ≡ true) → entries_after (source_replies unfit contents []) e r ≡ []
  no_entries e r found = by (wants (state_after r.state e) (held_revision r.held)) refl
    where
      by : (w : Bool) → wants (state_after r.state e) (held_revision r.held) ≡ w → cond w (entry_of e (state_after r.state e).rev (reply_there unfit e.entity (contents (state_after r.state e).rev))) [] ≡ []
      by true wanted = no_entry e (state_after r.state e).rev _ (found (and_left (is_kept (state_after r.state e).mode) _ wanted))
      by false wanted = refl

  found-apply : (p : Played) (e : Event) → FindsDocument unfit contents e → AllFound p → AllFound (apply (source_replies unfit contents []) p e)
  found-apply p e finds all = record {
    none = ap (λ l. l ++ entries_after (source_replies unfit contents []) e (record_of p.records e.entity)) all.none
        ∙ no_entries e (record_of p.records e.entity) (found-own e (record_of p.records e.entity) finds (all.found e.entity));
    found = λ x.
        subst (λ (r : Record Bytes). is_kept r.state.mode ≡ true → has_document unfit contents x r.state.rev ≡ true) (sym (record-after (source_replies unfit contents []) p.records e x)) (by x (is_of x e) refl);
  }
    where
      by : (x : EntityId) (b : Bool) → is_of x e ≡ b → is_kept (cond b (record_after (source_replies unfit contents []) e (record_of p.records x)) (record_of p.records x)).state.mode ≡ true →
          has_document unfit contents x (cond b (record_after (source_replies unfit contents []) e (record_of p.records x)) (record_of p.records x)).state.rev ≡ true
      by x true of = subst (λ y. is_kept (state_after (record_of p.records x).state e).mode ≡ true → has_document unfit contents y (state_after (record_of p.records x).state e).rev ≡ true) (sym (entity_of x e of))
          (found-own e (record_of p.records x) finds (subst (λ y. is_kept (record_of p.records x).state.mode ≡ true → has_document unfit contents y (record_of p.records x).state.rev ≡ true) (entity_of x e of) (all.found x)))
      by x false of = all.found x

  -- each of these events finds its document
  abbrev AllFind : List Event → Type 0
  AllFind es = (e : Event) → has event_cmp e es ≡ true → FindsDocument unfit contents e

  found-apply_all : (p : Played) (es : List Event) → AllFind es → AllFound p → AllFound (apply_all (source_replies unfit contents []) p es)
  found-apply_all p [] find all = all
  found-apply_all p (e ∷ es) find all =
      found-apply_all (apply (source_replies unfit contents []) p e) es (λ q h. find q (or_true _ (has event_cmp q es) h))
      (found-apply p e (find e (has_itself event_cmp_total e es)) all)

  -- what is newly due was accepted
  find-due : (hz : Option ℕ) (before : List Delivery) (closed : Bool) (after : List Delivery) → AllFind (accepted hz after) → AllFind (newly_due hz before closed after)
  find-due hz before closed after find e h =
      let new : Event → Bool = λ q. not (is_due false (mark before) q) in
      let was_due : has event_cmp e (due hz closed after) ≡ true = and_right (new e) (has event_cmp e (due hz closed after)) (sym (has-filter event_cmp event_cmp_same new e (due hz closed after)) ∙ sym (has-sorted event_cmp_total e (filter new (due hz closed after))) ∙ h) in
      find e (and_right (is_due closed (mark after) e) (has event_cmp e (accepted hz after)) (sym (has-filter event_cmp event_cmp_same (is_due closed (mark after)) e (accepted hz after)) ∙ was_due))

  rest_empty : {A : Type 0} (xs ys : List A) → xs ++ ys ≡ [] → ys ≡ []
  rest_empty [] ys none = none
  rest_empty (x ∷ xs) ys none = cc

  no_late_entry : (e : Event) (late_now : Bool) → cons_option (cond late_now (Some e) None) [] ≡ [] → cond late_now (Late e ∷ []) [] ≡ []
  no_late_entry e true none = cc
  no_late_entry e false none = refl

  found-happens : (hz : Option ℕ) (ds : List Delivery) (d : Delivery) (p : Played) → late hz (ds ++ d ∷ []) ≡ [] → AllFind (accepted hz (ds ++ d ∷ [])) → AllFound p → AllFound (happens hz (source_replies unfit contents []) ds d p)
  found-happens hz ds (Told e) p none find all = record {
    none = ap (λ l. l ++ cond (is_late hz ds e) (Late e ∷ []) []) all.none
        ∙ no_late_entry e (is_late hz ds e) (rest_empty (late hz ds) _ (sym (events_passing-push (is_late hz) ds (Told e)) ∙ none));
    found = all.found;
  }
  found-happens hz ds (Watermark w) p none find all = found-apply_all p (newly_due hz ds false (ds ++ Watermark w ∷ [])) (find-due hz ds false (ds ++ Watermark w ∷ []) find) all
  found-happens hz ds (Ask q) p none find all = all
  found-happens hz ds (Mapping v) p none find all = all
  found-happens hz ds (Match q) p none find all = all

  found-nothing : AllFound nothing_played
  found-nothing = record {
    none = refl;
    found = λ x kept. let never : is_kept (record_of nothing_played.records x).state.mode ≡ false = ap (λ (r : Record Bytes). is_kept r.state.mode) (record_of-empty x) in absurd (true≢false (sym kept ∙ never));
  }

  has-front : (e : Event) (xs ys : List Event) → has event_cmp e xs ≡ true → has event_cmp e (xs ++ ys) ≡ true
  has-front e xs ys h = has-append event_cmp e xs ys ∙ ap (λ b. b || has event_cmp e ys) h

  found-play : (hz : Option ℕ) (ds : List Delivery) → late hz ds ≡ [] → AllFind (accepted hz ds) → AllFound (play hz (source_replies unfit contents []) ds)
  found-play hz = by_pushes (λ ds. late hz ds ≡ [] → AllFind (accepted hz ds) → AllFound (play hz (source_replies unfit contents []) ds)) (λ none find. found-nothing)
      (λ ds d before none find. subst AllFound (sym (play-push hz (source_replies unfit contents []) ds d))
      (found-happens hz ds d (play hz (source_replies unfit contents []) ds) none find
      (before (first_empty (late hz ds) _ (sym (events_passing-push (is_late hz) ds d) ∙ none)) (λ e h. find e (ap (has event_cmp e) (events_passing-push (is_accepted hz) ds d) ∙ has-front e (accepted hz ds) _ h)))))

  -- the side output of the whole play is empty
  pub none_named : (hz : Option ℕ) (closed : Bool) (ds : List Delivery) → late hz ds ≡ [] → AllFind (accepted hz ds) → (played hz closed (source_replies unfit contents []) ds).side ≡ []
  none_named hz false ds none find = (found-play hz ds none find).none
  none_named hz true ds none find = (found-apply_all (play hz (source_replies unfit contents []) ds) (newly_due hz ds true ds) (find-due hz ds true ds find) (found-play hz ds none find)).none
