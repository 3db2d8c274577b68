-- The state of a replay of deliveries that fit does too.
use Rattle.std.proofs.Common.{◌≡◌, ℕ, ℤ, ◌<◌, ◌^◌, length, Bool, true, false, not, cond, ◌&&◌, ◌||◌, ◌==◌, List, [], ◌∷◌, ◌++◌, Option, None, Some, IfSome, Result, Ok, Err, Less, Equal, Greater, fold, filter, filter_map, is_lt, int_lt, sym, ◌∙◌, subst, arith, nat_lt, nat_le}
use Rattle.std.specs.Prelude.{FitsSigned, unwrap_or}
use Rattle.std.specs.{Int.w64, BTreeSet.insert_key, Ordering.eq_by_cmp, Ordering.match_ordering, List.cons_option}
use Rattle.std.specs.FinMap.{entries-insert, get-entries, len-entries, len-empty}
use Rattle.std.specs.FinMap.Entries.{find, put, by_order}
use Rattle.std.specs.FinMap as finite
use Rattle.sorted_sets.specs.Rising.{Each}
use Rattle.sorted_sets.proofs.Pushes.{by_pushes}
use Rattle.entity_model.specs.{declared.id.EntityId.EntityId, declared.event.Event.Event, declared.event.Kind.Kind}
use Rattle.entity_model.specs.declared.event.Kind.TheVariants.{Edit, Delete, Undelete, ReconcileDeleted, ReconcileKept}
use Rattle.entity_model.specs.{EntityId.IsId, EntityId.entity_cmp, EntityId.entity_cmp_total, Event.event_cmp}
use Rattle.delivery.specs.declared.Delivery.{Delivery}
use Rattle.delivery.specs.declared.Delivery.TheVariants.{Event as Told, Watermark, Ask, Mapping, Match}
use Rattle.entity_state.specs.{declared.record.Held.Held, declared.record.Record.Record, declared.state.State.State}
use Rattle.entity_state.specs.State.{kept, deleted, after_kind, state_after, is_deleted}
use Rattle.entity_state.specs.{Record.blank, Record.held_revision, Record.wants, Standing.is_reconciliation, Standing.reconciled_after}
use Rattle.entity_state.specs.{declared.entry.Cause.Cause, declared.entry.Entry.Entry, declared.entry.Entry.TheVariants.Late}
use Rattle.reorder_buffer.specs.Watermarks.{greater, is_due, floor, is_below}
use Rattle.replay_model.specs.Acceptance.{arrivals_after, watermark_of, event_passing, events_passing, events, mark, is_late, is_accepted, due}
use Rattle.replay_model.specs.Fate.{in_order}
use Rattle.replay_model.specs.Play.{Replies, Played, held_after_fetch, record_after, entry_of, entries_after, apply, apply_all, newly_due, happens, play, nothing_played}
use Rattle.replay_model.specs.{Records.Bytes, Records.Records, Records.record_of, ReplayState.following}
use Rattle.replay_model.proofs.Arrivals.{play-push}
use Rattle.snapshot.specs.{Whole.Saved, Whole.lines_before_end, File.IsFitSaved}
use Rattle.snapshot.specs.{Fit.AreFitCounts, Fit.IsFitEvent, Fit.IsFitRecord, Fit.IsFitEntry, Deliveries.IsFitDelivery}

-- ---- lists

module _ {A : Type 0} (P : A → Type 0) where
  pub each_joined : (xs ys : List A) → Each P xs → Each P ys → Each P (xs ++ ys)
  each_joined [] ys first second = second
  each_joined (x ∷ xs) ys first second = (first.0, each_joined xs ys first.1 second)

  pub each_front : (xs ys : List A) → Each P (xs ++ ys) → Each P xs
  each_front [] ys all = tt
  each_front (x ∷ xs) ys all = (all.0, each_front xs ys all.1)

  pub each_back : (xs ys : List A) → Each P (xs ++ ys) → Each P ys
  each_back [] ys all = all
  each_back (x ∷ xs) ys all = each_back xs ys all.1

  pub each_filtered : (p : A → Bool) (xs : List A) → Each P xs → Each P (filter p xs)
  each_filtered p [] all = tt
  each_filtered p (x ∷ xs) all = by (p x) (each_filtered p xs all.1)
    where
      by : (b : Bool) → Each P (filter p xs) → Each P (cond b (x ∷ filter p xs) (filter p xs))
      by true rest = (all.0, rest)
      by false rest = rest

each_inserted : (P : Event → Type 0) (xs : List Event) (e : Event) → P e → Each P xs → Each P (insert_key event_cmp xs e)
each_inserted P [] e here all = (here, tt)
each_inserted P (x ∷ xs) e here all =
    let rest = each_inserted P xs e here all.1 in
    elim (event_cmp e x) as (λ r. Each P (match_ordering r (e ∷ x ∷ xs) (x ∷ xs) (x ∷ insert_key event_cmp xs e))) [
      | Less ↦ (here, all)
      | Equal ↦ all
      | Greater ↦ (all.0, rest)
    ]

each_sorted : (P : Event → Type 0) (xs : List Event) → Each P xs → Each P (in_order xs)
each_sorted P [] all = tt
each_sorted P (x ∷ xs) all = each_inserted P (in_order xs) x all.0 (each_sorted P xs all.1)

-- ---- the events of deliveries

events_fit : (ds : List Delivery) → Each IsFitDelivery ds → Each IsFitEvent (events ds)
events_fit [] fit = tt
events_fit (Told e ∷ ds) fit = (fit.0, events_fit ds fit.1)
events_fit (Watermark w ∷ ds) fit = events_fit ds fit.1
events_fit (Ask q ∷ ds) fit = events_fit ds fit.1
events_fit (Mapping v ∷ ds) fit = events_fit ds fit.1
events_fit (Match q ∷ ds) fit = events_fit ds fit.1

passing_fit_after : (test : List Delivery → Event → Bool) (ds before : List Delivery) → Each IsFitDelivery ds → Each IsFitEvent (filter_map (event_passing test) (arrivals_after before ds))
passing_fit_after test [] before fit = tt
passing_fit_after test (Told e ∷ ds) before fit = by (test before e) (passing_fit_after test ds (before ++ Told e ∷ []) fit.1)
  where
    by : (b : Bool) → Each IsFitEvent (filter_map (event_passing test) (arrivals_after (before ++ Told e ∷ []) ds)) → Each IsFitEvent (cons_option (cond b (Some e) None) (filter_map (event_passing test) (arrivals_after (before ++ Told e ∷ []) ds)))
    by true rest = (fit.0, rest)
    by false rest = rest
passing_fit_after test (Watermark w ∷ ds) before fit = passing_fit_after test ds (before ++ Watermark w ∷ []) fit.1
passing_fit_after test (Ask q ∷ ds) before fit = passing_fit_after test ds (before ++ Ask q ∷ []) fit.1
passing_fit_after test (Mapping v ∷ ds) before fit = passing_fit_after test ds (before ++ Mapping v ∷ []) fit.1
passing_fit_after test (Match q ∷ ds) before fit = passing_fit_after test ds (before ++ Match q ∷ []) fit.1

passing_fit : (test : List Delivery → Event → Bool) (ds : List Delivery) → Each IsFitDelivery ds → Each IsFitEvent (events_passing test ds)
passing_fit test ds fit = passing_fit_after test ds [] fit

newly_due_fit : (h : Option ℕ) (before : List Delivery) (closed : Bool) (ds : List Delivery) → Each IsFitDelivery ds → Each IsFitEvent (newly_due h before closed ds)
newly_due_fit h before closed ds fit =
    each_sorted IsFitEvent (filter (λ e. not (is_due false (mark before) e)) (due h closed ds))
    (each_filtered IsFitEvent (λ e. not (is_due false (mark before) e)) (due h closed ds)
    (each_filtered IsFitEvent (is_due closed (mark ds)) (events_passing (is_accepted h) ds) (passing_fit (is_accepted h) ds fit)))

-- ---- the mark

mark_fits_from : (ds : List Delivery) (m : Option ℤ) → IfSome m (FitsSigned w64) → Each IsFitDelivery ds → IfSome (fold greater m (filter_map watermark_of ds)) (FitsSigned w64)
mark_fits_from [] m here fit = here
mark_fits_from (Told e ∷ ds) m here fit = mark_fits_from ds m here fit.1
mark_fits_from (Watermark w ∷ ds) m here fit = mark_fits_from ds (greater m w) (next m here) fit.1
  where
    chosen : (b : Bool) (x : ℤ) → FitsSigned w64 x → FitsSigned w64 (cond b w x)
    chosen true x other = fit.0
    chosen false x other = other

    next : (m : Option ℤ) → IfSome m (FitsSigned w64) → IfSome (greater m w) (FitsSigned w64)
    next None here = fit.0
    next (Some x) here = chosen (int_lt x w) x here
mark_fits_from (Ask q ∷ ds) m here fit = mark_fits_from ds m here fit.1
mark_fits_from (Mapping v ∷ ds) m here fit = mark_fits_from ds m here fit.1
mark_fits_from (Match q ∷ ds) m here fit = mark_fits_from ds m here fit.1

-- ---- a record after an event

state_chosen : (b : Bool) (s t : State) → s.rev < 2 ^ 64 → t.rev < 2 ^ 64 → (cond b s t).rev < 2 ^ 64
state_chosen true s t first second = first
state_chosen false s t first second = second

kind_fits : (k : Kind) (s : State) (r : ℕ) → s.rev < 2 ^ 64 → r < 2 ^ 64 → (after_kind k s r).rev < 2 ^ 64
kind_fits Edit s r before now = state_chosen (nat_lt s.rev r) (kept r) s now before
kind_fits Delete s r before now = state_chosen (nat_le s.rev r) (deleted r) s now before
kind_fits Undelete s r before now = state_chosen (nat_lt s.rev r || ((s.rev == r) && is_deleted s.mode)) (kept r) s now before
kind_fits ReconcileDeleted s r before now = now
kind_fits ReconcileKept s r before now = now

abbrev IsFitHeld : Option (Held Bytes) → Type 0
IsFitHeld held = IfSome held (λ h. h.revision < 2 ^ 64)

fetched_fits : (r : ℕ) (reply : Result Bytes Cause) (held : Option (Held Bytes)) → r < 2 ^ 64 → IsFitHeld held → IsFitHeld (held_after_fetch r reply held)
fetched_fits r (Ok bytes) held now before = now
fetched_fits r (Err cause) held now before = before

held_chosen : (a b : Bool) (x y : Option (Held Bytes)) → IsFitHeld x → IsFitHeld y → IsFitHeld (cond a x (cond b None y))
held_chosen true b x y first second = first
held_chosen false true x y first second = tt
held_chosen false false x y first second = second

reconciled_chosen : (b : Bool) (x y : Option Event) → IfSome x IsFitEvent → IfSome y IsFitEvent → IfSome (cond b x y) IsFitEvent
reconciled_chosen true x y first second = first
reconciled_chosen false x y first second = second

reconciled_fits : (o : Option Event) (e : Event) → IfSome o IsFitEvent → IsFitEvent e → IfSome (reconciled_after o e) IsFitEvent
reconciled_fits None e before now = reconciled_chosen (is_reconciliation e.kind) (Some e) None now tt
reconciled_fits (Some r) e before now = reconciled_chosen (is_reconciliation e.kind && is_lt (event_cmp r e)) (Some e) (Some r) now before

record_fits : (replies : Replies) (e : Event) (r : Record Bytes) → IsFitEvent e → IsFitRecord r → IsFitRecord (record_after replies e r)
record_fits replies e r now before =
    let rev : (state_after r.state e).rev < 2 ^ 64 = kind_fits e.kind r.state e.rev before.rev now.rev in
    record {
      rev = rev;
      held = held_chosen (wants (state_after r.state e) (held_revision r.held)) (is_deleted (state_after r.state e).mode)
          (held_after_fetch (state_after r.state e).rev (replies e (state_after r.state e).rev) r.held) r.held
          (fetched_fits (state_after r.state e).rev (replies e (state_after r.state e).rev) r.held rev before.held) before.held;
      reconciled = reconciled_fits r.reconciled e before.reconciled now;
    }

-- ---- the records

abbrev IsFitIn : EntityId × Record Bytes → Type 0
IsFitIn entry = IsId entry.0 × IsFitRecord entry.1

each_put : (k : EntityId) (v : Record Bytes) (es : List (EntityId × Record Bytes)) → IsId k → IsFitRecord v → Each IsFitIn es → Each IsFitIn (put entity_cmp k v es)
each_put k v [] id fit all = ((id, fit), tt)
each_put k v (e ∷ es) id fit all =
    let rest = each_put k v es id fit all.1 in
    elim (entity_cmp k e.0) as (λ r. Each IsFitIn (by_order r ((k, v) ∷ e ∷ es) ((e.0, v) ∷ es) (e ∷ put entity_cmp k v es))) [
      | Less ↦ ((id, fit), all)
      | Equal ↦ ((all.0.0, fit), all.1)
      | Greater ↦ (all.0, rest)
    ]

found_fits : (x : EntityId) (es : List (EntityId × Record Bytes)) → Each IsFitIn es → IsFitRecord (unwrap_or (find entity_cmp x es) blank)
found_fits x [] all = record { rev = omega arith; held = tt; reconciled = tt }
found_fits x (e ∷ es) all = by (eq_by_cmp entity_cmp x e.0) (found_fits x es all.1)
  where
    by : (b : Bool) → IsFitRecord (unwrap_or (find entity_cmp x es) blank) → IsFitRecord (unwrap_or (cond b (Some e.1) (find entity_cmp x es)) blank)
    by true rest = all.0.1
    by false rest = rest

record_of_fits : (m : Records) (x : EntityId) → Each IsFitIn (finite.entries m) → IsFitRecord (record_of m x)
record_of_fits m x all = subst (λ o. IsFitRecord (unwrap_or o blank)) (sym (get-entries m x)) (found_fits x (finite.entries m) all)

-- ---- what is played

record IsFitPlayed (p : Played) : Type 0 where
  records : Each IsFitIn (finite.entries p.records)
  side : Each IsFitEntry p.side

entry_fits : (e : Event) (r : ℕ) (reply : Result Bytes Cause) → IsFitEvent e → r < 2 ^ 64 → Each IsFitEntry (entry_of e r reply)
entry_fits e r (Ok bytes) now rev = tt
entry_fits e r (Err cause) now rev = ((now, rev), tt)

entries_chosen : (b : Bool) (es : List Entry) → Each IsFitEntry es → Each IsFitEntry (cond b es [])
entries_chosen true es fit = fit
entries_chosen false es fit = tt

apply_fits : (replies : Replies) (p : Played) (e : Event) → IsFitPlayed p → IsFitEvent e → IsFitPlayed (apply replies p e)
apply_fits replies p e before now =
    let r = record_of p.records e.entity in
    let fit = record_of_fits p.records e.entity before.records in
    record {
      records = subst (Each IsFitIn) (sym (entries-insert entity_cmp_total p.records e.entity (record_after replies e r)))
          (each_put e.entity (record_after replies e r) (finite.entries p.records) now.id (record_fits replies e r now fit) before.records);
      side = each_joined IsFitEntry p.side (entries_after replies e r) before.side
          (entries_chosen (wants (state_after r.state e) (held_revision r.held)) (entry_of e (state_after r.state e).rev (replies e (state_after r.state e).rev))
          (entry_fits e (state_after r.state e).rev (replies e (state_after r.state e).rev) now (kind_fits e.kind r.state e.rev fit.rev now.rev)));
    }

apply_all_fits : (replies : Replies) (es : List Event) (p : Played) → IsFitPlayed p → Each IsFitEvent es → IsFitPlayed (apply_all replies p es)
apply_all_fits replies [] p before now = before
apply_all_fits replies (e ∷ es) p before now = apply_all_fits replies es (apply replies p e) (apply_fits replies p e before now.0) now.1

happens_fits : (h : Option ℕ) (replies : Replies) (ds : List Delivery) (d : Delivery) (p : Played) → IsFitPlayed p → Each IsFitDelivery (ds ++ d ∷ []) → IsFitPlayed (happens h replies ds d p)
happens_fits h replies ds (Told e) p before fit = record {
  records = before.records;
  side = each_joined IsFitEntry p.side (cond (is_late h ds e) (Late e ∷ []) []) before.side
      (entries_chosen (is_late h ds e) (Late e ∷ []) ((each_back IsFitDelivery ds (Told e ∷ []) fit).0, tt));
}
happens_fits h replies ds (Watermark w) p before fit = apply_all_fits replies (newly_due h ds false (ds ++ Watermark w ∷ [])) p before (newly_due_fit h ds false (ds ++ Watermark w ∷ []) fit)
happens_fits h replies ds (Ask q) p before fit = before
happens_fits h replies ds (Mapping v) p before fit = before
happens_fits h replies ds (Match q) p before fit = before

none_fit : (es : List (EntityId × Record Bytes)) → length es ≡ 0 → Each IsFitIn es
none_fit [] is = tt
none_fit (e ∷ es) is = absurd (omega arith)

nothing_fits : IsFitPlayed nothing_played
nothing_fits = record {
  records = none_fit (finite.entries finite.empty) (sym (len-entries (finite.empty {X = Record Bytes} {R = entity_cmp})) ∙ len-empty entity_cmp (Record Bytes));
  side = tt;
}

play_fits : (h : Option ℕ) (replies : Replies) (ds : List Delivery) → Each IsFitDelivery ds → IsFitPlayed (play h replies ds)
play_fits h replies = by_pushes (λ ds. Each IsFitDelivery ds → IsFitPlayed (play h replies ds)) (λ _. nothing_fits) step
  where
    step : (ds : List Delivery) (d : Delivery) → (Each IsFitDelivery ds → IsFitPlayed (play h replies ds)) → Each IsFitDelivery (ds ++ d ∷ []) → IsFitPlayed (play h replies (ds ++ d ∷ []))
    step ds d before fit =
        subst IsFitPlayed (sym (play-push h replies ds d)) (happens_fits h replies ds d (play h replies ds) (before (each_front IsFitDelivery ds (d ∷ []) fit)) fit)

-- a snapshot whose state is that after deliveries that fit does, where its lines can be counted
pub following_fits : (s : Saved) (h : Option ℕ) (replies : Replies) (ds : List Delivery) → s.state ≡ following h replies ds → AreFitCounts s.counts →
    IfSome h (λ n. n < 2 ^ 64) → Each IsFitDelivery ds → length (lines_before_end s) < 2 ^ 64 → IsFitSaved s
following_fits s h replies ds is counts horizon fit count =
    let played = play_fits h replies ds fit in
    record {
      mark = subst (λ w. IfSome w.buffer.mark (FitsSigned w64)) (sym is) (mark_fits_from ds None tt fit);
      horizon = subst (λ w. IfSome w.buffer.horizon (λ n. n < 2 ^ 64)) (sym is) horizon;
      counts = counts;
      kept = subst (λ w. Each IsFitEvent w.buffer.kept) (sym is)
          (each_filtered IsFitEvent (λ e. not (is_below (floor h (mark ds)) e.time)) (in_order (events ds)) (each_sorted IsFitEvent (events ds) (events_fit ds fit)));
      records = subst (λ w. Each IsFitIn (finite.entries w.played.records)) (sym is) played.records;
      side = subst (λ w. Each IsFitEntry w.played.side) (sym is) played.side;
      count = count;
    }
