-- A snapshot of a replay has few lines: no more than four for each delivery, and one.
use Rattle.std.proofs.Common.{◌≡◌, refl, subst, ap, ℕ, ◌+◌, ◌*◌, ◌≤◌, Bool, true, false, not, cond, List, [], ◌∷◌, ◌++◌, map, length, length-append, Option, None, Some, Result, Ok, Err, arith}
use Rattle.std.specs.FinMap as finite
use Rattle.std.specs.List.{cons_option}
use Rattle.std.proofs.lemmas.List.{length-map}
use Rattle.sorted_sets.proofs.Pushes.{by_pushes}
use Rattle.triple_store.proofs.Stocked.{length-sorted}
use Rattle.delivery.specs.declared.Delivery.{Delivery}
use Rattle.delivery.specs.declared.Delivery.TheVariants.{Event as Told, Watermark, Ask, Mapping, Match}
use Rattle.entity_model.specs.{declared.event.Event.Event, EntityId.entity_cmp_total, Event.event_cmp}
use Rattle.entity_state.specs.{Record.held_revision, Record.wants, State.state_after}
use Rattle.reorder_buffer.specs.Watermarks.{floor, is_below, is_due}
use Rattle.entity_state.specs.{declared.entry.Cause.Cause, declared.entry.Entry.TheVariants.Late}
use Rattle.replay_model.specs.Acceptance.{accepted, due, event_of, event_passing, events, is_accepted, is_late, mark}
use Rattle.replay_model.specs.Fate.{in_order}
use Rattle.replay_model.specs.Play.{Played, Replies, apply, apply_all, entries_after, entry_of, newly_due, nothing_played, play, records_after}
use Rattle.replay_model.specs.{Records.Bytes, Records.record_of, ReplayState.following}
use Rattle.replay_model.proofs.Arrivals.{events-push, events_passing-push, play-push}
use Rattle.replay_model.proofs.{Deliveries.due-kept, Deliveries.due-told, DueParts.due-watermark}
use Rattle.written_laws.proofs.Bounds.{filter_few}
use Rattle.snapshot.specs.declared.line.Line.TheVariants.{Remembered, Side}
use Rattle.snapshot.specs.Whole.{Saved, entity_line, lines_before_end}

-- ---- events

one_at_most : (n : ℕ) (events more : List Event) (o : Option Event) → more ≡ events ++ cons_option o [] → length events ≤ n → length more ≤ n + 1
one_at_most n events more None is few = omega (arith, few, ap length is, length-append events [])
one_at_most n events more (Some e) is few = omega (arith, few, ap length is, length-append events (e ∷ []))

longer : (ds : List Delivery) (d : Delivery) → length ds + 1 ≡ length (ds ++ d ∷ [])
longer ds d = omega (arith, length-append ds (d ∷ []))

events_few : (ds : List Delivery) → length (events ds) ≤ length ds
events_few = by_pushes (λ ds. length (events ds) ≤ length ds) (omega arith)
    (λ ds d before. subst (λ n. length (events (ds ++ d ∷ [])) ≤ n) (longer ds d) (one_at_most (length ds) (events ds) (events (ds ++ d ∷ [])) (event_of d) (events-push ds d) before))

accepted_few : (h : Option ℕ) (ds : List Delivery) → length (accepted h ds) ≤ length ds
accepted_few h = by_pushes (λ ds. length (accepted h ds) ≤ length ds) (omega arith)
    (λ ds d before. subst (λ n. length (accepted h (ds ++ d ∷ [])) ≤ n) (longer ds d)
    (one_at_most (length ds) (accepted h ds) (accepted h (ds ++ d ∷ [])) (event_passing (is_accepted h) (record { before = ds; delivery = d })) (events_passing-push (is_accepted h) ds d) before))

due_few : (h : Option ℕ) (ds : List Delivery) → length (in_order (due h false ds)) ≤ length ds
due_few h ds =
    let few : length (due h false ds) ≤ length (accepted h ds) = filter_few (is_due false (mark ds)) (accepted h ds) in
    omega (arith, length-sorted event_cmp (due h false ds), few, accepted_few h ds)

-- ---- what is played

-- records and entries
abbrev size : Played → ℕ
size p = finite.len p.records + length p.side

entry_few : (fetching : Bool) (e : Event) (r : ℕ) (reply : Result Bytes Cause) → length (cond fetching (entry_of e r reply) []) ≤ 1
entry_few true e r (Ok bytes) = omega arith
entry_few true e r (Err cause) = omega arith
entry_few false e r reply = omega arith

one_few : (replies : Replies) (p : Played) (e : Event) → size (apply replies p e) ≤ size p + 2
one_few replies p e = by (finite.contains_key p.records e.entity) (finite.len-insert entity_cmp_total p.records e.entity _)
  where
    entries : length (apply replies p e).side ≤ length p.side + 1
    entries =
        let few = entry_few (wants (state_after (record_of p.records e.entity).state e) (held_revision (record_of p.records e.entity).held)) e (state_after (record_of p.records e.entity).state e).rev (replies e (state_after (record_of p.records e.entity).state e).rev) in
        omega (arith, few, length-append p.side (entries_after replies e (record_of p.records e.entity)))

    by : (b : Bool) → finite.len (records_after replies p.records e) ≡ cond b (finite.len p.records) (finite.len p.records + 1) → size (apply replies p e) ≤ size p + 2
    by true one = omega (arith, one, entries)
    by false one = omega (arith, one, entries)

all_few : (replies : Replies) (p : Played) (es : List Event) → size (apply_all replies p es) ≤ size p + 2 * length es
all_few replies p [] = omega arith
all_few replies p (e ∷ es) = omega (arith, one_few replies p e, all_few replies (apply replies p e) es)

module _ (h : Option ℕ) (replies : Replies) where
  abbrev AreFew : List Delivery → Type 0
  AreFew ds = size (play h replies ds) ≤ 2 * length (in_order (due h false ds)) + length ds

  more_few : (ds : List Delivery) (d : Delivery) → AreFew ds → AreFew (ds ++ d ∷ [])
  more_few ds (Told e) few =
      let same : in_order (due h false (ds ++ Told e ∷ [])) ≡ in_order (due h false ds) = ap in_order (due-told h ds e) in
      omega (arith, few, ap size (play-push h replies ds (Told e)), late (is_late h ds e), length-append (play h replies ds).side (cond (is_late h ds e) (Late e ∷ []) []), ap length same, longer ds (Told e))
    where
      late : (b : Bool) → length (cond b (Late e ∷ []) []) ≤ 1
      late true = omega arith
      late false = omega arith
  more_few ds (Watermark w) few =
      let es : List Event = newly_due h ds false (ds ++ Watermark w ∷ []) in
      omega (arith, few, ap size (play-push h replies ds (Watermark w)), all_few replies (play h replies ds) es, ap length (due-watermark h ds w), length-append (in_order (due h false ds)) es, longer ds (Watermark w))
  more_few ds (Ask q) few =
      let same : in_order (due h false (ds ++ Ask q ∷ [])) ≡ in_order (due h false ds) = ap in_order (due-kept h false ds (Ask q) refl refl) in
      omega (arith, few, ap size (play-push h replies ds (Ask q)), ap length same, longer ds (Ask q))
  more_few ds (Match q) few =
      let same : in_order (due h false (ds ++ Match q ∷ [])) ≡ in_order (due h false ds) = ap in_order (due-kept h false ds (Match q) refl refl) in
      omega (arith, few, ap size (play-push h replies ds (Match q)), ap length same, longer ds (Match q))
  more_few ds (Mapping v) few =
      let same : in_order (due h false (ds ++ Mapping v ∷ [])) ≡ in_order (due h false ds) = ap in_order (due-kept h false ds (Mapping v) refl refl) in
      omega (arith, few, ap size (play-push h replies ds (Mapping v)), ap length same, longer ds (Mapping v))

  nothing_few : AreFew []
  nothing_few = let none : finite.len nothing_played.records ≡ 0 = finite.len-empty _ _ in omega (arith, none)

  played_few : (ds : List Delivery) → size (play h replies ds) ≤ 3 * length ds
  played_few ds = omega (arith, by_pushes AreFew nothing_few more_few ds, due_few h ds)

  -- the lines of what is saved of a replay
  pub lines_few : (s : Saved) (ds : List Delivery) → s.state ≡ following h replies ds → length (lines_before_end s) ≤ 4 * length ds + 1
  lines_few s ds is =
      let kept : length s.state.buffer.kept ≤ length ds =
      omega (arith, ap (λ w. length w.buffer.kept) is, filter_few (λ e. not (is_below (floor h (mark ds)) e.time)) (in_order (events ds)), length-sorted event_cmp (events ds), events_few ds) in
      omega (
        arith,
        kept,
        played_few ds,
        ap (λ w. finite.len w.played.records) is,
        ap (λ w. length w.played.side) is,
        length-append (map Remembered s.state.buffer.kept) (map Side s.state.played.side ++ map entity_line (finite.entries s.state.played.records)),
        length-append (map Side s.state.played.side) (map entity_line (finite.entries s.state.played.records)),
        length-map s.state.buffer.kept Remembered,
        length-map s.state.played.side Side,
        length-map (finite.entries s.state.played.records) entity_line,
        finite.len-entries s.state.played.records,
      )
