-- The lines of a state at rest are read as that state.
use Rattle.std.proofs.Common.{◌≡◌, ℕ, ◌+◌, ◌==◌, true, cond, T, List, [], ◌∷◌, ◌++◌, map, length, fold, Option, Some, None, Less, Greater, refl, sym, ◌∙◌, ap, subst, arith, append_assoc, append-nil, length-append}
use Rattle.std.proofs.{lemmas.List.length-map, lemmas.Bool.Decides.nat_tests}
use Rattle.std.specs.Prelude.{option_and_then}
use Rattle.std.specs.Ordering.{ordering_reverse}
use Rattle.std.specs.FinMap.{same_map, get-from_entries, get-entries, from_entries_push, entries_sorted}
use Rattle.std.specs.FinMap.Entries.{find, below_all, is_sorted}
use Rattle.std.specs.FinMap as finite
use Rattle.sorted_sets.proofs.Keys.{and_first, and_second, less}
use Rattle.entity_model.specs.{declared.id.EntityId.EntityId, declared.event.Event.Event}
use Rattle.entity_model.specs.EntityId.{entity_cmp, entity_cmp_total, entity_cmp_same}
use Rattle.entity_state.specs.declared.record.Record.{Record}
use Rattle.entity_state.specs.declared.entry.Entry.{Entry}
use Rattle.replay_model.specs.{Records.Bytes, Records.Records, ReplayState.ReplayState}
use Rattle.snapshot.specs.declared.line.Line.{Line}
use Rattle.snapshot.specs.declared.line.Line.TheVariants.{Remembered, Side, End}
use Rattle.snapshot.specs.Waiting.{IsAtRest}
use Rattle.snapshot.specs.Whole.{Saved, Loading, unbegun, begun, ended, head_of, entity_line, lines_before_end, snapshot_lines, beginning, remembering, recording, noting, after_line, after_lines, whole, saved_in}
use Rattle.reorder_buffer.specs.Buffered.{Buffered, after_taking}
use Rattle.snapshot.proofs.TakenBack.{taken_back}

-- ---- lists of lines

then_then : {A B C : Type 0} (f : A → Option B) (g : B → Option C) (o : Option A) → option_and_then (λ a. option_and_then g (f a)) o ≡ option_and_then g (option_and_then f o)
then_then f g None = refl
then_then f g (Some a) = refl

after_lines-append : (l : Loading) (xs ys : List Line) → after_lines l (xs ++ ys) ≡ option_and_then (λ next. after_lines next ys) (after_lines l xs)
after_lines-append l [] ys = refl
after_lines-append l (x ∷ xs) ys =
    (λ i. option_and_then (λ next. after_lines-append next xs ys i) (after_line l x))
    ∙ then_then (λ next. after_lines next xs) (λ next. after_lines next ys) (after_line l x)

-- lines of one form, each of which adds a thing to the state
module _ {A : Type 0} (f : A → Line) (g : ReplayState → A → ReplayState)
    (each : (s : Saved) (w : ReplayState) (n : ℕ) (x : A) → after_line (begun (record s { state = w }) n) (f x) ≡ Some (begun (record s { state = g w x }) (n + 1))) where
  stage : (xs : List A) (s : Saved) (w : ReplayState) (n : ℕ) →
      after_lines (begun (record s { state = w }) n) (map f xs) ≡ Some (begun (record s { state = fold g w xs }) (n + length xs))
  stage [] s w n = ap (λ m. Some (begun (record s { state = w }) m)) (omega arith)
  stage (x ∷ xs) s w n =
      rw (each s w n x) (stage xs s (g w x) (n + 1) ∙ ap (λ m. Some (begun (record s { state = fold g (g w x) xs }) m)) (omega arith))

-- ---- the events

abbrev pub with_buffer : ReplayState → Buffered → ReplayState
with_buffer w b = record w { buffer = b }

remembered_fold : (es : List Event) (w : ReplayState) → fold remembering w es ≡ with_buffer w (fold after_taking w.buffer es)
remembered_fold [] w = refl
remembered_fold (e ∷ es) w = remembered_fold es (remembering w e)

-- ---- the records

pub not_before : {X : Type 0} (done todo : List (EntityId × X)) (k : EntityId) (v : X) → T (is_sorted entity_cmp (done ++ (k, v) ∷ todo)) → find entity_cmp k done ≡ None
not_before {X = X} [] todo k v rise = refl
not_before {X = X} (e ∷ done) todo k v rise =
    let below : entity_cmp e.0 k ≡ Less = below_middle done (and_first _ _ rise) in
    let above : entity_cmp k e.0 ≡ Greater = entity_cmp_total.antisymm k e.0 ∙ ap ordering_reverse below in
    let rest = not_before done todo k v (and_second _ _ rise) in
    rw above rest
  where
    below_middle : (done : List (EntityId × X)) → T (below_all entity_cmp e.0 (done ++ (k, v) ∷ todo)) → entity_cmp e.0 k ≡ Less
    below_middle [] h = less _ (and_first _ _ h)
    below_middle (f ∷ done) h = below_middle done (and_second _ _ h)

pub records_fold : {X : Type 0} (done todo : List (EntityId × X)) → T (is_sorted entity_cmp (done ++ todo)) →
    fold (λ m e. finite.insert m e.0 e.1) (finite.from_entries {R = entity_cmp} done) todo ≡ finite.from_entries {R = entity_cmp} (done ++ todo)
records_fold done [] rise = ap (λ es. finite.from_entries {R = entity_cmp} es) (sym (append-nil done))
records_fold done (e ∷ todo) rise =
    let grouped : (done ++ e ∷ []) ++ todo ≡ done ++ e ∷ todo = append_assoc done (e ∷ []) todo in
    ap (λ m. fold (λ m e. finite.insert m e.0 e.1) m todo) (sym (from_entries_push entity_cmp_total entity_cmp_same done e.0 e.1 (not_before done todo e.0 e.1 rise)))
    ∙ records_fold (done ++ e ∷ []) todo (subst (λ es. T (is_sorted entity_cmp es)) (sym grouped) rise)
    ∙ ap (λ es. finite.from_entries {R = entity_cmp} es) grouped

-- a map's entries go in as they stand
records_back : (m : Records) → fold (λ m e. finite.insert m e.0 e.1) finite.empty (finite.entries m) ≡ m
records_back m =
    records_fold [] (finite.entries m) (entries_sorted m)
    ∙ same_map entity_cmp_total entity_cmp_same _ m (λ q. get-from_entries entity_cmp_total (finite.entries m) q ∙ sym (get-entries m q))

abbrev pub with_records : ReplayState → Records → ReplayState
with_records w m = record w { played = record w.played { records = m } }

pub recorded_fold : (es : List (EntityId × Record Bytes)) (w : ReplayState) → fold recording w es ≡ with_records w (fold (λ m e. finite.insert m e.0 e.1) w.played.records es)
recorded_fold [] w = refl
recorded_fold (e ∷ es) w = recorded_fold es (recording w e)

-- ---- the side output

abbrev pub with_side : ReplayState → List Entry → ReplayState
with_side w side = record w { played = record w.played { side = side } }

noted_fold : (es : List Entry) (w : ReplayState) → fold noting w es ≡ with_side w (w.played.side ++ es)
noted_fold [] w = ap (with_side w) (sym (append-nil w.played.side))
noted_fold (e ∷ es) w = noted_fold es (noting w e) ∙ ap (with_side w) (append_assoc w.played.side (e ∷ []) es)

-- ---- all of it

pub same_count : (m n : ℕ) (s : Saved) → m ≡ n → cond (m == n) (Some (ended s)) None ≡ Some (ended s)
same_count m n s same =
    let test : (m == n) ≡ true = grind (arith, nat_tests) in
    rw test refl

-- how many lines there are before the end
pub counted : (s : Saved) → length (lines_before_end s) ≡ ((1 + length s.state.buffer.kept) + length s.state.played.side) + length (finite.entries s.state.played.records)
counted s =
    let kept = map Remembered s.state.buffer.kept in
    let side = map Side s.state.played.side in
    let records = map entity_line (finite.entries s.state.played.records) in
    omega (
      arith,
      length-append kept (side ++ records),
      length-append side records,
      length-map s.state.buffer.kept Remembered,
      length-map s.state.played.side Side,
      length-map (finite.entries s.state.played.records) entity_line,
    )

module _ (s : Saved) where
  abbrev pub kept_in : ReplayState
  kept_in = fold remembering (beginning (head_of s)).state s.state.buffer.kept

  abbrev pub noted_in : ReplayState
  noted_in = fold noting kept_in s.state.played.side

  abbrev pub recorded_in : ReplayState
  recorded_in = fold recording noted_in (finite.entries s.state.played.records)

  abbrev pub lines_counted : ℕ
  lines_counted = ((1 + length s.state.buffer.kept) + length s.state.played.side) + length (finite.entries s.state.played.records)

  -- the lines before the end are read one after the other
  before_end : after_lines unbegun (lines_before_end s) ≡ Some (begun (record s { state = recorded_in }) lines_counted)
  before_end =
      let first = stage Remembered remembering (λ s w n e. refl) s.state.buffer.kept s (beginning (head_of s)).state 1 in
      let second = stage Side noting (λ s w n e. refl) s.state.played.side s kept_in (1 + length s.state.buffer.kept) in
      let third = stage entity_line recording (λ s w n e. refl) (finite.entries s.state.played.records) s noted_in ((1 + length s.state.buffer.kept) + length s.state.played.side) in
      let side = map Side s.state.played.side in
      let records = map entity_line (finite.entries s.state.played.records) in
      after_lines-append (begun (beginning (head_of s)) 1) (map Remembered s.state.buffer.kept) (side ++ records)
      ∙ ap (λ o. option_and_then (λ next. after_lines next (side ++ records)) o) first
      ∙ after_lines-append (begun (record s { state = kept_in }) (1 + length s.state.buffer.kept)) side records
      ∙ ap (λ o. option_and_then (λ next. after_lines next records) o) second
      ∙ third

  module _ (is : IsAtRest s.state.buffer) where
    -- the events make the buffer again, and the entries the side output
    pub kept_again : kept_in ≡ with_buffer (beginning (head_of s)).state s.state.buffer
    kept_again =
        let w = (beginning (head_of s)).state in
        remembered_fold s.state.buffer.kept w ∙ ap (with_buffer w) (taken_back s.state.buffer is)

    pub noted_again : noted_in ≡ with_side (with_buffer (beginning (head_of s)).state s.state.buffer) s.state.played.side
    noted_again = ap (λ x. fold noting x s.state.played.side) kept_again ∙ noted_fold s.state.played.side (with_buffer (beginning (head_of s)).state s.state.buffer)

    -- and all lines make the state again
    pub same_state : recorded_in ≡ s.state
    same_state =
        let p = s.state.played in
        let w = with_side (with_buffer (beginning (head_of s)).state s.state.buffer) p.side in
        ap (λ x. fold recording x (finite.entries p.records)) noted_again ∙ recorded_fold (finite.entries p.records) w ∙ ap (with_records w) (records_back p.records)

    -- the lines of a state at rest are read as that state
    pub saved_back : saved_in (snapshot_lines s) ≡ Some s
    saved_back =
        let last = End (length (lines_before_end s)) ∷ [] in
        let made : Saved = record s { state = recorded_in } in
        ap (λ o. option_and_then whole o)
        (after_lines-append unbegun (lines_before_end s) last
        ∙ ap (λ o. option_and_then (λ next. after_lines next last) o) before_end
        ∙ ap (λ o. option_and_then (λ next. after_lines next []) o) (same_count (length (lines_before_end s)) lines_counted made (counted s)))
        ∙ ap (λ w. Some (record s { state = w })) same_state
