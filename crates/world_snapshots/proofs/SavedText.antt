-- The lines that are written one after the other are those of the snapshot.
use Rattle.std.proofs.Common.{◌≡◌, ℕ, ◌+◌, List, [], ◌∷◌, ◌++◌, length, flat_map, refl, sym, ◌∙◌, ap, subst, append_assoc, append-nil, arith, length-append, unwrap_or, Result, Ok}
use Rattle.std.specs.Prelude.{map}
use Rattle.std.specs.FinMap as finite
use Rattle.std.proofs.{lemmas.List.length-map, lemmas.List.Concat.flat_map-append}
use Rattle.entity_model.specs.{declared.id.EntityId.EntityId, declared.event.Event.Event}
use Rattle.entity_state.specs.Record.{blank}
use Rattle.replay_model.specs.Records.{Records, record_of}
use Rattle.entity_state.specs.declared.entry.Entry.{Entry}
use Rattle.wq_io.specs.Lines.{ended_lines}
use Rattle.snapshot.specs.{declared.line.Head.Head, declared.line.Line.Line}
use Rattle.snapshot.specs.declared.line.Line.TheVariants.{Head as Begins, Remembered, Entity, Side, End}
use Rattle.snapshot.specs.{File.file_text, LineText.line_text}
use Rattle.snapshot.specs.Whole.{Saved, entity_line, head_of, lines_before_end, snapshot_lines}
use Rattle.text_output.specs.declared.write.Unwritten.{Unwritten}
use Rattle.world.proofs.Entries.{over_ids}
use Rattle.checkpoint.specs.{Archive.Archive, Archive.Writes, Saved.ended}
use Rattle.world_snapshots.proofs.Written.{writes_both}

-- each line with a line feed
each_ended : (lines : List Line) → ended_lines (map line_text lines) ≡ flat_map ended lines
unfolding ended
each_ended [] = refl
each_ended (line ∷ lines) = ap (λ bytes. ended line ++ bytes) (each_ended lines)

over_map : {A B : Type 0} (f : A → B) (g : B → List ℕ) (xs : List A) → flat_map g (map f xs) ≡ flat_map (λ x. g (f x)) xs
over_map f g [] = refl
over_map f g (x ∷ xs) = ap (λ bytes. g (f x) ++ bytes) (over_map f g xs)

-- the lines of the records, by their ids
pub by_ids : (records : Records) → flat_map (λ x. ended (Entity x (record_of records x))) (finite.keys records) ≡ flat_map ended (map entity_line (finite.entries records))
by_ids records = over_ids (λ x r. ended (Entity x (unwrap_or r blank))) records ∙ sym (over_map entity_line ended (finite.entries records))

-- how many lines there are before the last
pub counted : (s : Saved) (ids : List EntityId) → ids ≡ finite.keys s.state.played.records → length s.state.buffer.kept + length s.state.played.side + length ids + 1 ≡ length (lines_before_end s)
counted s ids is =
    let keys : length ids ≡ length (finite.entries s.state.played.records) = ap length is ∙ length-map (finite.entries s.state.played.records) (λ e. e.0) in
    let events = length-map s.state.buffer.kept Remembered in
    let entries = length-map s.state.played.side Side in
    let records = length-map (finite.entries s.state.played.records) entity_line in
    let inner = length-append (map Side s.state.played.side) (map entity_line (finite.entries s.state.played.records)) in
    let outer = length-append (map Remembered s.state.buffer.kept) (map Side s.state.played.side ++ map entity_line (finite.entries s.state.played.records)) in
    omega (arith, keys, events, entries, records, inner, outer)

-- all parts are the snapshot
pub all_parts : (s : Saved) (ids : List EntityId) (n : ℕ) → ids ≡ finite.keys s.state.played.records → n ≡ length (lines_before_end s)
    → ended (Begins (head_of s)) ++ (flat_map (λ e. ended (Remembered e)) s.state.buffer.kept
    ++ (flat_map (λ e. ended (Side e)) s.state.played.side
    ++ (flat_map (λ x. ended (Entity x (record_of s.state.played.records x))) ids
    ++ ended (End n)))) ≡ file_text s
all_parts s ids n is count =
    let records = s.state.played.records in
    let events = map Remembered s.state.buffer.kept in
    let entries = map Side s.state.played.side in
    let entities = map entity_line (finite.entries records) in
    let end = End (length (lines_before_end s)) ∷ [] in
    let head : List ℕ = ended (Begins (head_of s)) in
    let whole : file_text s ≡ (head ++ (flat_map ended events ++ (flat_map ended entries ++ flat_map ended entities))) ++ flat_map ended end =
    each_ended (snapshot_lines s) ∙ flat_map-append ended (lines_before_end s) end
    ∙ ap (λ l. (head ++ l) ++ flat_map ended end) (flat_map-append ended events (entries ++ entities) ∙ ap (λ l. flat_map ended events ++ l) (flat_map-append ended entries entities)) in
    let regrouped : (head ++ (flat_map ended events ++ (flat_map ended entries ++ flat_map ended entities))) ++ flat_map ended end
    ≡ head ++ (flat_map ended events ++ (flat_map ended entries ++ (flat_map ended entities ++ flat_map ended end))) =
    append_assoc head (flat_map ended events ++ (flat_map ended entries ++ flat_map ended entities)) (flat_map ended end)
    ∙ ap (λ l. head ++ l) (append_assoc (flat_map ended events) (flat_map ended entries ++ flat_map ended entities) (flat_map ended end)
    ∙ ap (λ l. flat_map ended events ++ l) (append_assoc (flat_map ended entries) (flat_map ended entities) (flat_map ended end))) in
    let by_event = over_map Remembered ended s.state.buffer.kept in
    let by_entry = over_map Side ended s.state.played.side in
    let by_entity : flat_map (λ x. ended (Entity x (record_of records x))) ids ≡ flat_map ended entities =
    ap (flat_map (λ x. ended (Entity x (record_of records x)))) is ∙ by_ids records in
    let last : ended (End n) ≡ flat_map ended end = ap (λ m. ended (End m)) count ∙ sym (append-nil (ended (End (length (lines_before_end s))))) in
    (λ i. head ++ (sym by_event i ++ (sym by_entry i ++ (by_entity i ++ last i)))) ∙ sym (whole ∙ regrouped)

-- the parts of a snapshot, as they are at hand
module _ (s : Saved) (head : Head) (events : List Event) (entries : List Entry) (ids : List EntityId) (n : ℕ)
    (is_head : head ≡ head_of s) (are_events : events ≡ s.state.buffer.kept) (are_entries : entries ≡ s.state.played.side)
    (are_ids : ids ≡ finite.keys s.state.played.records) (count : n ≡ length events + length entries + length ids + 1) where
  first : List ℕ
  first = ended (Begins head)

  second : List ℕ
  second = flat_map (λ e. ended (Remembered e)) events

  third : List ℕ
  third = flat_map (λ e. ended (Side e)) entries

  fourth : List ℕ
  fourth = flat_map (λ x. ended (Entity x (record_of s.state.played.records x))) ids

  last : List ℕ
  last = ended (End n)

  number : n ≡ length (lines_before_end s)
  number = count ∙ (λ i. length (are_events i) + length (are_entries i) + length ids + 1) ∙ counted s ids are_ids

  parts : first ++ (second ++ (third ++ (fourth ++ last))) ≡ file_text s
  unfolding first second third fourth last
  parts = (λ i. ended (Begins (is_head i)) ++ (flat_map (λ e. ended (Remembered e)) (are_events i) ++ (flat_map (λ e. ended (Side e)) (are_entries i) ++ (fourth ++ last))))
      ∙ all_parts s ids n are_ids number

  -- all of them were written
  pub save_all : (result : Result (Unit {0}) Unwritten) (o o1 o2 o3 o4 o5 : Archive) → Writes (ended (Begins head)) o o1 (Ok tt) → Writes (flat_map (λ e. ended (Remembered e)) events) o1 o2 (Ok tt)
      → Writes (flat_map (λ e. ended (Side e)) entries) o2 o3 (Ok tt) → Writes (flat_map (λ x. ended (Entity x (record_of s.state.played.records x))) ids) o3 o4 (Ok tt)
      → Writes (ended (End n)) o4 o5 result → Writes (file_text s) o o5 result
  unfolding first second third fourth last
  save_all result o o1 o2 o3 o4 o5 a b c d e =
      subst (λ bytes. Writes bytes o o5 result) parts (writes_both result first (second ++ (third ++ (fourth ++ last))) o o1 o5 a (writes_both result second (third ++ (fourth ++ last)) o1 o2 o5 b
      (writes_both result third (fourth ++ last) o2 o3 o5 c (writes_both result fourth last o3 o4 o5 d e))))
