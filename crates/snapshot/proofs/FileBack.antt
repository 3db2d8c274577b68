-- The bytes of a snapshot are read as what it keeps.
use Rattle.std.proofs.Common.{◌≡◌, ℕ, List, [], ◌∷◌, ◌++◌, map, length, Option, Some, None, refl, ◌∙◌, ap, append_assoc}
use Rattle.std.specs.Prelude.{option_map, option_and_then}
use Rattle.std.specs.FinMap as finite
use Rattle.sorted_sets.specs.Rising.{Each}
use Rattle.wq_io.specs.Lines.{IsOneLine, ended_lines, line_feed, lines}
use Rattle.wq_io.proofs.LineLists.{lines-line, one_line-cons}
use Rattle.entity_model.specs.{declared.id.EntityId.EntityId, declared.event.Event.Event, EntityId.IsId}
use Rattle.entity_state.specs.declared.record.Record.{Record}
use Rattle.entity_state.specs.declared.entry.Entry.{Entry}
use Rattle.replay_model.specs.Records.{Bytes}
use Rattle.snapshot.specs.declared.line.Line.{Line}
use Rattle.snapshot.specs.declared.line.Line.TheVariants.{Remembered, Side, End}
use Rattle.snapshot.specs.{Fit.IsFitEvent, Fit.IsFitRecord, Fit.IsFitEntry, Fit.IsFitLine, LineText.line_text, Waiting.IsAtRest}
use Rattle.snapshot.specs.Whole.{Saved, entity_line, lines_before_end, snapshot_lines, saved_in}
use Rattle.snapshot.specs.File.{file_text, feeds, onto_line, lines_in, saved_in_bytes, IsFitSaved}
use Rattle.snapshot.proofs.{LineShape.line_in_line, LineTextBack.line_text_back, WholeBack.saved_back}

-- a line and its line feed come first
pub feeds-line : (line others : List ℕ) → IsOneLine line → feeds (line ++ line_feed ∷ others) ≡ option_map (λ lines. line ∷ lines) (feeds others)
feeds-line [] others is = by (feeds others)
  where
    by : (o : Option (List (List ℕ))) → option_and_then (λ lines. Some ([] ∷ lines)) o ≡ option_map (λ lines. [] ∷ lines) o
    by None = refl
    by (Some lines) = refl
feeds-line (b ∷ bs) others is =
    let parts = one_line-cons b bs is in
    rw parts.0 (ap (λ o. option_and_then (onto_line b) o) (feeds-line bs others parts.1) ∙ by (feeds others))
  where
    by : (o : Option (List (List ℕ))) → option_and_then (onto_line b) (option_map (λ lines. bs ∷ lines) o) ≡ option_map (λ lines. (b ∷ bs) ∷ lines) o
    by None = refl
    by (Some lines) = refl

pub feeds-ended : (lines : List Line) → feeds (ended_lines (map line_text lines)) ≡ Some (map line_text lines)
feeds-ended [] = refl
feeds-ended (line ∷ lines) =
    ap feeds (append_assoc (line_text line) (line_feed ∷ []) (ended_lines (map line_text lines)))
    ∙ feeds-line (line_text line) (ended_lines (map line_text lines)) (line_in_line line)
    ∙ ap (λ o. option_map (λ ls. line_text line ∷ ls) o) (feeds-ended lines)

pub lines_back : (lines : List Line) → Each IsFitLine lines → lines_in (map line_text lines) ≡ Some lines
lines_back [] fit = refl
lines_back (line ∷ lines) fit = rw (line_text_back line fit.0, lines_back lines fit.1) refl

-- the lines of the bytes of lines are their texts
pub lines-ended : (ls : List Line) → lines (ended_lines (map line_text ls)) ≡ map line_text ls
lines-ended [] = refl
lines-ended (line ∷ ls) =
    ap lines (append_assoc (line_text line) (line_feed ∷ []) (ended_lines (map line_text ls)))
    ∙ lines-line (line_text line) (ended_lines (map line_text ls)) (line_in_line line)
    ∙ ap (λ others. line_text line ∷ others) (lines-ended ls)

-- ---- the lines of a state that fits do

each_both : (xs ys : List Line) → Each IsFitLine xs → Each IsFitLine ys → Each IsFitLine (xs ++ ys)
each_both [] ys first second = second
each_both (x ∷ xs) ys first second = (first.0, each_both xs ys first.1 second)

events_fit : (es : List Event) → Each IsFitEvent es → Each IsFitLine (map Remembered es)
events_fit [] fit = tt
events_fit (e ∷ es) fit = (fit.0, events_fit es fit.1)

records_fit : (es : List (EntityId × Record Bytes)) → Each (λ entry. IsId entry.0 × IsFitRecord entry.1) es → Each IsFitLine (map entity_line es)
records_fit [] fit = tt
records_fit (e ∷ es) fit = (fit.0, records_fit es fit.1)

entries_fit : (es : List Entry) → Each IsFitEntry es → Each IsFitLine (map Side es)
entries_fit [] fit = tt
entries_fit (e ∷ es) fit = (fit.0, entries_fit es fit.1)

pub lines_fit : (s : Saved) → IsFitSaved s → Each IsFitLine (snapshot_lines s)
lines_fit s fit =
    each_both (lines_before_end s) (End (length (lines_before_end s)) ∷ []) (
      record { mark = fit.mark; horizon = fit.horizon; counts = fit.counts },
      each_both (map Remembered s.state.buffer.kept) (map Side s.state.played.side ++ map entity_line (finite.entries s.state.played.records))
          (events_fit s.state.buffer.kept fit.kept)
          (each_both (map Side s.state.played.side) (map entity_line (finite.entries s.state.played.records))
          (entries_fit s.state.played.side fit.side) (records_fit (finite.entries s.state.played.records) fit.records)),
    )
    (fit.count, tt)

pub file_back : (s : Saved) → IsAtRest s.state.buffer → IsFitSaved s → saved_in_bytes (file_text s) ≡ Some s
file_back s is fit =
    ap (λ o. option_and_then saved_in (option_and_then lines_in o)) (feeds-ended (snapshot_lines s))
    ∙ ap (λ o. option_and_then saved_in o) (lines_back (snapshot_lines s) (lines_fit s fit))
    ∙ saved_back s is
