-- The bytes of a snapshot, and what bytes keep that are those of a whole snapshot.
use Rattle.std.specs.Prelude.{ℕ, ◌<◌, ◌^◌, ◌==◌, cond, List, [], ◌∷◌, map, length, Option, Some, None, option_map, option_and_then, IfSome, FitsSigned}
use Rattle.std.specs.Int.{w64}
use Rattle.std.specs.FinMap as finite
use Rattle.sorted_sets.specs.Rising.{Each}
use Rattle.wq_io.specs.Lines.{line_feed, ended_lines}
use Rattle.entity_model.specs.EntityId.{IsId}
use Rattle.snapshot.specs.{declared.line.Line.Line, Fit.AreFitCounts, Fit.IsFitEvent, Fit.IsFitRecord, Fit.IsFitEntry}
use Rattle.snapshot.specs.{LineText.line_text, LineText.line_of, Whole.Saved, Whole.lines_before_end, Whole.snapshot_lines, Whole.saved_in}

-- the bytes of a snapshot: each line with a line feed
abbrev pub file_text : Saved → List ℕ
file_text s = ended_lines (map line_text (snapshot_lines s))

-- the byte stands before the first line, and there is one
abbrev pub onto_line : ℕ → List (List ℕ) → Option (List (List ℕ))
onto_line b [] = None
onto_line b (line ∷ lines) = Some ((b ∷ line) ∷ lines)

-- the lines of bytes that end with a line feed, or have none
abbrev pub feeds : List ℕ → Option (List (List ℕ))
feeds [] = Some []
feeds (b ∷ bs) = option_and_then (λ lines. cond (b == line_feed) (Some ([] ∷ lines)) (onto_line b lines)) (feeds bs)

-- the lines that all of these texts are
abbrev pub lines_in : List (List ℕ) → Option (List Line)
lines_in [] = Some []
lines_in (text ∷ texts) = option_and_then (λ line. option_map (λ lines. line ∷ lines) (lines_in texts)) (line_of text)

-- what bytes keep that are a whole snapshot
abbrev pub saved_in_bytes : List ℕ → Option Saved
saved_in_bytes bytes = option_and_then saved_in (option_and_then lines_in (feeds bytes))

-- the numbers of a state fit 64 bits, and its ids are those of entities
pub record IsFitSaved (s : Saved) : Type 0 where
  pub mark : IfSome s.state.buffer.mark (FitsSigned w64)
  pub horizon : IfSome s.state.buffer.horizon (λ n. n < 2 ^ 64)
  pub counts : AreFitCounts s.counts
  pub kept : Each IsFitEvent s.state.buffer.kept
  pub records : Each (λ entry. IsId entry.0 × IsFitRecord entry.1) (finite.entries s.state.played.records)
  pub side : Each IsFitEntry s.state.played.side
  pub count : length (lines_before_end s) < 2 ^ 64
