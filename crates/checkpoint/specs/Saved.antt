-- What a snapshot keeps of a world, and the world that it gives back.
use Rattle.std.specs.Prelude.{ℕ, ◌≤◌, ◌^◌, List, ◌∷◌, [], ◌++◌}
use Rattle.wq_io.specs.Lines.{line_feed}
use Rattle.replay_model.specs.Versions.{all_by}
use Rattle.world.specs.{Limit.Limit, WorldState.WorldState}
use Rattle.snapshot.specs.{declared.line.Line.Line, LineText.line_text, Whole.Saved, declared.counts.Counts.Counts}

-- what is saved of a world
abbrev pub saved_of : WorldState → Counts → Saved
saved_of w counts = record { version = w.mapping; counts = counts; state = w.replay }

-- the world that keeps this, with this limit on terms; every page is mapped by the version in force
abbrev pub world_of : Limit → Saved → WorldState
world_of limit s = record { replay = s.state; limit = limit; mapping = s.version; by_two = all_by s.version s.state.played.records }

-- the counts are such that a run which goes on with them has a number for each question, each record and each line that it tells of
pub record AreWithin (counts : Counts) : Type 0 where
  pub asks : counts.asks ≤ 2 ^ 63
  pub matches : counts.matches ≤ 2 ^ 63
  pub patches : counts.patches ≤ 2 ^ 63
  pub lines : counts.lines ≤ 2 ^ 63

-- the bytes of a line, which a line feed ends
unfoldable pub ended : Line → List ℕ
ended line = line_text line ++ line_feed ∷ []
