-- The lines of a whole snapshot, and the state of a replay that lines are.
use Rattle.std.specs.Prelude.{ℕ, ◌+◌, ◌==◌, cond, List, [], ◌∷◌, ◌++◌, map, length, Option, Some, None, option_and_then}
use Rattle.std.specs.FinMap as finite
use Rattle.entity_model.specs.{declared.id.EntityId.EntityId, declared.event.Event.Event, declared.mapping.MappingVersion.MappingVersion}
use Rattle.reorder_buffer.specs.Buffered.{after_taking}
use Rattle.entity_state.specs.declared.record.Record.{Record}
use Rattle.entity_state.specs.declared.entry.Entry.{Entry}
use Rattle.replay_model.specs.{Play.nothing_played, Records.Bytes, ReplayState.ReplayState}
use Rattle.snapshot.specs.{Waiting.at_mark, declared.counts.Counts.Counts, declared.line.Head.Head, declared.line.Line.Line}
use Rattle.snapshot.specs.declared.line.Line.TheVariants.{Head as Begins, Remembered, Entity, Side, End}

-- what a snapshot keeps: the version of the mapping in force, the counts that the next run goes on with, and the state of a replay
pub record Saved : Type 0 where
  pub version : MappingVersion
  pub counts : Counts
  pub state : ReplayState

-- ---- written

abbrev pub head_of : Saved → Head
head_of s = record {
  mark = s.state.buffer.mark;
  horizon = s.state.buffer.horizon;
  mapping = s.version;
  counts = s.counts;
}

abbrev pub entity_line : EntityId × Record Bytes → Line
entity_line entry = Entity entry.0 entry.1

-- the lines before the last. The side output stands before the records, so that a world which takes them line by line finds the open
-- entry of a record that doesn't hold what its state wants
abbrev pub lines_before_end : Saved → List Line
lines_before_end s =
    Begins (head_of s)
    ∷ (map Remembered s.state.buffer.kept
    ++ (map Side s.state.played.side ++ map entity_line (finite.entries s.state.played.records)))

-- the lines of a snapshot
abbrev pub snapshot_lines : Saved → List Line
snapshot_lines s = lines_before_end s ++ End (length (lines_before_end s)) ∷ []

-- ---- read

-- what lines were so far: nothing; what they keep, and how many they are; or all
pub data Loading : Type 0 where
  unbegun : Loading
  begun : Saved → ℕ → Loading
  ended : Saved → Loading

-- what a head says, before any other line
abbrev pub beginning : Head → Saved
beginning h = record {
  version = h.mapping;
  counts = h.counts;
  state = record { buffer = at_mark h.horizon h.mark []; played = nothing_played };
}

-- with an event, taken again: it is remembered, and waits where the mark hasn't reached it
abbrev pub remembering : ReplayState → Event → ReplayState
remembering w e = record w { buffer = after_taking w.buffer e }

-- with the record of an entity
abbrev pub recording : ReplayState → EntityId × Record Bytes → ReplayState
recording w entry = record w { played = record w.played { records = finite.insert w.played.records entry.0 entry.1 } }

-- with an entry of the side output
abbrev pub noting : ReplayState → Entry → ReplayState
noting w entry = record w { played = record w.played { side = w.played.side ++ entry ∷ [] } }

abbrev pub one_more : Saved → ReplayState → ℕ → Option Loading
one_more s w n = Some (begun (record s { state = w }) (n + 1))

-- with one more line: the head comes first, and nothing behind the end, which counts the lines before it
abbrev pub after_line : Loading → Line → Option Loading
after_line unbegun (Begins h) = Some (begun (beginning h) 1)
after_line (begun s n) (Remembered e) = one_more s (remembering s.state e) n
after_line (begun s n) (Entity x r) = one_more s (recording s.state (x, r)) n
after_line (begun s n) (Side entry) = one_more s (noting s.state entry) n
after_line (begun s n) (End m) = cond (m == n) (Some (ended s)) None
after_line _ _ = None

-- with more lines
abbrev pub after_lines : Loading → List Line → Option Loading
after_lines l [] = Some l
after_lines l (line ∷ lines) = option_and_then (λ next. after_lines next lines) (after_line l line)

abbrev pub whole : Loading → Option Saved
whole unbegun = None
whole (begun s n) = None
whole (ended s) = Some s

-- what lines keep that are those of a whole snapshot
abbrev pub saved_in : List Line → Option Saved
saved_in lines = option_and_then whole (after_lines unbegun lines)
