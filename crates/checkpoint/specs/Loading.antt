-- The lines of a snapshot that go into a world one after the other.
use Rattle.std.specs.Prelude.{◌≡◌, ⊤, ◌⊎◌, ℕ, ℤ, ◌<◌, ◌≤◌, Bool, true, false, List, [], ◌∷◌, ◌++◌, length, Option, None, Some}
use Rattle.std.specs.Str.{IsUtf8}
use Rattle.entity_model.specs.{declared.id.EntityId.EntityId, declared.event.Event.Event, Event.event_cmp}
use Rattle.reorder_buffer.specs.{Buffered.Buffered, Buffered.first_due, Watermarks.reached}
use Rattle.sorted_sets.specs.Rising.{Each, IsRising, has}
use Rattle.entity_state.specs.declared.entry.Cause.TheVariants.{Missing, Failed, Unfit}
use Rattle.entity_state.specs.{declared.entry.Entry.Entry, declared.entry.Entry.TheVariants.Late, declared.entry.Entry.TheVariants.Revision}
use Rattle.replay_model.specs.{Entries.HoldsUnlessOpen, Explained.is_applied, Replies.HoldsDocument, Replies.failed_events}
use Rattle.replay_model.specs.{Records.Records, Records.record_of, ReplayState.nothing_delivered}
use Rattle.replay_model.specs.Versions.{all_by, meaning_by}
use Rattle.entity_json.specs.Document.{unfit_of}
use Rattle.wq_io.specs.Lines.{lines}
use Rattle.fetched_pages.specs.Meaning.{meaning}
use Rattle.world.specs.{Limit.HasRoomBy, Restoring.MayStand, Roomed.needs_now, WorldState.WorldState}
use Rattle.snapshot.specs.declared.line.Line.{Line}
use Rattle.snapshot.specs.declared.line.Line.TheVariants.{Head as Begins, Remembered, Entity, Side, End}
use Rattle.snapshot.specs.{File.IsFitSaved, File.lines_in, Waiting.IsAtRest, LineText.line_of}
use Rattle.snapshot.specs.Whole.{Loading, unbegun, begun, ended as whole_of, after_line}
use Rattle.snapshot.specs.declared.counts.Counts.{Counts}
use Rattle.checkpoint.specs.declared.stage.Stage.{Stage}
use Rattle.checkpoint.specs.declared.stage.Stage.TheVariants.{Unbegun, Begun, Ended}
use Rattle.checkpoint.specs.Saved.{AreWithin, saved_of}

-- what the lines so far keep, where they put this world together, and so many were taken
abbrev pub loading_of : WorldState → Stage → ℕ → Loading
loading_of w Unbegun n = unbegun
loading_of w (Begun counts) n = begun (saved_of w counts) n
loading_of w (Ended counts) n = whole_of (saved_of w counts)

-- before the first line nothing was delivered
abbrev pub IsFresh : WorldState → Stage → ℕ → Type 0
IsFresh w Unbegun n = (w.replay ≡ nothing_delivered) × (n ≡ 0)
IsFresh w (Begun counts) n = ⊤
IsFresh w (Ended counts) n = ⊤

-- a buffer between two lines of an input: more events may come, those that wait are in order, and none is due
pub record IsResting (b : Buffered) : Type 0 where
  pub open_still : b.closed ≡ false
  pub rises : IsRising event_cmp b.waiting
  pub none_due : first_due b ≡ None

-- once the head was taken, its counts are within
abbrev pub AreStageWithin : Stage → Type 0
AreStageWithin Unbegun = ⊤
AreStageWithin (Begun counts) = AreWithin counts
AreStageWithin (Ended counts) = AreWithin counts

-- the mark reached each event of which the side output says that a fetch for it failed
abbrev pub HasReachedFailed : Option ℤ → List Entry → Type 0
HasReachedFailed mark side = (e : Event) → has event_cmp e (failed_events side) ≡ true → reached mark e.time ≡ true

-- every entity holds a document of itself, or nothing
abbrev pub HoldsDocuments : Records → Type 0
HoldsDocuments records = (x : EntityId) → HoldsDocument unfit_of x (record_of records x).held

-- a world that a replay may have between two lines of its input
pub record IsLoadable (w : WorldState) (counts : Counts) : Type 0 where
  -- the remembered events that wait are those that the mark hasn't reached
  pub rests : IsAtRest w.replay.buffer
  pub fits : IsFitSaved (saved_of w counts)
  -- every page is mapped by the version in force
  pub by_one : w.by_two ≡ all_by w.mapping w.replay.played.records
  -- fetches failed only for applied events
  pub applied : (e : Event) → has event_cmp e (failed_events w.replay.played.side) ≡ true → is_applied w.replay e ≡ true
  -- each entity holds what its state wants exactly if no entry tells otherwise
  pub holds : HoldsUnlessOpen w.replay.played
  -- what is held are documents
  pub documents : HoldsDocuments w.replay.played.records
  pub within : AreWithin counts

-- the world took so many lines, and may take more: every page is mapped by the version in force, no event is due, fetches failed only for
-- events that the mark reached, what is held are documents and has room, and the counts are within
pub record IsReady (w : WorldState) (stage : Stage) (n : ℕ) : Type 0 where
  pub fresh : IsFresh w stage n
  pub by_one : w.by_two ≡ all_by w.mapping w.replay.played.records
  pub resting : IsResting w.replay.buffer
  pub failed : HasReachedFailed w.replay.buffer.mark w.replay.played.side
  pub documents : HoldsDocuments w.replay.played.records
  pub held : HasRoomBy w.limit (meaning_by meaning w.by_two) w.replay.played.records
  pub within : AreStageWithin stage

-- whether an entry of the side output may stand beside this mark: where it says that a fetch failed, the mark reached its event
abbrev pub may_note : Option ℤ → Entry → Bool
may_note mark (Late e) = true
may_note mark (Revision e r Missing) = true
may_note mark (Revision e r Failed) = reached mark e.time
may_note mark (Revision e r (Unfit why)) = true

-- the line may come now: the counts of a head are within; an entry may stand beside the mark; and a world with the side output so far
-- may have this record
abbrev pub MayCome : Loading → Line → Type 0
MayCome (begun s n) (Entity x r) = MayStand s.state.played.side x r
MayCome (begun s n) (Begins h) = ⊤
MayCome (begun s n) (Remembered e) = ⊤
MayCome (begun s n) (Side entry) = may_note s.state.buffer.mark entry ≡ true
MayCome (begun s n) (End m) = ⊤
MayCome unbegun (Begins h) = AreWithin h.counts
MayCome unbegun (Entity x r) = ⊤
MayCome unbegun (Remembered e) = ⊤
MayCome unbegun (Side entry) = ⊤
MayCome unbegun (End m) = ⊤
MayCome (whole_of s) line = ⊤

-- the lines come one after the other, and lead from here to there
abbrev pub Leads : Loading → List Line → Loading → Type 0
Leads here [] there = here ≡ there
Leads here (line ∷ others) there = MayCome here line × ((next : Loading) × (after_line here line ≡ Some next) × Leads next others there)

-- the most bytes that a line may have without its line feed: a page has at most 8,388,608, of which each is at most six in JSON
abbrev pub longest_line : ℕ
longest_line = 67108864

-- the text may be read as a line: it is UTF-8, and isn't over-long
pub record IsReadable (text : List ℕ) : Type 0 where
  pub utf8 : IsUtf8 text
  pub short : length text ≤ longest_line

-- the bytes begin with these lines, which may be read, and lead here
pub record BeginsWith (bytes : List ℕ) (done : List (List ℕ)) (loading : Loading) : Type 0 where
  pub others : List (List ℕ)
  pub are : lines bytes ≡ done ++ others
  pub readable : Each IsReadable done
  pub items : List Line
  pub read : lines_in done ≡ Some items
  pub lead : Leads unbegun items loading

-- the record of an entity has no room: what is stored of its page, with what is stored already, has more terms than there may be
abbrev pub HasNoRoomForLine : WorldState → Line → Type 0
HasNoRoomForLine w (Entity x r) = w.limit.terms < needs_now w x r.held
HasNoRoomForLine w (Begins h) = ⊥
HasNoRoomForLine w (Remembered e) = ⊥
HasNoRoomForLine w (Side entry) = ⊥
HasNoRoomForLine w (End m) = ⊥

-- the line can't come now
abbrev pub IsOutOfPlace : Loading → Line → Type 0
IsOutOfPlace loading line = (after_line loading line ≡ None) ⊎ ¬ (MayCome loading line)

-- the text is a line that may come now, and leads there
pub record LoadsLine (text : List ℕ) (before now : Loading) : Type 0 where
  pub utf8 : IsUtf8 text
  pub item : Line
  pub read : line_of text ≡ Some item
  pub comes : MayCome before item
  pub after : after_line before item ≡ Some now

-- the text is no line that may come now
abbrev pub IsRefused : List ℕ → Loading → Type 0
IsRefused text loading = ¬ (IsUtf8 text) ⊎ ((item : Line) → line_of text ≡ Some item → IsOutOfPlace loading item)

-- the line may come now, but has no room
pub record LacksRoom (before : Loading) (w : WorldState) (line : Line) : Type 0 where
  pub comes : MayCome before line
  pub next : Loading
  pub after : after_line before line ≡ Some next
  pub over : HasNoRoomForLine w line

-- the text is the line of a record that may come now, but has no room
pub record Overfills (text : List ℕ) (before : Loading) (w : WorldState) : Type 0 where
  pub utf8 : IsUtf8 text
  pub item : Line
  pub read : line_of text ≡ Some item
  pub lacks : LacksRoom before w item
