-- What a run leaves: the states, what is held, the side output and what was printed.
use Rattle.std.specs.Prelude.{◌≡◌, ◌⊎◌, ⊤, ℕ, ◌-◌, ◌^◌, ◌+◌, ◌<◌, Bool, true, false, not, List, [], ◌∷◌, ◌++◌, Option, None, Some, IfSome, MatchOption, length}
use Rattle.std.specs.{List.list_any, Option.option_map, Option.option_to_list}
use Rattle.sorted_sets.specs.Rising.{Each, has}
use Rattle.wq_io.specs.Streams.{IsAtEnd, Rose}
use Rattle.entity_model.specs.{declared.id.EntityId.EntityId, declared.event.Event.Event, Event.event_cmp}
use Rattle.entity_model.specs.declared.mapping.MappingVersion.{MappingVersion}
use Rattle.entity_state.specs.State.{is_kept}
use Rattle.delivery.specs.{declared.Delivery.Delivery, declared.Delivery.TheVariants.Mapping}
use Rattle.event_line.specs.declared.faults.LineCause.{LineCause}
use Rattle.replay_model.specs.Acceptance.{due, known, late}
use Rattle.replay_model.specs.{Entries.has_open_revision, Entries.is_open_late, Entries.late_events, Explained.is_applied}
use Rattle.replay_model.specs.{Fate.events_of, Fate.fate, Fate.in_order, Records.Bytes, Records.is_settled, Records.record_of, Play.Replies}
use Rattle.replay_model.specs.Replies.{GivesDocument, HoldsWhatIsThere, TellsWhatIsThere, failed_events, source_replies}
use Rattle.replay_model.specs.ReplayState.{ReplayState, after_end}
use Rattle.replay_model.specs.{Transcript.Question, Transcript.asking, Transcript.asks, Transcript.matches, Versions.all_by}
use Rattle.fetched_pages.specs.Meaning.{meaning}
use Rattle.text_output.specs.declared.write.Unwritten.{Unwritten}
use Rattle.text_output.specs.declared.write.Unwritten.TheVariants.{WriteFault as NotWritten, OutOfMemory as UnwrittenOutOfMemory}
use Rattle.text_output.specs.Printing.{IsCutShort, Output}
use Rattle.replica.specs.Record.{record_text}
use Rattle.patch_stream.specs.Stream.{Step, changes, has_change, is_change, record_of_step, steps_anew}
use Rattle.snapshot.specs.declared.counts.Counts.{Counts}
use Rattle.arguments.specs.Options.{closes, max_bytes_of}
use Rattle.run_model.specs.declared.report.Report.TheVariants.{Answers, Changes}
use Rattle.run_model.specs.{declared.stop.Halt.TheVariants.Unapplied, declared.stop.Halt.TheVariants.Unprinted, declared.stop.Stop.Stop}
use Rattle.run_model.specs.declared.stop.Stop.TheVariants.{BadLine, ReadFault, WriteFault, TooLong, StoreFull, OutOfMemory, BadSnapshot}
use Rattle.run_model.specs.Course.{answer_text, closing_by, Course, course_after, course_ended, course_printed, course_remapping, version_at, course_begun, course_to_end, led_to}
use Rattle.run_model.specs.Moment.{HasCounted, Beginning, IsFirst, Moment, Run, Environment, Stage, horizon_at, start_of, with_mapped, with_output, sections_of, HasSaved, numbers_of, snapshot_text, up_to_saves}
use Rattle.run_model.specs.Remapping.{HaveRoom, HaveRoomBefore, needed_anew, IsFullOfStale, mapped_by, remapped_some}
use Rattle.run_model.specs.Reading.{AreDeliveries, AreFirstAlone, AreWhole, IsPastLimit, IsRefusedLine, TakesByNeed, AreFirst}
use Rattle.run_model.specs.{Report.bytes_of, Stop.stop_of_unwritten}
use Rattle.run_model.specs.Taking.{HoldsDocuments, IsFull, judgement, replies_there, IsEventOrMark, IsWithin, entered_if_any}
use Rattle.run_model.specs.declared.stop.Halt.{Halt}
use Rattle.term_pool.specs.declared.fault.PoolFault.TheVariants.{Full as NoRoom, OutOfMemory as PoolOutOfMemory}

-- ---- what a run leaves

-- the play of a course from a beginning
pub record IsPlayed (environment : Environment) (course : Course) (start : Beginning) (now : Stage) : Type 0 where
  -- some replies to its fetches
  pub replies : Replies
  -- each reply is a document of its entity or a reason
  pub fit : (e : Event) (r : ℕ) → GivesDocument judgement e.entity (replies e r)
  -- the world is where the play leads with them
  pub is : now.world ≡ course.state replies
  -- the output has its report, and if nothing waited before to be handed on to the outside, nothing waits
  pub handed : start.output.waits ≡ false → now.output.waits ≡ false
  pub says : now.output.bytes ≡ bytes_of environment.report course start replies
  -- each fetched or remapped page had room, with all that was held then
  pub roomed : HaveRoom environment.limit (course.needed replies)
  -- what is held are documents of their entities
  pub documents : HoldsDocuments now.world
  -- each event whose fetch failed, by the side output, was applied
  pub applied : (e : Event) → has event_cmp e (failed_events now.world.played.side) ≡ true → is_applied now.world e ≡ true
  -- each held page is mapped by the version in force
  pub mapped : now.mapped ≡ mapped_by course.version now.world.played.records
  -- the counts of the source rose by these fetches
  pub counted : HasCounted start.counts now.counts start.world.played.side (length (course.fetched replies)) now.world.played.side
  -- if the source tells what it has, the replies are what is there, but for the failed fetches that the side output names
  pub source : (contents : ℕ → Option Bytes) → environment.known ≡ Some contents → now.world ≡ course.state (replies_there contents now.world)
  pub source_says : (contents : ℕ → Option Bytes) → environment.known ≡ Some contents → now.output.bytes ≡ bytes_of environment.report course start (replies_there contents now.world)
  pub source_roomed : (contents : ℕ → Option Bytes) → environment.known ≡ Some contents → HaveRoom environment.limit (course.needed (replies_there contents now.world))
  pub source_changes : (contents : ℕ → Option Bytes) → environment.known ≡ Some contents → environment.report ≡ Answers →
      has_change (course.steps (replies_there contents now.world)) ≡ has_change (course.steps replies)
  pub source_counted : (contents : ℕ → Option Bytes) → environment.known ≡ Some contents →
      HasCounted start.counts now.counts start.world.played.side (length (course.fetched (replies_there contents now.world))) now.world.played.side

-- the world has taken these deliveries, and the answers to their questions were printed, or the records of their changes, and nothing else
abbrev pub IsPlayedAfter : Environment → List Delivery → Beginning → Stage → Type 0
IsPlayedAfter environment ds start now = IsPlayed environment (course_after environment.routes ds start) start now

-- ---- what is kept

-- the snapshot of a stage to which a play of these deliveries led, which takes each of them and all that it makes due, and reports it
pub record IsSnapshotBehind (run : Run) (start : Beginning) (ds : List Delivery) (text : List ℕ) : Type 0 where
  pub stage : Stage
  pub played : IsPlayedAfter run.environment ds start stage
  pub is : text ≡ snapshot_text (numbers_of run.environment.report (course_after run.environment.routes ds start).steps ds start played.replies) stage

-- the counts that it has
abbrev pub numbers_behind : {run : Run} {start : Beginning} {ds : List Delivery} {text : List ℕ} → IsSnapshotBehind run start ds text → Counts
numbers_behind {run} {start} {ds} is = numbers_of run.environment.report (course_after run.environment.routes ds start).steps ds start is.played.replies

-- the snapshots behind the last of each of these
abbrev pub AreSnapshotsBehind : Run → Beginning → List (List Delivery) → List (List ℕ) → Type 0
AreSnapshotsBehind run start [] [] = ⊤
AreSnapshotsBehind run start [] (text ∷ texts) = ⊥
AreSnapshotsBehind run start (ds ∷ others) [] = ⊥
AreSnapshotsBehind run start (ds ∷ others) (text ∷ texts) = IsSnapshotBehind run start ds text × AreSnapshotsBehind run start others texts

-- these snapshots were kept on the way, in this order, behind those that were kept before
pub record KeepsOnTheWay (run : Run) (start : Beginning) (saves : List (List Delivery)) (old new : Option (List (List ℕ))) : Type 0 where
  pub texts : List (List ℕ)
  pub are : AreSnapshotsBehind run start saves texts
  pub kept : new ≡ option_map (λ snapshots. snapshots ++ texts) old

-- at a line: the world of the first lines of what was taken, of which the last is perhaps an event, or a watermark with some of the events
-- that it makes due, behind which no byte was judged; every page is mapped by the version in force
pub record StopsWithin (halt : Halt) (run : Run) (before now : Moment) : Type 0 where
  pub deliveries : List Delivery
  pub last : Option Delivery
  pub kind : IfSome last IsEventOrMark
  pub within : IsWithin halt run.environment (course_begun run.environment.routes deliveries last (start_of run before)) (λ replies. entered_if_any (led_to deliveries (start_of run before) replies) last) (start_of run before) now.stage
  pub mapped : now.stage.mapped ≡ mapped_by (version_at deliveries (start_of run before)) now.stage.world.played.records
  pub first : AreFirst (max_bytes_of run.choices) before.input.left now.input.left (deliveries ++ option_to_list last)
  pub alone : (d : Delivery) → last ≡ Some d → first.part ≡ []
  pub kept : KeepsOnTheWay run (start_of run before) (up_to_saves run.choices.every deliveries) before.snapshot.kept now.snapshot.kept

-- after the last line, the input being read to its end, which ends the deliveries: the world of all lines and the end, with some of the
-- events that the end makes due; every page is mapped by the version in force
pub record StopsAtEnd (halt : Halt) (run : Run) (before now : Moment) : Type 0 where
  pub closed : closes run.choices ≡ true
  pub deliveries : List Delivery
  pub read : IsAtEnd now.input.left
  pub within : IsWithin halt run.environment (course_to_end run.environment.routes deliveries (start_of run before)) (λ replies. after_end (led_to deliveries (start_of run before) replies)) (start_of run before) now.stage
  pub mapped : now.stage.mapped ≡ mapped_by (version_at deliveries (start_of run before)) now.stage.world.played.records
  pub are : IfSome before.input.left (λ bytes. AreDeliveries (max_bytes_of run.choices) bytes deliveries)
  pub kept : KeepsOnTheWay run (start_of run before) (up_to_saves run.choices.every deliveries) before.snapshot.kept now.snapshot.kept

-- what stands if memory was refused, or the store was full, or a record wasn't written wholly, while no page was being remapped
abbrev pub IsHalted : Halt → Run → Moment → Moment → Type 0
IsHalted halt run before now = StopsWithin halt run before now ⊎ StopsAtEnd halt run before now

-- ---- what it should leave

-- the states: each is the fate of the entity's due events in their order; where no late event of the entity is open,
-- also the fate of all its events that the mark has reached, late ones included. Where the deliveries end, all are due
pub record HasFates (closed : Bool) (h : Option ℕ) (ds : List Delivery) (world : ReplayState) : Type 0 where
  pub of_due : (x : EntityId) → (record_of world.played.records x).state ≡ fate (in_order (events_of x (due h closed ds)))
  pub of_known : (x : EntityId) → list_any (is_open_late (due h closed ds)) (events_of x (late h ds)) ≡ false →
      (record_of world.played.records x).state ≡ fate (in_order (events_of x (known closed ds)))

-- what is held: what the state wants, exactly where no revision entry of the entity is open; nothing of a page that
-- isn't kept; a document of the entity; and what the source has, where it is known
pub record HoldsRightly (environment : Environment) (world : ReplayState) : Type 0 where
  pub settled : (x : EntityId) → is_settled (record_of world.played.records x) ≡ not (has_open_revision world.played.records world.played.side x)
  pub empty : (x : EntityId) → is_kept (record_of world.played.records x).state.mode ≡ false → (record_of world.played.records x).held ≡ None
  pub documents : HoldsDocuments world
  pub there : (contents : ℕ → Option Bytes) → environment.known ≡ Some contents → (x : EntityId) → HoldsWhatIsThere judgement contents x (record_of world.played.records x).held

-- the side output: an entry for each late delivery, in the order of these, and revision entries that say what the source has
pub record NamesRightly (environment : Environment) (h : Option ℕ) (ds : List Delivery) (world : ReplayState) : Type 0 where
  pub late_ones : late_events world.played.side ≡ late h ds
  pub there : (contents : ℕ → Option Bytes) → environment.known ≡ Some contents → Each (TellsWhatIsThere judgement contents (failed_events world.played.side)) world.played.side

-- a play of these deliveries: the world is where it leads; and if nothing was delivered before, states, held pages and side output are as
-- they should be
pub record IsReplayed (environment : Environment) (course : Course) (ds : List Delivery) (start : Beginning) (now : Stage) : Type 0 where
  pub played : IsPlayed environment course start now
  pub fates : IsFirst start → HasFates course.closed (horizon_at start) ds now.world
  pub holds : IsFirst start → HoldsRightly environment now.world
  pub names : IsFirst start → NamesRightly environment (horizon_at start) ds now.world

-- where nothing was delivered before and no fetch failed, the world and what was printed are those of the course with the replies of what is
-- there
pub record IsFunction (environment : Environment) (course : Course) (start : Beginning) (now : Stage) : Type 0 where
  pub world_is : IsFirst start → (contents : ℕ → Option Bytes) → environment.known ≡ Some contents → now.counts.faults ≡ start.counts.faults → now.counts.faults < 2 ^ 64 - 1 →
      now.world ≡ course.state (source_replies judgement contents [])
  pub output_is : IsFirst start → (contents : ℕ → Option Bytes) → environment.known ≡ Some contents → now.counts.faults ≡ start.counts.faults → now.counts.faults < 2 ^ 64 - 1 →
      now.output.bytes ≡ bytes_of environment.report course start (source_replies judgement contents [])

-- the whole input was read, its lines are deliveries, and they were replayed; the output has what this play of them says
pub record Replayed (run : Run) (course : List Delivery → Beginning → Course) (before now : Moment) : Type 0 where
  pub deliveries : List Delivery
  pub read : IsAtEnd now.input.left
  pub are : IfSome before.input.left (λ bytes. AreDeliveries (max_bytes_of run.choices) bytes deliveries)
  pub replay : IsReplayed run.environment (course deliveries (start_of run before)) deliveries (start_of run before) now.stage

-- the whole input was replayed, to the end of the deliveries if it is that, and the answers were printed, or the records of its changes, and
-- nothing else
abbrev pub HasReplayed : Run → Moment → Moment → Type 0
HasReplayed run before now = Replayed run (course_ended run.environment.routes (closes run.choices)) before now

-- the play of these deliveries that a run makes, with the sections that it prints
abbrev pub course_of : Run → List Delivery → Beginning → Course
course_of run ds start = course_printed run.environment.routes (closes run.choices) (sections_of run.choices) ds start

-- the input was replayed, and the output has the answers and the sections of the play, or the records of its changes; the snapshots on the
-- way were kept, and where the world is saved at the end, these are the counts of what was reported
pub record HasPrinted (run : Run) (numbers : Counts) (before now : Moment) : Type 0 where
  pub replayed : Replayed run (course_of run) before now
  pub function : IsFunction run.environment (course_of run replayed.deliveries (start_of run before)) (start_of run before) now.stage
  pub kept : KeepsOnTheWay run (start_of run before) (up_to_saves run.choices.every replayed.deliveries) before.snapshot.kept now.snapshot.kept
  pub counted : closes run.choices ≡ false → numbers ≡ numbers_of run.environment.report (course_of run replayed.deliveries (start_of run before)).steps replayed.deliveries (start_of run before) replayed.replay.played.replies

-- what a run that ended with Ok leaves: the input was replayed, and the report on it was printed; a snapshot was kept behind each watermark
-- that is followed by a save, and if the world is saved at the end, its snapshot behind them
pub record Ending (run : Run) (before now : Moment) : Type 0 where
  pub replayed : Replayed run (course_of run) before now
  pub function : IsFunction run.environment (course_of run replayed.deliveries (start_of run before)) (start_of run before) now.stage
  pub on_the_way : Option (List (List ℕ))
  pub kept : KeepsOnTheWay run (start_of run before) (up_to_saves run.choices.every replayed.deliveries) before.snapshot.kept on_the_way
  pub saved : HasSaved (closes run.choices)
      (snapshot_text (numbers_of run.environment.report (course_of run replayed.deliveries (start_of run before)).steps replayed.deliveries (start_of run before) replayed.replay.played.replies) now.stage)
      on_the_way now.snapshot.kept

-- the counts that a later run goes on with
abbrev pub numbers_saved : {run : Run} {before now : Moment} → Ending run before now → Counts
numbers_saved {run} {before} ending =
    numbers_of run.environment.report (course_of run ending.replayed.deliveries (start_of run before)).steps ending.replayed.deliveries (start_of run before) ending.replayed.replay.played.replies

-- what a run that stopped while it saved the world at the end leaves: the input was replayed, the report on it was printed, and the snapshots
-- on the way were kept
pub record Unsaved (run : Run) (before now : Moment) : Type 0 where
  pub saves : closes run.choices ≡ false
  pub numbers : Counts
  pub printed : HasPrinted run numbers before now

-- what a run that stopped while it saved the world on the way leaves: it has taken the deliveries up to a watermark that is followed by a
-- save, and all that they make due, what is reported of them was written, and no byte behind the watermark's line was judged; the snapshots
-- behind the watermarks before it were kept
pub record StandsAtSave (run : Run) (before now : Moment) : Type 0 where
  pub deliveries : List Delivery
  pub played : IsPlayedAfter run.environment deliveries (start_of run before) now.stage
  pub saves : List (List Delivery)
  pub due : up_to_saves run.choices.every deliveries ≡ saves ++ deliveries ∷ []
  pub kept : KeepsOnTheWay run (start_of run before) saves before.snapshot.kept now.snapshot.kept
  pub first : AreFirstAlone (max_bytes_of run.choices) before.input.left now.input.left deliveries

-- what a run that stopped while it saved the world leaves
abbrev pub IsUnsaved : Run → Moment → Moment → Type 0
IsUnsaved run before now = Unsaved run before now ⊎ StandsAtSave run before now

-- what a run that stopped while it printed the sections leaves: the answers were printed and then a prefix of the sections of the world,
-- and nothing else; if a write failed, not all of them
pub record BrokenOff (why : Unwritten) (run : Run) (before now : Moment) : Type 0 where
  pub answers : run.environment.report ≡ Answers
  pub between : Output
  pub replayed : HasReplayed run before (record now { stage = with_output now.stage between })
  pub cut_short : IsCutShort why (closing_by run.environment.routes (version_at replayed.deliveries (start_of run before)) (sections_of run.choices) now.stage.world.played) between now.stage.output
  pub kept : KeepsOnTheWay run (start_of run before) (up_to_saves run.choices.every replayed.deliveries) before.snapshot.kept now.snapshot.kept

-- the world has taken the deliveries of all whole lines of the bytes that were read before a read failed
pub record StandsAfter (run : Run) (before now : Moment) : Type 0 where
  pub deliveries : List Delivery
  pub played : IsPlayedAfter run.environment deliveries (start_of run before) now.stage
  pub whole : AreWhole (max_bytes_of run.choices) before.input.left now.input.left deliveries
  pub kept : KeepsOnTheWay run (start_of run before) (up_to_saves run.choices.every deliveries) before.snapshot.kept now.snapshot.kept

-- the world has taken the deliveries before the line in which the input goes past the limit
pub record StandsAtLimit (run : Run) (before now : Moment) : Type 0 where
  pub deliveries : List Delivery
  pub played : IsPlayedAfter run.environment deliveries (start_of run before) now.stage
  pub past : IfSome before.input.left (λ bytes. IsPastLimit (max_bytes_of run.choices) bytes deliveries)
  pub kept : KeepsOnTheWay run (start_of run before) (up_to_saves run.choices.every deliveries) before.snapshot.kept now.snapshot.kept

-- the world has taken the deliveries before the line with this number, which is refused; each line before it is a delivery
pub record StandsBeforeLine (number : ℕ) (cause : LineCause) (run : Run) (before now : Moment) : Type 0 where
  pub deliveries : List Delivery
  pub played : IsPlayedAfter run.environment deliveries (start_of run before) now.stage
  pub counted : number ≡ length deliveries + 1
  pub bad : IfSome before.input.left (λ bytes. IsRefusedLine (max_bytes_of run.choices) bytes deliveries number cause)
  pub kept : KeepsOnTheWay run (start_of run before) (up_to_saves run.choices.every deliveries) before.snapshot.kept now.snapshot.kept

-- the world has taken the deliveries before a question, and no byte behind its line was judged; the answers before it were printed and then
-- a prefix of its own, and nothing else; where a write failed, not all of it
pub record StandsAtQuestion (why : Unwritten) (run : Run) (before now : Moment) : Type 0 where
  pub answers : run.environment.report ≡ Answers
  pub deliveries : List Delivery
  pub question : Question
  pub between : Output
  pub played : IsPlayedAfter run.environment deliveries (start_of run before) (with_output now.stage between)
  pub cut_short : IsCutShort why (answer_text run.environment.routes (run.numbered.asks + asks deliveries) (run.numbered.matches + matches deliveries) (meaning (version_at deliveries (start_of run before))) now.stage.world.played.records question) between now.stage.output
  pub first : AreFirstAlone (max_bytes_of run.choices) before.input.left now.input.left (deliveries ++ asking question ∷ [])
  pub kept : KeepsOnTheWay run (start_of run before) (up_to_saves run.choices.every deliveries) before.snapshot.kept now.snapshot.kept

-- the world has taken the deliveries before a line that changes the mapping, behind which no byte was judged, every page being mapped by the
-- version that was in force there; this line's version is in force, and the pages of some entities, the least first, are mapped by it, and had room; what is reported
-- of these deliveries and of these pages was written, and nothing else
pub record StandsAtMapping (run : Run) (before now : Moment) : Type 0 where
  pub deliveries : List Delivery
  pub version : MappingVersion
  pub steps : ℕ
  pub pages : List Step
  pub are : pages ++ steps_anew version now.stage.world.played.records now.stage.mapped.by_two
      ≡ steps_anew version now.stage.world.played.records (all_by (version_at deliveries (start_of run before)) now.stage.world.played.records)
  pub played : IsPlayed run.environment (course_remapping run.environment.routes pages deliveries (start_of run before)) (start_of run before) (with_mapped now.stage (mapped_by (version_at deliveries (start_of run before)) now.stage.world.played.records))
  pub mapped : now.stage.mapped ≡ remapped_some steps now.stage.world.played.records (record { version = version; by_two = all_by (version_at deliveries (start_of run before)) now.stage.world.played.records })
  pub roomed : HaveRoomBefore run.environment.limit (needed_anew now.stage.world.played.records now.stage.mapped)
      (needed_anew now.stage.world.played.records (record { version = version; by_two = all_by (version_at deliveries (start_of run before)) now.stage.world.played.records }))
  pub first : AreFirstAlone (max_bytes_of run.choices) before.input.left now.input.left (deliveries ++ Mapping version ∷ [])
  pub kept : KeepsOnTheWay run (start_of run before) (up_to_saves run.choices.every deliveries) before.snapshot.kept now.snapshot.kept

-- the same, right after the last of these pages, whose record was cut off: after what is reported of the deliveries and of the pages before
-- it, only a prefix of this record was written, and nothing else; if a write failed, not all of it
pub record StandsAtPage (why : Unwritten) (run : Run) (before now : Moment) : Type 0 where
  pub changes_reported : run.environment.report ≡ Changes
  pub deliveries : List Delivery
  pub version : MappingVersion
  pub steps : ℕ
  pub pages : List Step
  pub last : Step
  pub are : (pages ++ last ∷ []) ++ steps_anew version now.stage.world.played.records now.stage.mapped.by_two
      ≡ steps_anew version now.stage.world.played.records (all_by (version_at deliveries (start_of run before)) now.stage.world.played.records)
  pub differs : is_change last ≡ true
  pub between : Output
  pub played : IsPlayed run.environment (course_remapping run.environment.routes pages deliveries (start_of run before)) (start_of run before)
      (with_output (with_mapped now.stage (mapped_by (version_at deliveries (start_of run before)) now.stage.world.played.records)) between)
  pub mapped : now.stage.mapped ≡ remapped_some steps now.stage.world.played.records (record { version = version; by_two = all_by (version_at deliveries (start_of run before)) now.stage.world.played.records })
  pub roomed : HaveRoomBefore run.environment.limit (needed_anew now.stage.world.played.records now.stage.mapped)
      (needed_anew now.stage.world.played.records (record { version = version; by_two = all_by (version_at deliveries (start_of run before)) now.stage.world.played.records }))
  pub cut_short : IsCutShort why (record_text (record_of_step (run.numbered.patches + changes ((course_after run.environment.routes deliveries (start_of run before)).steps played.replies ++ pages) + 1) last)) between now.stage.output
  pub first : AreFirstAlone (max_bytes_of run.choices) before.input.left now.input.left (deliveries ++ Mapping version ∷ [])
  pub kept : KeepsOnTheWay run (start_of run before) (up_to_saves run.choices.every deliveries) before.snapshot.kept now.snapshot.kept

-- what a run that stopped while it printed leaves: in the answer to a question, or in the sections; or in the record of an application, or
-- of a remapped page
abbrev pub IsInterrupted : Unwritten → Run → Moment → Moment → Type 0
IsInterrupted why run before now = (StandsAtQuestion why run before now ⊎ BrokenOff why run before now) ⊎ (IsHalted (Unprinted why) run before now ⊎ StandsAtPage why run before now)

-- why a run stopped that was begun, and what stands then
abbrev pub Stopped : Stop → Run → Moment → Moment → Type 0
Stopped (BadLine number cause) run before now = StandsBeforeLine number cause run before now
Stopped ReadFault run before now = Rose before.input.faults now.input.faults × StandsAfter run before now
Stopped WriteFault run before now =
    (Rose before.stage.output.faults now.stage.output.faults × IsInterrupted NotWritten run before now)
    ⊎ (Rose before.snapshot.faults now.snapshot.faults × IsUnsaved run before now)
Stopped TooLong run before now = StandsAtLimit run before now
Stopped StoreFull run before now =
    (IsFull run.environment now.stage.world now.stage.mapped × IsHalted (Unapplied NoRoom) run before now)
    ⊎ (IsFullOfStale run.environment.limit now.stage.world.played.records now.stage.mapped × StandsAtMapping run before now)
Stopped OutOfMemory run before now =
    ((IsHalted (Unapplied PoolOutOfMemory) run before now ⊎ StandsAtMapping run before now) ⊎ IsInterrupted UnwrittenOutOfMemory run before now)
    ⊎ IsUnsaved run before now
Stopped (BadSnapshot number) run before now = ⊥

-- a run that stopped left the snapshots as they were, or stopped while it saved the world at the end
abbrev pub LeavesSnapshot : Stop → Run → Moment → Moment → Type 0
LeavesSnapshot stop run before now = (now.snapshot ≡ before.snapshot) ⊎ ((why : Unwritten) × (stop ≡ stop_of_unwritten why) × Unsaved run before now)

-- what a replay that was begun leaves: it ended with Ok or stopped for a cause; what it took of its input is bounded; where it doesn't save
-- on the way it kept nothing before all else was written; and it read nothing of the snapshot that it goes on from
pub record ReplayEnding (stopped : Option Stop) (run : Run) (before now : Moment) : Type 0 where
  pub outcome : MatchOption stopped (Ending run before now) (λ stop. Stopped stop run before now)
  pub taken : IfSome before.input.left (λ bytes. TakesByNeed (max_bytes_of run.choices) bytes now.input.left before.last_read now.last_read)
  pub snapshot : run.choices.every ≡ None → IfSome stopped (λ stop. LeavesSnapshot stop run before now)
  pub resumed : now.resumed ≡ before.resumed
