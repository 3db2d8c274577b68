-- How far a world has come in a play while deliveries are taken, what is reported of it so far, and what the taking of a delivery leaves.
use Rattle.std.specs.Prelude.{◌≡◌, ⊤, true, Bool, ◌||◌, cond, ℕ, ◌+◌, ◌-◌, ◌^◌, ◌<◌, length, List, [], ◌∷◌, ◌++◌, Option, Result, Ok, Err, false, ◌⊎◌, ◌≤◌, None, Some, IfSome}
use Rattle.wq_io.specs.Streams.{after_known, Rose, IsAtEnd}
use Rattle.triple_store.specs.declared.telling.Telling.{Telling}
use Rattle.triple_store.specs.declared.telling.Telling.TheVariants.{Nothing, Whether, Change}
use Rattle.replay_model.specs.{Transcript.Question, Transcript.asking, Transcript.asks, Transcript.matches, Play.Replies, Records.Records}
use Rattle.replay_model.specs.ReplayState.{ReplayState, after_some, entered}
use Rattle.replay_model.specs.Explained.{AgreeOnApplied, Explained}
use Rattle.replica.specs.Record.{record_text}
use Rattle.delivery.specs.{declared.Delivery.Delivery, declared.Delivery.TheVariants.Mapping}
use Rattle.text_output.specs.{declared.write.Unwritten.Unwritten, Printing.IsCutShort, Printing.Output, Printing.Prints}
use Rattle.text_output.specs.declared.write.Unwritten.TheVariants.{WriteFault, OutOfMemory as UnwrittenOutOfMemory}
use Rattle.checkpoint.specs.{Archive.Archive, Archive.Keeps, declared.fault.LoadFault.LoadFault}
use Rattle.patch_stream.specs.Stream.{Step, TellsStep, changes, has_change, is_change, record_of_step, steps_anew}
use Rattle.snapshot.specs.declared.counts.Counts.{Counts}
use Rattle.run_model.specs.{declared.report.Report.Report, declared.report.Reported.Reported, declared.lines_taken.LinesTaken.LinesTaken}
use Rattle.run_model.specs.{declared.report.Report.TheVariants.Answers, declared.report.Report.TheVariants.Changes, declared.stop.Halt.Halt}
use Rattle.run_model.specs.declared.stop.Halt.TheVariants.{Unapplied, Unprinted}
use Rattle.run_model.specs.Course.{stream_text_from, Course, answer_held, course_after, course_begun, course_to_end, led_to, version_at, course_ended}
use Rattle.run_model.specs.Moment.{Beginning, Stage, HasCounted, Environment, Moment, Run, limit_of, start_of, numbers_of, marks, reported_as, up_to_saves}
use Rattle.run_model.specs.declared.stop.Stop.{Stop}
use Rattle.run_model.specs.Remapping.{HaveRoomBefore, needed_anew, needed_by_due, IsLeftStale, KeepsVersion, Mapped, mapped_by, remapped_some}
use Rattle.run_model.specs.{Report.HasReported, Stop.stop_of_halt, Stop.stop_of_unwritten, Stop.stop_of_load, Reading.AreDeliveries}
use Rattle.run_model.specs.{Taking.HoldsDocuments, Taking.IsFull, Taking.judgement, Taking.IsEventOrMark, Taking.IsWithin, Moved.Moved}
use Rattle.run_model.specs.Headline.{HasReplayed, KeepsOnTheWay}
use Rattle.run_model.specs.Resuming.{IsSnapshotOf, AllowsHorizon, IsRefusedFor}
use Rattle.entity_model.specs.declared.mapping.MappingVersion.{MappingVersion}
use Rattle.reorder_buffer.specs.Buffered.{first_due}
use Rattle.term_pool.specs.declared.fault.PoolFault.TheVariants.{Full, OutOfMemory}
use Rattle.arguments.specs.Options.{closes, max_bytes_of, Choices}
use Rattle.world.specs.Limit.{Limit}
use Rattle.graph_routes.specs.declared.routes.Route.{Route}

-- what an application and a remapping tell, where this was reported before them: their change where it is written; otherwise whether there
-- was one, until the first
abbrev pub telling_of : Report → Reported → Telling
telling_of Answers reported = cond reported.changed Nothing Whether
telling_of Changes reported = Change

-- how many asks were answered or records written by earlier runs; this one has changed nothing yet
abbrev pub reported_before : Report → Counts → Reported
reported_before Answers numbered = reported_as numbered.asks false
reported_before Changes numbered = reported_as numbered.patches false

-- where questions are answered, there is a number for one more answer to an ask, and for one more to a match
abbrev pub HasNumberLeft : Report → Reported → ℕ → Type 0
HasNumberLeft Answers reported matched = (reported.number < 2 ^ 64 - 1) × (matched < 2 ^ 64 - 1)
HasNumberLeft Changes reported matched = ⊤

-- where questions are answered, so many asks were, with those of earlier runs
abbrev pub HasAnswered : Report → Reported → List Delivery → Beginning → Type 0
HasAnswered Answers reported ds start = reported.number ≡ start.numbered.asks + asks ds
HasAnswered Changes reported ds start = ⊤

-- if questions are answered, a question is answered by this text after so many asks, and what is reported then is returned
abbrev pub AnswersQuestion : Report → Reported → Question → List ℕ → Output → Output → Result Reported Unwritten → Type 0
AnswersQuestion Answers reported question text old new (Ok now) = (now ≡ reported_as (reported.number + asks (asking question ∷ [])) reported.changed) × Prints text old new (Ok tt)
AnswersQuestion Answers reported question text old new (Err why) = Prints text old new (Err why)
AnswersQuestion Changes reported question text old new (Ok now) = (now ≡ reported) × (new ≡ old)
AnswersQuestion Changes reported question text old new (Err why) = ⊥

-- if questions are answered, this text is printed at the end
abbrev pub PrintsClosing : Report → List ℕ → Output → Output → Result (Unit {0}) Unwritten → Type 0
PrintsClosing Answers text old new result = Prints text old new result
PrintsClosing Changes text old new result = (result ≡ Ok tt) × (new ≡ old)

-- a step is told behind so many records, where changes are reported, and how many were written then is said; otherwise whether one has
-- changed what is stored
abbrev pub TellsStepBy : Report → Reported → Step → Output → Output → Result Reported Unwritten → Type 0
TellsStepBy Answers reported s old new (Ok now) = (now ≡ reported_as reported.number (reported.changed || is_change s)) × (new ≡ old)
TellsStepBy Answers reported s old new (Err why) = ⊥
TellsStepBy Changes reported s old new (Ok now) = TellsStep reported.number s old new (Ok now.number)
TellsStepBy Changes reported s old new (Err why) = TellsStep reported.number s old new (Err why)

-- the records of these steps were written behind so many, and so many are written then; if nothing waited before to be handed on, nothing
-- waits
pub record HasToldSteps (told : ℕ) (steps : List Step) (told_now : ℕ) (old new : Output) : Type 0 where
  pub counted : (numbered : ℕ) (earlier : List Step) → told ≡ numbered + changes earlier → told_now ≡ numbered + changes (earlier ++ steps)
  pub bytes : (numbered : ℕ) (earlier : List Step) (start : Option (List ℕ)) → told ≡ numbered + changes earlier → old.bytes ≡ after_known start (stream_text_from numbered earlier) →
      new.bytes ≡ after_known start (stream_text_from numbered (earlier ++ steps))
  pub handed : old.waits ≡ false → new.waits ≡ false

-- what is reported once these steps were made too, where questions are answered
abbrev pub reported_with : Reported → List Step → Reported
reported_with reported steps = reported_as reported.number (reported.changed || has_change steps)

-- if changes are reported; otherwise nothing is written
abbrev pub TellsBy : Report → Reported → List Step → Reported → Output → Output → Type 0
TellsBy Answers reported steps reported_now old new = (reported_now ≡ reported_with reported steps) × (new ≡ old)
TellsBy Changes reported steps reported_now old new = HasToldSteps reported.number steps reported_now.number old new

-- the records of these steps were written, and that of a last one wasn't written wholly
pub record BreaksOff (why : Unwritten) (told : ℕ) (steps : List Step) (last : Step) (old new : Output) : Type 0 where
  pub differs : is_change last ≡ true
  pub between : Output
  pub told_then : ℕ
  pub tells : HasToldSteps told steps told_then old between
  pub cut_short : IsCutShort why (record_text (record_of_step (told_then + 1) last)) between new

-- only if changes are reported
abbrev pub BreaksOffBy : Report → Unwritten → Reported → List Step → Step → Output → Output → Type 0
BreaksOffBy Answers why reported steps last old new = ⊥
BreaksOffBy Changes why reported steps last old new = BreaksOff why reported.number steps last old new

-- the world leads to a play with some replies, the counts rose with what was fetched for it so far, and what is held are
-- documents; with all replies that agree with these on what was applied the output has what is reported of the play so far, and there was room for all
-- that the play needs but what due events have still to bring. If nothing waited before to be handed on, nothing waits
pub record Leads (environment : Environment) (course : Course) (reported : Reported) (start : Beginning) (now : Stage) : Type 0 where
  pub made : ℕ
  pub explained : Explained judgement environment.known course.state course.fetched made now.world
  pub counted : HasCounted start.counts now.counts start.world.played.side made now.world.played.side
  pub documents : HoldsDocuments now.world
  pub says : (others : Replies) → AgreeOnApplied now.world explained.replies others → HasReported environment.report course reported start now others
  pub roomed : (others : Replies) → AgreeOnApplied now.world explained.replies others → HaveRoomBefore environment.limit (needed_by_due course.version others now.world) (course.needed others)
  pub handed : start.output.waits ≡ false → now.output.waits ≡ false

-- the world leads to a play with some replies, and is so many applications of due events after where the play begins them,
-- the least first
pub record IsUnderWay (environment : Environment) (course : Course) (begun : Replies → ReplayState) (reported : Reported) (start : Beginning) (now : Stage) : Type 0 where
  pub leads : Leads environment course reported start now
  pub steps : ℕ
  pub is : (others : Replies) → AgreeOnApplied now.world leads.explained.replies others → now.world ≡ after_some others steps (begun others)

-- the world has taken these deliveries, and no event is due: with some replies, it is where a replay of them leads, and the
-- output has what is reported of this replay, so many answers or records; and every page is mapped by the version in force
pub record AtRest (environment : Environment) (ds : List Delivery) (reported : Reported) (start : Beginning) (now : Stage) : Type 0 where
  pub leads : Leads environment (course_after environment.routes ds start) reported start now
  pub answered : HasAnswered environment.report reported ds start
  pub rests : first_due now.world.buffer ≡ None
  pub begun : start.world.buffer.closed ≡ false
  pub mapped : now.mapped ≡ mapped_by (version_at ds start) now.world.played.records
  pub later : start.output.faults ≤ now.output.faults

-- the world has taken these deliveries and the end of the input, no event is due, and every page is mapped by the version in force
pub record AtEnd (environment : Environment) (ds : List Delivery) (reported : Reported) (start : Beginning) (now : Stage) : Type 0 where
  pub leads : Leads environment (course_to_end environment.routes ds start) reported start now
  pub rests : first_due now.world.buffer ≡ None
  pub mapped : now.mapped ≡ mapped_by (version_at ds start) now.world.played.records
  pub later : start.output.faults ≤ now.output.faults

-- all due events were applied: where the world led to a play, by whose version every page was mapped, it does so now; so many answers or
-- records were written before, and so many now
pub record AppliesDue (environment : Environment) (reported reported_now : Reported) (before now : Stage) : Type 0 where
  pub leads : (course : Course) (start : Beginning) → before.mapped ≡ mapped_by course.version before.world.played.records →
      Leads environment course reported start before → Leads environment course reported_now start now
  pub rests : first_due now.world.buffer ≡ None
  pub answered : environment.report ≡ Answers → reported_now.number ≡ reported.number

-- why the least due event isn't applied, or the last one isn't told
abbrev pub IsHeldUp : Halt → Environment → Output → Stage → Type 0
IsHeldUp (Unapplied Full) environment old now = IsFull environment now.world now.mapped
IsHeldUp (Unapplied OutOfMemory) environment old now = ⊤
IsHeldUp (Unprinted WriteFault) environment old now = Rose old.faults now.output.faults
IsHeldUp (Unprinted UnwrittenOutOfMemory) environment old now = ⊤

-- a due event wasn't applied, or not told: if the world was under way in a play, by whose version every page was mapped, it still is
abbrev pub StaysWithin : Halt → Environment → Reported → Stage → Stage → Type 0
StaysWithin halt environment reported before now =
    (course : Course) (begun : Replies → ReplayState) (start : Beginning) → before.mapped ≡ mapped_by course.version before.world.played.records →
    IsUnderWay environment course begun reported start before → IsWithin halt environment course begun start now

-- a delivery, what was reported before it, and how many matches were delivered
pub record Turn : Type 0 where
  pub reported : Reported
  pub matched : ℕ
  pub delivery : Delivery

-- this delivery, behind so many asks or records, and so many matches
abbrev pub turn : Reported → ℕ → Delivery → Turn
turn reported matched delivery = record { reported = reported; matched = matched; delivery = delivery }

-- a world that was at rest is at rest with one delivery more, from whichever stage it began; so many answers or records are written then
abbrev pub TakesDelivery : Environment → Turn → Reported → Stage → Stage → Type 0
TakesDelivery environment t reported_now before now =
    (ds : List Delivery) (start : Beginning) → t.matched ≡ start.numbered.matches + matches ds → AtRest environment ds t.reported start before → AtRest environment (ds ++ t.delivery ∷ []) reported_now start now

-- a question was answered, but not all was written: the world and the counts are as they were
pub record AnswersInPart (why : Unwritten) (environment : Environment) (t : Turn) (before now : Stage) : Type 0 where
  pub answers : environment.report ≡ Answers
  pub question : Question
  pub is : t.delivery ≡ asking question
  pub world : now.world ≡ before.world
  pub mapped : now.mapped ≡ before.mapped
  pub counts : now.counts ≡ before.counts
  pub cut_short : IsCutShort why (answer_held environment.routes t.reported.number t.matched before.mapped before.world.played.records question) before.output now.output

-- nothing of a delivery was taken, as may be where memory was refused
abbrev pub IsUntaken : Halt → Stage → Stage → Type 0
IsUntaken (Unapplied Full) before now = ⊥
IsUntaken (Unapplied OutOfMemory) before now = (now.world ≡ before.world) × (now.counts ≡ before.counts) × (now.output ≡ before.output)
IsUntaken (Unprinted why) before now = ⊥

-- an event or a watermark wasn't taken wholly: a world that was at rest is as it was, with counts and output, or has taken it, with some
-- of what it makes due; every page is mapped by the version by which it was, if all were by one
pub record TakesInPart (halt : Halt) (environment : Environment) (t : Turn) (before now : Stage) : Type 0 where
  pub kind : IsEventOrMark t.delivery
  pub held_up : IsHeldUp halt environment before.output now
  pub mapped : KeepsVersion before.mapped now.mapped before.world.played.records now.world.played.records
  pub world : (ds : List Delivery) (start : Beginning) → AtRest environment ds t.reported start before →
      IsUntaken halt before now
      ⊎ IsWithin halt environment (course_begun environment.routes ds (Some t.delivery) start) (λ replies. entered (led_to ds start replies) t.delivery) start now

-- why not all pages were remapped, or the last one isn't told
abbrev pub IsLeft : Halt → Limit → Records → Mapped → Output → Output → Type 0
IsLeft (Unapplied why) limit records now old new = IsLeftStale why limit records now
IsLeft (Unprinted WriteFault) limit records now old new = Rose old.faults new.faults
IsLeft (Unprinted UnwrittenOutOfMemory) limit records now old new = ⊤

-- the records of the remapped pages were written after so many, but for the last one if that is why
abbrev pub TellsPages : Halt → Report → Reported → List Step → Output → Output → Type 0
TellsPages (Unapplied why) report reported pages old new = (reported_now : Reported) × TellsBy report reported pages reported_now old new
TellsPages (Unprinted why) report reported pages old new = (others : List Step) × (last : Step) × (pages ≡ others ++ last ∷ []) × BreaksOffBy report why reported others last old new

-- this version is in force, and the pages of some entities, the least first, are mapped by it, and had room; their steps are told
pub record RemapsPages (halt : Halt) (report : Report) (limit : Limit) (reported : Reported) (version : MappingVersion) (records : Records) (before now : Mapped) (old new : Output) : Type 0 where
  pub left : IsLeft halt limit records now old new
  pub steps : ℕ
  pub mapped : now ≡ remapped_some steps records (record { version = version; by_two = before.by_two })
  pub roomed : HaveRoomBefore limit (needed_anew records now) (needed_anew records (record { version = version; by_two = before.by_two }))
  pub pages : List Step
  pub are : pages ++ steps_anew version records now.by_two ≡ steps_anew version records before.by_two
  pub told : TellsPages halt report reported pages old new

-- a change of the mapping wasn't taken wholly: its version is in force, and the pages of some entities are mapped by it; all else is as it was
pub record RemapsInPart (halt : Halt) (environment : Environment) (t : Turn) (before now : Stage) : Type 0 where
  pub version : MappingVersion
  pub is : t.delivery ≡ Mapping version
  pub counts : now.counts ≡ before.counts
  pub world : now.world ≡ before.world
  pub remaps : RemapsPages halt environment.report environment.limit t.reported version before.world.played.records before.mapped now.mapped before.output now.output

-- a delivery wasn't taken, or not wholly: its answer wasn't written, or it or what it makes due wasn't applied or not told, or not all that
-- is held was remapped, or not told
abbrev pub CutsOff : Stop → Environment → Turn → Stage → Stage → Type 0
CutsOff stop environment t before now =
    ((why : Unwritten) × (stop ≡ stop_of_unwritten why) × AnswersInPart why environment t before now)
    ⊎ (((halt : Halt) × (stop ≡ stop_of_halt halt) × TakesInPart halt environment t before now)
    ⊎ ((halt : Halt) × (stop ≡ stop_of_halt halt) × RemapsInPart halt environment t before now))

-- what was taken before the first line of a run, behind earlier ones that left these counts
abbrev pub taken_before : Report → Counts → LinesTaken
taken_before report earlier = record { reported = reported_before report earlier; matched = earlier.matches; lines = earlier.lines; marks = 0 }

-- with one line more, which is this delivery
abbrev pub taken_with : LinesTaken → Delivery → LinesTaken
taken_with taken d = record { reported = taken.reported; matched = taken.matched + matches (d ∷ []); lines = taken.lines + 1; marks = taken.marks + marks (d ∷ []) }

-- the whole input was read, and all lines were taken; so many asks were answered or records written, so many matches were delivered, and so
-- many lines taken, with those of earlier runs; and the snapshots on the way were kept
pub record HasTaken (run : Run) (taken : LinesTaken) (before now : Moment) : Type 0 where
  pub deliveries : List Delivery
  pub read : IsAtEnd now.input.left
  pub are : IfSome before.input.left (λ bytes. AreDeliveries (max_bytes_of run.choices) bytes deliveries)
  pub at_rest : AtRest run.environment deliveries taken.reported (start_of run before) now.stage
  pub matched_are : taken.matched ≡ run.numbered.matches + matches deliveries
  pub lines_are : taken.lines ≡ run.numbered.lines + length deliveries
  pub kept : KeepsOnTheWay run (start_of run before) (up_to_saves run.choices.every deliveries) before.snapshot.kept now.snapshot.kept

-- the same, and where the world is saved, these are the counts of what was reported
pub record HasTakenAll (run : Run) (numbers : Counts) (before now : Moment) : Type 0 where
  pub replayed : HasReplayed run before now
  pub kept : KeepsOnTheWay run (start_of run before) (up_to_saves run.choices.every replayed.deliveries) before.snapshot.kept now.snapshot.kept
  pub counted : closes run.choices ≡ false →
      numbers ≡ numbers_of run.environment.report (course_ended run.environment.routes (closes run.choices) replayed.deliveries (start_of run before)).steps replayed.deliveries (start_of run before) replayed.replay.played.replies

-- what a replay begins with that goes on from a snapshot, of which this is left
pub record IsLoaded (choices : Choices) (left rest : Option (List ℕ)) (routes : Option (List Route)) (replay : Moved) : Type 0 where
  pub loaded : IsSnapshotOf left (limit_of choices) replay.world replay.earlier
  pub allowed : AllowsHorizon choices replay.world.replay.buffer.horizon
  pub routes_are : replay.routes ≡ routes
  pub read : IsAtEnd rest

-- no replay goes on from the snapshot, for a cause
pub record IsUnloaded (stop : Stop) (choices : Choices) (left : Option (List ℕ)) (before now : ℕ) : Type 0 where
  pub fault : LoadFault
  pub is : stop ≡ stop_of_load fault
  pub cause : IsRefusedFor fault choices left before now

-- ---- saves

-- where a save is due, it keeps a snapshot of these bytes, or none for a cause; otherwise nothing is done
abbrev pub KeepsIf : Bool → List ℕ → Archive → Archive → Result (Unit {0}) Unwritten → Type 0
KeepsIf true text old new result = Keeps text old new result
KeepsIf false text old new result = (result ≡ Ok tt) × (new ≡ old)
