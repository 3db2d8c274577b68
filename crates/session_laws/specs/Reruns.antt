-- Runs over told contents without a failed fetch, and how much of a text was written.
use Rattle.std.specs.Prelude.{◌≡◌, ℕ, ◌+◌, ◌-◌, ◌^◌, ◌<◌, Bool, List, [], ◌∷◌, ◌++◌, Option, Some, length, flat_map}
use Rattle.wq_io.specs.Streams.{after_known}
use Rattle.delivery.specs.declared.Delivery.{Delivery}
use Rattle.replay_model.specs.{Play.Replies, Records.Bytes, Replies.failed_events, Replies.source_replies, Transcript.Sections}
use Rattle.graph_routes.specs.declared.routes.Route.{Route}
use Rattle.replica.specs.{declared.record.PatchRecord.PatchRecord, Record.record_text}
use Rattle.patch_stream.specs.Stream.{Step, is_change, numbered_from}
use Rattle.run_model.specs.declared.report.Report.{Report}
use Rattle.run_model.specs.declared.report.Report.TheVariants.{Answers, Changes}
use Rattle.run_model.specs.{Course.all_said, Course.course_ended, Course.stream_text_from, Moment.Beginning, Moment.Moment, Moment.Run}
use Rattle.run_model.specs.Taking.{judgement}
use Rattle.std.specs.Prelude.{filter}

-- no fetch of a run failed: the counter of failures stayed the same and, with the failed fetches that the side output named before the run,
-- isn't saturated
pub record NoFetchFails (before now : Moment) : Type 0 where
  pub same : now.stage.counts.faults ≡ before.stage.counts.faults
  pub below : length (failed_events before.stage.world.played.side) + now.stage.counts.faults < 2 ^ 64 - 1

-- the replies of what is there, and of the failed fetches that the side output names where the run begins
abbrev pub replies_at : (ℕ → Option Bytes) → Moment → Replies
replies_at contents before = source_replies judgement contents (failed_events before.stage.world.played.side)

-- two runs begin in one place: the world is the same, and so is the version of the mapping in force
pub record BeginAlike (before again : Moment) : Type 0 where
  pub world : again.stage.world ≡ before.stage.world
  pub version : again.stage.mapped.version ≡ before.stage.mapped.version

-- two runs over the same told input and told contents, of which no fetch failed
pub record AreTold (run : Run) (contents : ℕ → Option Bytes) (bytes : List ℕ) (before now again done : Moment) : Type 0 where
  pub known : run.environment.known ≡ Some contents
  pub left : before.input.left ≡ Some bytes
  pub left_again : again.input.left ≡ Some bytes
  pub unfailed : NoFetchFails before now
  pub unfailed_again : NoFetchFails again done

-- what is reported of these deliveries with these replies, from a beginning on: answers and sections, or the records of changes
abbrev pub reported : Report → Option (List Route) → Bool → Sections → List Delivery → Beginning → Replies → List ℕ
reported Answers routes closed sections ds start replies = all_said routes closed sections ds start replies
reported Changes routes closed sections ds start replies = stream_text_from start.numbered.patches ((course_ended routes closed ds start).steps replies)

-- a prefix of this text was written behind what was written before, and nothing else
pub record WritesPrefix (text : List ℕ) (old new : Option (List ℕ)) : Type 0 where
  pub written : List ℕ
  pub unwritten : List ℕ
  pub is : text ≡ written ++ unwritten
  pub bytes : new ≡ after_known old written

-- the records of these steps, numbered behind so many
abbrev pub records_from : ℕ → List Step → List PatchRecord
records_from told steps = numbered_from (told + 1) (filter is_change steps)

-- a beginning of the text of the first of these records, and not all of it; nothing where there is none
abbrev pub IsPartOfFirst : List PatchRecord → List ℕ → Type 0
IsPartOfFirst [] part = part ≡ []
IsPartOfFirst (item ∷ items) part = (rest : List ℕ) × (0 < length rest) × (record_text item ≡ part ++ rest)

-- the first of these records were written, each of them whole, and then perhaps a part of the next one, and nothing else
pub record WritesFirst (items : List PatchRecord) (old new : Option (List ℕ)) : Type 0 where
  pub written : List PatchRecord
  pub unwritten : List PatchRecord
  pub part : List ℕ
  pub are : items ≡ written ++ unwritten
  pub cut : IsPartOfFirst unwritten part
  pub bytes : new ≡ after_known old (flat_map record_text written ++ part)
