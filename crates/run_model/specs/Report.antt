-- What is reported of a play.
use Rattle.std.specs.Prelude.{◌≡◌, true, ℕ, ◌+◌, List, [], ◌∷◌, ◌++◌, Option}
use Rattle.wq_io.specs.Streams.{after_known}
use Rattle.replay_model.specs.Play.{Replies}
use Rattle.replica.specs.Record.{record_text}
use Rattle.text_output.specs.{declared.write.Unwritten.Unwritten, Printing.IsCutShort, Printing.Output}
use Rattle.patch_stream.specs.Stream.{Step, changes, has_change, is_change, record_of_step, steps_due}
use Rattle.run_model.specs.{declared.report.Report.Report, declared.report.Reported.Reported}
use Rattle.run_model.specs.{declared.report.Report.TheVariants.Answers, declared.report.Report.TheVariants.Changes, declared.stop.Halt.Halt}
use Rattle.run_model.specs.declared.stop.Halt.TheVariants.{Unapplied, Unprinted}
use Rattle.run_model.specs.{Course.stream_text_from, Course.Course, Moment.Beginning, Moment.Stage}

-- the bytes of an output that has what is reported of a whole play
abbrev pub bytes_of : Report → Course → Beginning → Replies → Option (List ℕ)
bytes_of Answers course start replies = course.bytes replies
bytes_of Changes course start replies = after_known start.output.bytes (stream_text_from start.numbered.patches (course.steps replies))

-- ---- how far the report of a play has come

-- the output has the answers so far, and it is known whether one of the steps that were made so far changed what is stored; those of due
-- events are still to be made
pub record HasSaid (course : Course) (reported : Reported) (now : Stage) (replies : Replies) : Type 0 where
  pub steps : List Step
  pub are : steps ++ steps_due course.version replies now.world ≡ course.steps replies
  pub changed : reported.changed ≡ has_change steps
  pub bytes : now.output.bytes ≡ course.bytes replies

-- the output has the records of the steps that were made so far, so many; those of due events are still to be made
pub record HasTold (course : Course) (reported : Reported) (start : Beginning) (now : Stage) (replies : Replies) : Type 0 where
  pub steps : List Step
  pub are : steps ++ steps_due course.version replies now.world ≡ course.steps replies
  pub counted : reported.number ≡ start.numbered.patches + changes steps
  pub bytes : now.output.bytes ≡ after_known start.output.bytes (stream_text_from start.numbered.patches steps)

-- the last step that was made changed what is stored, and its record wasn't written wholly behind those of the steps before it: a prefix of
-- it was, and nothing else; where a write failed, not all of it
pub record HasBrokenOff (why : Unwritten) (course : Course) (start : Beginning) (now : Stage) (replies : Replies) : Type 0 where
  pub steps : List Step
  pub last : Step
  pub are : (steps ++ last ∷ []) ++ steps_due course.version replies now.world ≡ course.steps replies
  pub differs : is_change last ≡ true
  pub between : Output
  pub bytes : between.bytes ≡ after_known start.output.bytes (stream_text_from start.numbered.patches steps)
  pub cut_short : IsCutShort why (record_text (record_of_step (start.numbered.patches + changes steps + 1) last)) between now.output

-- what is reported of a play so far, so many answers or records, is written
abbrev pub HasReported : Report → Course → Reported → Beginning → Stage → Replies → Type 0
HasReported Answers course reported start now replies = HasSaid course reported now replies
HasReported Changes course reported start now replies = HasTold course reported start now replies

-- the same where a delivery wasn't taken wholly, but for the last record where that is why
abbrev pub HasReportedAt : Halt → Report → Course → Beginning → Stage → Replies → Type 0
HasReportedAt (Unapplied why) report course start now replies = (reported : Reported) × HasReported report course reported start now replies
HasReportedAt (Unprinted why) Answers course start now replies = ⊥
HasReportedAt (Unprinted why) Changes course start now replies = HasBrokenOff why course start now replies
