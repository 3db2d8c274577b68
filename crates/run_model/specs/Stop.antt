-- Why a run stopped, and the status that it has then.
use Rattle.std.specs.Prelude.{⊤, Option, None, Some, Result, Ok, Err, ◌≡◌, ◌⊎◌, false, IsSome, IfSome}
use Rattle.arguments.specs.Options.{Choices, closes}
use Rattle.wq_io.specs.declared.lines.LineFault.{LineFault}
use Rattle.wq_io.specs.declared.lines.LineFault.TheVariants.{ReadFault as NotRead, TooLong as PastLimit, LineLong as OverLong, OutOfMemory as LineOutOfMemory}
use Rattle.event_line.specs.declared.faults.LineCause.{LineCause}
use Rattle.event_line.specs.declared.faults.LineCause.TheVariants.{LineLong, Head, Triple, Order, Short}
use Rattle.text_output.specs.declared.write.Unwritten.{Unwritten}
use Rattle.text_output.specs.declared.write.Unwritten.TheVariants.{WriteFault as NotWritten, OutOfMemory as UnwrittenOutOfMemory}
use Rattle.following.specs.declared.stop.RecordCause.{RecordCause}
use Rattle.following.specs.declared.stop.RecordCause.TheVariants.{LineLong as RecordLong, Head as NoHead, Triple as NoTriple, Order as OutOfOrder, Short as CutOff}
use Rattle.following.specs.declared.stop.FollowStop.{FollowStop}
use Rattle.following.specs.declared.stop.FollowStop.TheVariants.{BadLine as BadRecord, ReadFault as NotFollowed, WriteFault as NotPrinted, TooLong as OverLimit, StoreFull as NoPlace, OutOfMemory as FollowOutOfMemory}
use Rattle.checkpoint.specs.declared.fault.LoadFault.{LoadFault}
use Rattle.checkpoint.specs.declared.fault.LoadFault.TheVariants.{ReadFault as NotLoaded, TooLong as OverLength, BadLine as BadSnapshotLine, Full as NoRoomLeft, OutOfMemory as LoadOutOfMemory}
use Rattle.run_model.specs.{declared.stop.Stop.Stop, declared.stop.Halt.Halt}
use Rattle.run_model.specs.declared.stop.Halt.TheVariants.{Unapplied as NotApplied, Unprinted}
use Rattle.run_model.specs.declared.stop.Stop.TheVariants.{BadLine, ReadFault, WriteFault, TooLong, StoreFull, OutOfMemory, BadSnapshot}
use Rattle.run_model.specs.declared.status.Status.{Status}
use Rattle.run_model.specs.declared.status.Status.TheVariants.{Ok as Ended, BadWords as WordsRefused, BadLine as LineRefused, ReadFault as ReadFailed, WriteFault as WriteFailed, TooLong as LimitPassed}
use Rattle.run_model.specs.declared.status.Status.TheVariants.{StoreFull as RoomPassed, OutOfMemory as StatusOutOfMemory, BadSnapshot as SnapshotRefused}
use Rattle.term_pool.specs.declared.fault.PoolFault.{PoolFault as StoreFault}
use Rattle.term_pool.specs.declared.fault.PoolFault.TheVariants.{Full as NoRoom, OutOfMemory as PoolOutOfMemory}

-- why a run stopped at a fault of the reader of lines
abbrev pub stop_of_fault : LineFault → Stop
stop_of_fault NotRead = ReadFault
stop_of_fault PastLimit = TooLong
stop_of_fault (OverLong number) = BadLine number LineLong
stop_of_fault LineOutOfMemory = OutOfMemory

-- why a run stopped where not all was written
abbrev pub stop_of_unwritten : Unwritten → Stop
stop_of_unwritten NotWritten = WriteFault
stop_of_unwritten UnwrittenOutOfMemory = OutOfMemory

-- why a run stopped if not all due events were applied, or not all pages remapped
abbrev pub stop_of_unapplied : StoreFault → Stop
stop_of_unapplied NoRoom = StoreFull
stop_of_unapplied PoolOutOfMemory = OutOfMemory

-- why a run stopped where a delivery wasn't taken wholly
abbrev pub stop_of_halt : Halt → Stop
stop_of_halt (NotApplied why) = stop_of_unapplied why
stop_of_halt (Unprinted why) = stop_of_unwritten why

-- why a line of records is refused, as a cause of a line
abbrev pub cause_of_record : RecordCause → LineCause
cause_of_record RecordLong = LineLong
cause_of_record NoHead = Head
cause_of_record NoTriple = Triple
cause_of_record OutOfOrder = Order
cause_of_record CutOff = Short

-- why a run stopped where a follower did
abbrev pub stop_of_follow : FollowStop → Stop
stop_of_follow (BadRecord number cause) = BadLine number (cause_of_record cause)
stop_of_follow NotFollowed = ReadFault
stop_of_follow NotPrinted = WriteFault
stop_of_follow OverLimit = TooLong
stop_of_follow NoPlace = StoreFull
stop_of_follow FollowOutOfMemory = OutOfMemory

-- why a run stopped whose snapshot wasn't loaded
abbrev pub stop_of_load : LoadFault → Stop
stop_of_load NotLoaded = ReadFault
stop_of_load OverLength = TooLong
stop_of_load (BadSnapshotLine number) = BadSnapshot number
stop_of_load NoRoomLeft = StoreFull
stop_of_load LoadOutOfMemory = OutOfMemory

-- why a run with this status stopped, if it was begun and stopped
abbrev pub stop_of : Status → Option Stop
stop_of Ended = None
stop_of WordsRefused = None
stop_of (LineRefused number cause) = Some (BadLine number cause)
stop_of ReadFailed = Some ReadFault
stop_of WriteFailed = Some WriteFault
stop_of LimitPassed = Some TooLong
stop_of RoomPassed = Some StoreFull
stop_of StatusOutOfMemory = Some OutOfMemory
stop_of (SnapshotRefused number) = Some (BadSnapshot number)

-- why a replay stopped that ended so, if it stopped
abbrev pub stop_in : Result (Unit {0}) Stop → Option Stop
stop_in (Ok done) = None
stop_in (Err stop) = Some stop

-- a run that stopped so may have written a part of a snapshot; one that stopped for another cause wrote nothing of it
abbrev pub MayLeavePart : Stop → Type 0
MayLeavePart WriteFault = ⊤
MayLeavePart OutOfMemory = ⊤
MayLeavePart ReadFault = ⊥
MayLeavePart TooLong = ⊥
MayLeavePart StoreFull = ⊥
MayLeavePart (BadLine number cause) = ⊥
MayLeavePart (BadSnapshot number) = ⊥

-- a run of these choices that ended so may have kept or begun a snapshot: `--every` was given; or `--save` was, and the run ended well, or
-- stopped because a write failed or memory was refused
abbrev pub MayKeep : Choices → Option Stop → Type 0
MayKeep choices stopped = IsSome choices.every ⊎ ((closes choices ≡ false) × IfSome stopped MayLeavePart)
