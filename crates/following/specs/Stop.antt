-- Why a follower stopped, and what its input has then.
use Rattle.std.specs.Prelude.{◌≡◌, ◌⊎◌, ℕ, ◌+◌, List, [], ◌∷◌, ◌++◌, length, Option, None, IfSome, ⊤}
use Rattle.wq_io.specs.{Streams.Rose, declared.lines.LineFault.LineFault}
use Rattle.wq_io.specs.declared.lines.LineFault.TheVariants.{ReadFault as NotRead, TooLong as PastLimit, LineLong as OverLong, OutOfMemory as LineOutOfMemory}
use Rattle.replica.specs.{declared.reader.Begun.Begun, declared.reader.PatchFault.PatchFault}
use Rattle.replica.specs.declared.reader.PatchFault.TheVariants.{Head as NoHead, Triple as NoTriple, Order as OutOfOrder, OutOfMemory as PatchOutOfMemory}
use Rattle.replica.specs.{declared.record.PatchRecord.PatchRecord, Reader.HasCause, Replica.ReplicaState}
use Rattle.term_pool.specs.declared.fault.PoolFault.{PoolFault}
use Rattle.term_pool.specs.declared.fault.PoolFault.TheVariants.{Full, OutOfMemory as PoolOutOfMemory}
use Rattle.text_output.specs.declared.write.Unwritten.{Unwritten}
use Rattle.text_output.specs.declared.write.Unwritten.TheVariants.{WriteFault as NotWritten, OutOfMemory as UnwrittenOutOfMemory}
use Rattle.following.specs.declared.stop.RecordCause.{RecordCause}
use Rattle.following.specs.declared.stop.RecordCause.TheVariants.{LineLong, Head, Triple, Order, Short}
use Rattle.following.specs.declared.stop.FollowStop.{FollowStop}
use Rattle.following.specs.declared.stop.FollowStop.TheVariants.{BadLine, ReadFault, WriteFault, TooLong, StoreFull, OutOfMemory}
use Rattle.following.specs.Input.{Input}
use Rattle.following.specs.Reading.{AreFirstLines, AreLinesOf, EndsInLine, EndsInside, IsBadRecordLine, IsOverLong, RecordsPastLimit}
use Rattle.following.specs.Taking.{IsRecordOverfull, OverfillsByLine, TakenLines}

-- why a follower stopped at a fault of the reader of lines
abbrev pub stop_of_line : LineFault → FollowStop
stop_of_line NotRead = ReadFault
stop_of_line PastLimit = TooLong
stop_of_line (OverLong number) = BadLine number LineLong
stop_of_line LineOutOfMemory = OutOfMemory

-- why it stopped at a line with this number that the reader of records refused
abbrev pub stop_of_record : ℕ → PatchFault → FollowStop
stop_of_record number NoHead = BadLine number Head
stop_of_record number NoTriple = BadLine number Triple
stop_of_record number OutOfOrder = BadLine number Order
stop_of_record number PatchOutOfMemory = OutOfMemory

-- why it stopped at a record that wasn't applied
abbrev pub stop_of_store : PoolFault → FollowStop
stop_of_store Full = StoreFull
stop_of_store PoolOutOfMemory = OutOfMemory

-- why a follower stopped where not all was written
abbrev pub stop_of_unwritten : Unwritten → FollowStop
stop_of_unwritten NotWritten = WriteFault
stop_of_unwritten UnwrittenOutOfMemory = OutOfMemory

-- why the line behind these is refused, where so much of a record was read
abbrev pub IsRefused : RecordCause → ℕ → List ℕ → List (List ℕ) → Option Begun → Type 0
IsRefused LineLong limit bytes done begun = IsOverLong limit bytes done
IsRefused Head limit bytes done begun = IsBadRecordLine NoHead limit bytes done begun
IsRefused Triple limit bytes done begun = IsBadRecordLine NoTriple limit bytes done begun
IsRefused Order limit bytes done begun = IsBadRecordLine OutOfOrder limit bytes done begun
IsRefused Short limit bytes done begun = EndsInside limit bytes done begun

-- the line behind those that were taken has this number, and is refused
pub record StandsAtLine (cause : RecordCause) (limit room number : ℕ) (left : Option (List ℕ)) : Type 0 where
  pub taken : TakenLines room
  pub counted : number ≡ length taken.done + 1
  pub refused : IfSome left (λ bytes. IsRefused cause limit bytes taken.done taken.begun)

-- a read failed within the line behind those that were taken
pub record IsUnread (limit room : ℕ) (before now : Input) : Type 0 where
  pub rose : Rose before.faults now.faults
  pub taken : TakenLines room
  pub whole : EndsInLine limit before.left now.left taken.done

-- the line behind those that were taken goes past the limit
pub record PassesLimit (limit room : ℕ) (left : Option (List ℕ)) : Type 0 where
  pub taken : TakenLines room
  pub past : IfSome left (λ bytes. RecordsPastLimit limit bytes taken.done)

-- the line behind those that were taken ends a record, and there is no room for it, or for one that waited for it
pub record HasNoRoomForRecord (limit room : ℕ) (before now : Input) : Type 0 where
  pub taken : TakenLines room
  pub line : List ℕ
  pub item : PatchRecord
  pub are : AreLinesOf (taken.done ++ line ∷ []) (taken.items ++ item ∷ []) None
  pub full : IsRecordOverfull room (taken.items ++ item ∷ [])
  pub first : AreFirstLines limit before.left now.left (taken.done ++ line ∷ [])

-- why the taking of lines stopped, if an input may have so many bytes, and a store so many distinct terms
abbrev pub TakingStopped : FollowStop → ℕ → ℕ → Input → Input → Type 0
TakingStopped (BadLine number cause) limit room before now = StandsAtLine cause limit room number before.left
TakingStopped ReadFault limit room before now = IsUnread limit room before now
TakingStopped WriteFault limit room before now = ⊥
TakingStopped TooLong limit room before now = PassesLimit limit room before.left
TakingStopped StoreFull limit room before now = HasNoRoomForRecord limit room before now
TakingStopped OutOfMemory limit room before now = ⊤

-- why records aren't applied: there is no room, as this says, or memory was refused
abbrev pub HeldUp : FollowStop → Type 0 → Type 0
HeldUp stop Overfull = ((stop ≡ StoreFull) × Overfull) ⊎ (stop ≡ OutOfMemory)

-- why a line with this number isn't taken: it is refused, or there is no room for what it makes due, or memory was refused
abbrev pub StopsAtLine : FollowStop → ℕ → List ℕ → Option Begun → ReplicaState → Type 0
StopsAtLine stop number line old before =
    ((fault : PatchFault) × (stop ≡ stop_of_record number fault) × HasCause fault old line) ⊎ HeldUp stop (OverfillsByLine line old before)
