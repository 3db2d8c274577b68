-- The text and the number of each status.
use Rattle.std.specs.Prelude.{ℕ, List, [], ◌++◌, decimal, codes}
use Rattle.event_line.specs.declared.faults.LineCause.{LineCause}
use Rattle.event_line.specs.declared.faults.LineCause.TheVariants.{LineLong, NotJson, NoForm, Kind, Entity, Rev, Time, Mode, Pattern, Mapping, Match, Head, Triple, Order, Short}
use Rattle.run_model.specs.declared.status.Status.{Status}
use Rattle.run_model.specs.declared.status.Status.TheVariants.{Ok as Ended, BadWords, BadLine, ReadFault, WriteFault, TooLong, StoreFull, OutOfMemory, BadSnapshot}

-- the name of a cause
unfoldable pub cause_name : LineCause → List ℕ
cause_name LineLong = codes "LineLong"
cause_name NotJson = codes "NotJson"
cause_name NoForm = codes "NoForm"
cause_name Kind = codes "Kind"
cause_name Entity = codes "Entity"
cause_name Rev = codes "Rev"
cause_name Time = codes "Time"
cause_name Mode = codes "Mode"
cause_name Pattern = codes "Pattern"
cause_name Mapping = codes "Mapping"
cause_name Match = codes "Match"
cause_name Head = codes "Head"
cause_name Triple = codes "Triple"
cause_name Order = codes "Order"
cause_name Short = codes "Short"

-- the message for a refused line
abbrev pub bad_line_text : ℕ → LineCause → List ℕ
bad_line_text number cause = codes "wdq: line " ++ decimal number ++ codes ": " ++ cause_name cause

-- the message for a refused line of a snapshot
abbrev pub bad_snapshot_text : ℕ → List ℕ
bad_snapshot_text number = codes "wdq: snapshot: line " ++ decimal number

-- the line that says how a run ended
abbrev pub status_text : Status → List ℕ
status_text Ended = []
status_text BadWords = codes "wdq: words not understood"
status_text (BadLine number cause) = bad_line_text number cause
status_text ReadFault = codes "wdq: read fault"
status_text WriteFault = codes "wdq: write fault"
status_text TooLong = codes "wdq: input too long"
status_text StoreFull = codes "wdq: store full"
status_text OutOfMemory = codes "wdq: out of memory"
status_text (BadSnapshot number) = bad_snapshot_text number

-- the exit status of the process
abbrev pub status_number : Status → ℕ
status_number Ended = 0
status_number BadWords = 1
status_number (BadLine number cause) = 2
status_number ReadFault = 3
status_number WriteFault = 4
status_number TooLong = 5
status_number StoreFull = 6
status_number OutOfMemory = 7
status_number (BadSnapshot number) = 8
