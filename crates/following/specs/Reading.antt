-- The lines of an input as those of records.
use Rattle.std.specs.Prelude.{◌≡◌, ◌≢◌, ℕ, ◌+◌, ◌-◌, ◌<◌, ◌≤◌, false, List, ◌∷◌, ◌++◌, length, flat_map, Option, None, Some, IfSome}
use Rattle.std.specs.{Option.option_map, List.AllByRecursion}
use Rattle.sorted_sets.specs.Rising.{Each}
use Rattle.wq_io.specs.Streams.{before_known}
use Rattle.wq_io.specs.Lines.{Reading, IsLineLong, IsOneLine, IsTooLong, IsUndecided, ended_lines, input_length, lines, input_lines, longest_read, unread}
use Rattle.replica.specs.{declared.reader.Begun.Begun, declared.reader.PatchFault.PatchFault, declared.record.PatchRecord.PatchRecord}
use Rattle.replica.specs.{Laws.HasShortNumbers, Reader.HasCause, Reader.IsUnfinished, Reader.lines_read as lines_begun, Record.record_lines}

-- the most bytes that a line may have without its line feed: the line of a triple has fewer
abbrev pub longest_line : ℕ
longest_line = 134217728

-- these lines are those of the records, one after the other, and then those that were read of a record that lacks lines
pub record AreLinesOf (lines : List (List ℕ)) (items : List PatchRecord) (begun : Option Begun) : Type 0 where
  pub are : lines ≡ flat_map record_lines items ++ lines_begun begun
  pub sound : AllByRecursion HasShortNumbers items
  pub unfinished : IfSome begun IsUnfinished

-- these lines were read so far; the bytes that went into them stand before those that are unread
pub record HasReadLines (start : Option (List ℕ)) (reader : Reading) (left : Option (List ℕ)) (done : List (List ℕ)) : Type 0 where
  pub are : input_lines start ≡ option_map (λ (ls : List (List ℕ)). done ++ ls) (input_lines (unread reader left))
  pub counted : reader.given ≡ length done
  pub total : input_length reader left ≡ option_map length start
  pub read : List ℕ
  pub bytes : start ≡ before_known read (unread reader left)
  pub whole : reader.ended ≡ false → read ≡ ended_lines done
  pub are_lines : Each IsOneLine done

-- the input is within the limit, and its lines are those of these records, and of one that lacks lines
pub record AreRecords (limit : ℕ) (bytes : List ℕ) (items : List PatchRecord) (begun : Option Begun) : Type 0 where
  pub within : length bytes ≤ limit
  pub are : AreLinesOf (lines bytes) items begun

-- these are the first lines of the input; they end within the limit
pub record BeginsWith (limit : ℕ) (bytes : List ℕ) (done : List (List ℕ)) : Type 0 where
  pub read_bytes : List ℕ
  pub unread_bytes : List ℕ
  pub all : bytes ≡ read_bytes ++ unread_bytes
  pub are_lines : lines bytes ≡ done ++ lines unread_bytes
  pub within : length read_bytes ≤ limit

-- these are the first lines of the bytes that were taken, and end within the limit; behind them were taken at most as many bytes as
-- one read may give, and what is behind those is left
pub record AreFirstLines (limit : ℕ) (left left_now : Option (List ℕ)) (done : List (List ℕ)) : Type 0 where
  pub read : List ℕ
  pub last : List ℕ
  pub all : left ≡ before_known read (before_known last left_now)
  pub are_lines : input_lines left ≡ option_map (λ (ls : List (List ℕ)). done ++ ls) (input_lines (before_known last left_now))
  pub within : IfSome left (λ _. length read ≤ limit)
  pub piece : length last ≤ longest_read

-- these lines were read, each with its line feed, and then a part of a line that is no more than a line may have; all this is within
-- the limit, and what is behind it is left
pub record EndsInLine (limit : ℕ) (left left_now : Option (List ℕ)) (done : List (List ℕ)) : Type 0 where
  pub part : List ℕ
  pub is : left ≡ before_known (ended_lines done ++ part) left_now
  pub are_lines : Each IsOneLine done
  pub in_line : IsOneLine part
  pub short : length part ≤ longest_line
  pub within : IfSome left (λ _. length (ended_lines done ++ part) ≤ limit)

-- what was taken of an input with these bytes: whole lines, those of records and of one that lacks lines, a part of a line that decided
-- nothing, and `last`, at most as many bytes as one read may give; all of it is at most one byte past the limit
pub record TakesLinesByNeed (limit : ℕ) (bytes : List ℕ) (left : Option (List ℕ)) : Type 0 where
  pub done : List (List ℕ)
  pub part : List ℕ
  pub last : List ℕ
  pub is : Some bytes ≡ before_known (ended_lines done ++ part ++ last) left
  pub are_lines : Each IsOneLine done
  pub items : List PatchRecord
  pub begun : Option Begun
  pub are : AreLinesOf done items begun
  pub undecided : IsUndecided (limit - length (ended_lines done)) longest_line part
  pub piece : length last ≤ longest_read
  pub bounded : length (ended_lines done ++ part ++ last) ≤ limit + 1

-- the line behind these is refused for this cause, where so much of a record was read; it ends within the limit
pub record IsBadRecordLine (fault : PatchFault) (limit : ℕ) (bytes : List ℕ) (done : List (List ℕ)) (begun : Option Begun) : Type 0 where
  pub first : BeginsWith limit bytes done
  pub line : List ℕ
  pub line_bytes : List ℕ
  pub others : List ℕ
  pub next : first.unread_bytes ≡ line_bytes ++ others
  pub is_line : lines first.unread_bytes ≡ line ∷ lines others
  pub within : length first.read_bytes + length line_bytes ≤ limit
  pub short : length line ≤ longest_line
  pub refused : HasCause fault begun line

-- the line behind these is over-long: its first 134,217,729 bytes are there, within the limit
pub record IsOverLong (limit : ℕ) (bytes : List ℕ) (done : List (List ℕ)) : Type 0 where
  pub first : BeginsWith limit bytes done
  pub over : IsLineLong (limit - length first.read_bytes) longest_line first.unread_bytes

-- these are all lines of the input, which is within the limit and ends inside a record
pub record EndsInside (limit : ℕ) (bytes : List ℕ) (done : List (List ℕ)) (begun : Option Begun) : Type 0 where
  pub within : length bytes ≤ limit
  pub are : lines bytes ≡ done
  pub inside : begun ≢ None

-- the input has more bytes than the limit; the first of them past it stands in the line behind these, which isn't over-long before it
pub record RecordsPastLimit (limit : ℕ) (bytes : List ℕ) (done : List (List ℕ)) : Type 0 where
  pub more : limit < length bytes
  pub first : BeginsWith limit bytes done
  pub past : IsTooLong (limit - length first.read_bytes) longest_line first.unread_bytes
