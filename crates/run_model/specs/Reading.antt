-- The lines of an input as deliveries.
use Rattle.std.specs.Prelude.{◌≡◌, ◌⊎◌, ℕ, ◌+◌, ◌-◌, ◌<◌, ◌≤◌, false, List, [], ◌∷◌, ◌++◌, length, min, drop, nat_le, if◌then◌else◌, Option, None, Some, IfSome, Result, Ok, Err}
use Rattle.std.specs.Option.{option_map}
use Rattle.sorted_sets.specs.Rising.{Each}
use Rattle.wq_io.specs.Streams.{LastRead, before_known}
use Rattle.wq_io.specs.Lines.{Reading, IsLineLong, IsOneLine, IsTooLong, IsUndecided, ended_lines, input_length, lines, input_lines, longest_line, longest_read, unread, whole_lines}
use Rattle.delivery.specs.declared.Delivery.{Delivery}
use Rattle.event_line.specs.{declared.faults.LineCause.LineCause, declared.faults.LineCause.TheVariants.LineLong, Line.delivery_of}

-- what a line delivers, or why it is refused: an over-long one isn't read
abbrev pub line_delivers : List ℕ → Result Delivery LineCause
line_delivers line = if nat_le (length line) longest_line then delivery_of line else Err LineLong

-- a delivery before the others, if all of them are
abbrev pub onto_deliveries : Result Delivery LineCause → Option (List Delivery) → Option (List Delivery)
onto_deliveries (Ok d) (Some ds) = Some (d ∷ ds)
onto_deliveries (Ok d) None = None
onto_deliveries (Err cause) ds = None

-- the deliveries that the lines are, where each line is one
abbrev pub deliveries_of : List (List ℕ) → Option (List Delivery)
deliveries_of [] = Some []
deliveries_of (line ∷ others) = onto_deliveries (line_delivers line) (deliveries_of others)

-- the lines so far were read, and are these deliveries; the bytes that went into them stand before those that are unread
pub record HasRead (left_start : Option (List ℕ)) (reader : Reading) (left : Option (List ℕ)) (ds : List Delivery) : Type 0 where
  pub done : List (List ℕ)
  pub are : input_lines left_start ≡ option_map (λ (ls : List (List ℕ)). done ++ ls) (input_lines (unread reader left))
  pub delivered : deliveries_of done ≡ Some ds
  pub counted : reader.given ≡ length done
  pub total : input_length reader left ≡ option_map length left_start
  pub read : List ℕ
  pub bytes : left_start ≡ before_known read (unread reader left)
  pub whole : reader.ended ≡ false → read ≡ ended_lines done
  pub are_lines : Each IsOneLine done

-- the whole input was read, is within the limit, and its lines are these deliveries
pub record AreDeliveries (limit : ℕ) (bytes : List ℕ) (ds : List Delivery) : Type 0 where
  pub within : length bytes ≤ limit
  pub delivered : deliveries_of (lines bytes) ≡ Some ds

-- the first lines of the bytes that were taken are these deliveries, and end within the limit; after them a part of a line was read that
-- decides neither a line nor a fault, and at most as many bytes as one read may give; what comes after that is left
pub record AreFirst (limit : ℕ) (left left_now : Option (List ℕ)) (ds : List Delivery) : Type 0 where
  pub before : List (List ℕ)
  pub read : List ℕ
  pub part : List ℕ
  pub last : List ℕ
  pub all : left ≡ before_known read (before_known (part ++ last) left_now)
  pub are_lines : input_lines left ≡ option_map (λ (ls : List (List ℕ)). before ++ ls) (input_lines (before_known (part ++ last) left_now))
  pub within : IfSome left (λ _. length read ≤ limit)
  pub delivered : deliveries_of before ≡ Some ds
  pub undecided : IsUndecided (limit - length read) longest_line part
  pub piece : length last ≤ longest_read

-- the same, and behind these lines no byte was judged: what was taken there is what one read gave at most
pub record AreFirstAlone (limit : ℕ) (left left_now : Option (List ℕ)) (ds : List Delivery) : Type 0 where
  pub first : AreFirst limit left left_now ds
  pub alone : first.part ≡ []

-- the bytes behind the last line feed
abbrev pub last_part : List ℕ → List ℕ
last_part bytes = drop (length (ended_lines (whole_lines bytes))) bytes

-- all whole lines of the bytes that were read are these deliveries, and what was read behind them is no more than a line may
-- have; these bytes are within the limit, and those behind them are left
pub record AreWhole (limit : ℕ) (left left_now : Option (List ℕ)) (ds : List Delivery) : Type 0 where
  pub read : List ℕ
  pub is : left ≡ before_known read left_now
  pub within : IfSome left (λ _. length read ≤ limit)
  pub delivered : deliveries_of (whole_lines read) ≡ Some ds
  pub short : length (last_part read) ≤ longest_line

-- the last read, where it is told, asked for as many bytes as one read may, or for those up to the byte after the limit where these are
-- fewer; so many were taken before it, and so many by it
abbrev pub AsksByNeed : ℕ → ℕ → ℕ → Option LastRead → Type 0
AsksByNeed limit before gave read = IfSome read (λ r. (r.asked ≡ min longest_read (limit + 1 - before)) × (r.gave ≡ gave))

-- what was taken of an input with these bytes: whole lines, each of them a delivery, a part of a line that decides neither a line nor a
-- fault, and `last`, at most as many bytes as one read may give; all of it is at most one byte past the limit. If the last read is told, it
-- gave `last`, so it was made while all before it decided nothing; or none was made, and nothing was taken
pub record TakesByNeed (limit : ℕ) (bytes : List ℕ) (left : Option (List ℕ)) (read read_now : Option LastRead) : Type 0 where
  pub done : List (List ℕ)
  pub part : List ℕ
  pub last : List ℕ
  pub is : Some bytes ≡ before_known (ended_lines done ++ part ++ last) left
  pub are_lines : Each IsOneLine done
  pub ds : List Delivery
  pub delivered : deliveries_of done ≡ Some ds
  pub undecided : IsUndecided (limit - length (ended_lines done)) longest_line part
  pub piece : length last ≤ longest_read
  pub bounded : length (ended_lines done ++ part ++ last) ≤ limit + 1
  pub needed : ((read_now ≡ read) × (left ≡ Some bytes)) ⊎ AsksByNeed limit (length (ended_lines done ++ part)) (length last) read_now

-- the line with this number is no delivery, for this reason, and those before it are these deliveries; it ends within
-- the limit
pub record IsBadLine (limit : ℕ) (bytes : List ℕ) (ds : List Delivery) (number : ℕ) (cause : LineCause) : Type 0 where
  pub before : List (List ℕ)
  pub line : List ℕ
  pub read_bytes : List ℕ
  pub unread_bytes : List ℕ
  pub all : bytes ≡ read_bytes ++ unread_bytes
  pub are_lines : lines bytes ≡ before ++ line ∷ lines unread_bytes
  pub within : length read_bytes ≤ limit
  pub delivered : deliveries_of before ≡ Some ds
  pub counted : number ≡ length before + 1
  pub short : length line ≤ longest_line
  pub refused : delivery_of line ≡ Err cause

-- the line with this number is over-long: its first 65,537 bytes are there, within the limit, and those before it are
-- these deliveries
pub record IsOverLongLine (limit : ℕ) (bytes : List ℕ) (ds : List Delivery) (number : ℕ) : Type 0 where
  pub before : List (List ℕ)
  pub read_bytes : List ℕ
  pub unread_bytes : List ℕ
  pub all : bytes ≡ read_bytes ++ unread_bytes
  pub are_lines : lines bytes ≡ before ++ lines unread_bytes
  pub delivered : deliveries_of before ≡ Some ds
  pub counted : number ≡ length before + 1
  pub over : IsLineLong (limit - length read_bytes) longest_line unread_bytes

-- why a line is refused: it is no delivery, or it is over-long
abbrev pub IsRefusedLine : ℕ → List ℕ → List Delivery → ℕ → LineCause → Type 0
IsRefusedLine limit bytes ds number cause = IsBadLine limit bytes ds number cause ⊎ ((cause ≡ LineLong) × IsOverLongLine limit bytes ds number)

-- the input has more bytes than the limit; the first of them past it stands in a line that isn't over-long before it,
-- and the lines before that line are these deliveries
pub record IsPastLimit (limit : ℕ) (bytes : List ℕ) (ds : List Delivery) : Type 0 where
  pub more : limit < length bytes
  pub before : List (List ℕ)
  pub read_bytes : List ℕ
  pub unread_bytes : List ℕ
  pub all : bytes ≡ read_bytes ++ unread_bytes
  pub are_lines : lines bytes ≡ before ++ lines unread_bytes
  pub delivered : deliveries_of before ≡ Some ds
  pub within : length read_bytes ≤ limit
  pub past : IsTooLong (limit - length read_bytes) longest_line unread_bytes
