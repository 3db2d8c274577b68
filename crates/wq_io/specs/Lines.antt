-- The lines of an input, and what it is that a reader of lines gives the next one.
use Rattle.std.specs.Prelude.{◌≡◌, ◌⊎◌, ℕ, ◌+◌, ◌-◌, ◌<◌, ◌≤◌, ◌==◌, Bool, true, false, List, [], ◌∷◌, ◌++◌, length, min, take, Option, cond, flat_map, MatchOption, IfSome, ⊤}
use Rattle.std.specs.Option.{option_map}
use Rattle.std.specs.List.{list_any}
use Rattle.wq_io.specs.Streams.{before_known, IsAtEnd, LastRead, AreFewEmpty, Rose}
use Rattle.wq_io.specs.declared.lines.LineFault.{LineFault}
use Rattle.wq_io.specs.declared.lines.LineFault.TheVariants.{ReadFault, TooLong, LineLong, OutOfMemory}

-- the byte that ends a line
abbrev pub line_feed : ℕ
line_feed = 10

-- the most bytes that a line may have without its line feed, where no other number is chosen
abbrev pub longest_line : ℕ
longest_line = 65536

-- the most bytes that one read asks for
abbrev pub longest_read : ℕ
longest_read = 4096

-- the bytes have no line feed
abbrev pub IsOneLine : List ℕ → Type 0
IsOneLine bytes = list_any (λ b. b == line_feed) bytes ≡ false

-- the byte stands before the first line
abbrev pub onto_first_line : ℕ → List (List ℕ) → List (List ℕ)
onto_first_line b [] = (b ∷ []) ∷ []
onto_first_line b (line ∷ lines) = (b ∷ line) ∷ lines

-- the lines of an input, without their line feeds; the last line may lack it, and nothing after the last line feed
-- is no line
abbrev pub lines : List ℕ → List (List ℕ)
lines [] = []
lines (b ∷ bs) = cond (b == line_feed) ([] ∷ lines bs) (onto_first_line b (lines bs))

-- the byte stands before the first line, if there is one
abbrev pub onto_whole_line : ℕ → List (List ℕ) → List (List ℕ)
onto_whole_line b [] = []
onto_whole_line b (line ∷ lines) = (b ∷ line) ∷ lines

-- the lines of the bytes that a line feed ends; what follows the last line feed is no whole line
abbrev pub whole_lines : List ℕ → List (List ℕ)
whole_lines [] = []
whole_lines (b ∷ bs) = cond (b == line_feed) ([] ∷ whole_lines bs) (onto_whole_line b (whole_lines bs))

-- the lines, each with a line feed that ends it
abbrev pub ended_lines : List (List ℕ) → List ℕ
ended_lines done = flat_map (λ line. line ++ line_feed ∷ []) done

-- the lines of an input that is told
abbrev pub input_lines : Option (List ℕ) → Option (List (List ℕ))
input_lines known = option_map lines known

-- the line, and then those that are told
abbrev pub before_lines : List ℕ → Option (List (List ℕ)) → Option (List (List ℕ))
before_lines line known = option_map (λ ls. line ∷ ls) known

-- where a reader of lines stands: the bytes that it holds and hasn't given, how many bytes it gave away in lines,
-- the number of its last line, the most bytes that the input may have and that a line may have, whether the source was read to its
-- end, and whether the reader refused to go on
pub record Reading : Type 0 where
  pub held : List ℕ
  pub consumed : ℕ
  pub given : ℕ
  pub max_bytes : ℕ
  pub max_line : ℕ
  pub ended : Bool
  pub failed : Bool

-- a reader that hasn't read yet
abbrev pub fresh : ℕ → ℕ → Reading
fresh max_bytes max_line = record { held = []; consumed = 0; given = 0; max_bytes = max_bytes; max_line = max_line; ended = false; failed = false }

-- how many bytes were taken from the source
abbrev pub taken : Reading → ℕ
taken r = r.consumed + length r.held

-- what holds of each reader: no more bytes went into lines than the input may have, each line had a byte or a line
-- feed, at most one byte past the limit was taken, and no more is held than one read gives
pub record IsSound (r : Reading) : Type 0 where
  pub within : r.consumed ≤ r.max_bytes
  pub counted : r.given ≤ r.consumed
  pub bounded : taken r ≤ r.max_bytes + 1
  pub buffered : length r.held ≤ longest_read

-- how many further bytes the input may have
abbrev pub room : Reading → ℕ
room r = r.max_bytes - r.consumed

-- what the reader has still to give, where the source tells what it has left
abbrev pub unread : Reading → Option (List ℕ) → Option (List ℕ)
unread r left = before_known r.held left

-- the length of the whole input, where it is told
abbrev pub input_length : Reading → Option (List ℕ) → Option ℕ
input_length r left = option_map (λ bytes. r.consumed + length bytes) (unread r left)

-- bytes that decide neither a line nor a fault: they have no line feed, lie within the limit, and are no more than a line may
-- have
pub record IsUndecided (room max_line : ℕ) (bytes : List ℕ) : Type 0 where
  pub in_line : IsOneLine bytes
  pub within : length bytes ≤ room
  pub short : length bytes ≤ max_line

-- the last read of a call gave `last`, where the reads before it gave `before`
pub record IsNeeded (old : Reading) (before last : List ℕ) (read read_now : Option LastRead) : Type 0 where
  -- it was made while all bytes that were held or read decided nothing
  pub undecided : IsUndecided (room old) old.max_line (old.held ++ before)
  -- and the end of the source wasn't seen
  pub going : old.ended ≡ false
  -- if it is told, it asked for as many bytes as one read may, or for those up to the byte after the limit if these are fewer
  pub asked : IfSome read_now (λ r. r.asked ≡ min longest_read (old.max_bytes + 1 - (taken old + length before)))
  -- `last` is all that it gave
  pub gave : IfSome read_now (λ r. r.gave ≡ length last)
  -- as far as 64 bits count them, each read before it gave at least a byte, so none of them failed
  pub few : AreFewEmpty read read_now (1 - length last)

-- what a call took of the source, whatever it answers: the reads before the last one gave `before`, and the last one gave `last`
pub record ReadsAsNeeded (old new : Reading) (left left_now : Option (List ℕ)) (read read_now : Option LastRead) : Type 0 where
  pub before : List ℕ
  pub last : List ℕ
  pub told : left ≡ before_known (before ++ last) left_now
  -- what was taken is counted
  pub counted : taken new ≡ taken old + length (before ++ last)
  -- the last read was needed; or none was made, nothing was taken, and the source's last read is that of before
  pub needed : IsNeeded old before last read read_now ⊎ ((before ++ last ≡ []) × (read_now ≡ read))
  pub piece : length last ≤ longest_read
  pub limit : new.max_bytes ≡ old.max_bytes
  -- all that was taken is at most one byte past the limit
  pub sound : IsSound new

-- the next line was given, or there was none
abbrev pub GivesLine : Option (List ℕ) → Option (List ℕ) → Option ℕ → List ℕ → Type 0
GivesLine old new number line =
    MatchOption number (IsAtEnd old × (new ≡ old)) (λ _. input_lines old ≡ before_lines line (input_lines new))

-- the bytes that went into a line were the next ones: the line, and the line feed that ends it where the end of the source
-- wasn't seen yet
pub record TakesBytes (ended : Bool) (old new : Option (List ℕ)) (line : List ℕ) : Type 0 where
  pub moved : List ℕ
  pub front : old ≡ before_known moved new
  pub whole : ended ≡ false → moved ≡ line ++ line_feed ∷ []
  pub in_line : IsOneLine line

-- the byte that is needed next is the first one past the most that the input may have: neither a line's end nor a
-- line that is too long comes before it
pub record IsTooLong (room max_line : ℕ) (bytes : List ℕ) : Type 0 where
  pub more : room < length bytes
  pub before_line_long : room ≤ max_line
  pub in_line : IsOneLine (take room bytes)

-- the line has a byte more than a line may have, and this byte lies within the input's limit
pub record IsLineLong (room max_line : ℕ) (bytes : List ℕ) : Type 0 where
  pub more : max_line < length bytes
  pub within : max_line < room
  pub in_line : IsOneLine (take (max_line + 1) bytes)

-- the cause of a fault, where the source tells what it has left: the source's count of faults rose, or the byte that
-- decides it stands in the input
abbrev pub HasCause : LineFault → Reading → Option (List ℕ) → ℕ → ℕ → Type 0
HasCause ReadFault old left before now = Rose before now
HasCause TooLong old left before now = IfSome (unread old left) (IsTooLong (room old) old.max_line)
HasCause (LineLong number) old left before now = (number ≡ old.given + 1) × IfSome (unread old left) (IsLineLong (room old) old.max_line)
HasCause OutOfMemory old left before now = ⊤

-- a read failed within a line: what was taken of it has no line feed, lies within the limit and is no more than a line may have,
-- and the rest is left
pub record StopsInLine (old : Reading) (left left_now : Option (List ℕ)) : Type 0 where
  pub part : List ℕ
  pub front : unread old left ≡ before_known part left_now
  pub in_line : IsOneLine part
  pub within : length part ≤ room old
  pub short : length part ≤ old.max_line
  pub going : old.ended ≡ false

-- what a fault leaves of the source: a read that failed stands before the first byte that wasn't taken
abbrev pub Leaves : LineFault → Reading → Option (List ℕ) → Option (List ℕ) → Type 0
Leaves ReadFault old left left_now = StopsInLine old left left_now
Leaves TooLong old left left_now = ⊤
Leaves (LineLong number) old left left_now = ⊤
Leaves OutOfMemory old left left_now = ⊤

-- what a line has after a fault: the first bytes of what was unread, which have no line feed and lie within both limits; as many as were
-- judged before
pub record IsPartOfLine (old : Reading) (left : Option (List ℕ)) (line : List ℕ) : Type 0 where
  pub others : Option (List ℕ)
  pub front : unread old left ≡ before_known line others
  pub in_line : IsOneLine line
  pub within : length line ≤ room old
  pub short : length line ≤ old.max_line

-- the reader after a line or the end
pub record GoesOn (old new : Reading) (line : List ℕ) : Type 0 where
  pub limit : new.max_bytes ≡ old.max_bytes
  pub longest : new.max_line ≡ old.max_line
  pub short : length line ≤ old.max_line
  pub sound : IsSound new
  pub going : new.failed ≡ false
  pub still : old.ended ≡ true → new.ended ≡ true
