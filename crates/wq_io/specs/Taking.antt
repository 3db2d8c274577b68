-- One step of a reader of lines: a read, and the move of held bytes into a line.
use Rattle.std.specs.Prelude.{◌≡◌, ℕ, suc, ◌+◌, ◌-◌, ◌<◌, ◌≤◌, Bool, true, false, List, [], ◌∷◌, ◌++◌, length, min, take, drop, Option, MatchBool, cond, ◌⊎◌, ⊤}
use Rattle.wq_io.specs.Streams.{after_read, before_known, IsAtEnd, LastRead}
use Rattle.wq_io.specs.Lines.{Reading, IsSound, IsOneLine, line_feed, longest_read, room, unread}
use Rattle.wq_io.specs.declared.lines.LineFault.{LineFault}
use Rattle.wq_io.specs.declared.lines.LineFault.TheVariants.{ReadFault, TooLong, LineLong, OutOfMemory}

-- the first line feed stands at the place
pub record EndsAt (index : ℕ) (bytes : List ℕ) : Type 0 where
  pub within : index < length bytes
  pub in_line : IsOneLine (take index bytes)
  pub is : bytes ≡ take index bytes ++ line_feed ∷ drop (suc index) bytes

-- a byte is held: nothing was read, or what a read gave is held now
pub record HasByte (old new : Reading) (left_old left_new : Option (List ℕ)) : Type 0 where
  pub some : 0 < length new.held
  pub grows : length old.held ≤ length new.held
  pub same : unread new left_new ≡ unread old left_old
  pub others : new ≡ record old { held = new.held; ended = new.ended }
  pub ended : new.ended ≡ true → IsAtEnd left_new
  pub still : old.ended ≡ true → new.ended ≡ true
  pub sound : IsSound new

-- the source is at its end
pub record IsEnded (old new : Reading) (left_old left_new : Option (List ℕ)) : Type 0 where
  pub empty : old.held ≡ []
  pub at_end : IsAtEnd left_old
  pub told : left_new ≡ left_old
  pub others : new ≡ record old { ended = true }
  pub sound : IsSound new

-- nothing is held, and a read took nothing of what is left
pub record IsUnreadable (old : Reading) (left_old left_new : Option (List ℕ)) : Type 0 where
  pub empty : old.held ≡ []
  pub same : left_new ≡ left_old
  pub going : old.ended ≡ false

-- what one read gave is held now: it was made where nothing was held and the end of the source wasn't seen, and asked for as many
-- bytes as one may
pub record Refills (old new : Reading) (left_old left_new : Option (List ℕ)) (read_old read_new : Option LastRead) : Type 0 where
  pub empty : old.held ≡ []
  pub going : old.ended ≡ false
  pub told : left_old ≡ before_known new.held left_new
  pub piece : length new.held ≤ longest_read
  pub last : read_new ≡ after_read (min longest_read (old.max_bytes + 1 - old.consumed)) (length new.held) read_old

-- the source wasn't called
pub record IsUncalled (old new : Reading) (left_old left_new : Option (List ℕ)) (read_old read_new : Option LastRead) : Type 0 where
  pub held : new.held ≡ old.held
  pub left : left_new ≡ left_old
  pub read : read_new ≡ read_old

-- the source wasn't called, or once, where it was needed
abbrev pub ReadsByNeed : Reading → Reading → Option (List ℕ) → Option (List ℕ) → Option LastRead → Option LastRead → Type 0
ReadsByNeed old new left_old left_new read_old read_new =
    Refills old new left_old left_new read_old read_new ⊎ IsUncalled old new left_old left_new read_old read_new

-- bytes of one line moved from what is held into the line; where it ended, its line feed went too
pub record TakesHeld (old new : Reading) (before after : List ℕ) (ended : Bool) : Type 0 where
  pub moved : List ℕ
  pub some : MatchBool ended ⊤ (0 < length moved)
  pub in_line : IsOneLine moved
  pub line : after ≡ before ++ moved
  pub short : length after ≤ old.max_line
  pub held : MatchBool ended (old.held ≡ moved ++ line_feed ∷ new.held) (old.held ≡ moved ++ new.held)
  pub consumed : new.consumed ≡ old.consumed + length moved + cond ended 1 0
  pub others : new ≡ record old { held = new.held; consumed = new.consumed }
  pub sound : IsSound new

-- with bytes of one line that are held and lie within the limit, the line gets too long
pub record IsOverLong (old : Reading) (before : List ℕ) : Type 0 where
  pub moved : List ℕ
  pub others : List ℕ
  pub held : old.held ≡ moved ++ others
  pub in_line : IsOneLine moved
  pub over : old.max_line < length before + length moved
  pub within : length moved ≤ room old

-- why held bytes aren't taken: the line has too many, within the limit, or memory was refused
abbrev pub IsLeftHeld : LineFault → Reading → List ℕ → Type 0
IsLeftHeld ReadFault old before = ⊥
IsLeftHeld TooLong old before = ⊥
IsLeftHeld (LineLong number) old before = (number ≡ old.given + 1) × IsOverLong old before
IsLeftHeld OutOfMemory old before = ⊤
