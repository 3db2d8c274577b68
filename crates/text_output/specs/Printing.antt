-- An output at a moment, and what printing makes of it.
use Rattle.std.specs.Prelude.{◌≡◌, ℕ, ◌<◌, ◌≤◌, Bool, true, false, List, ◌++◌, length, Option, Result, IfOk, MatchResult}
use Rattle.wq_io.specs.{Streams.Rose, Streams.after_known, declared.sink.Sink.Ghosts as SinkOf}
use Rattle.text_output.specs.{declared.write.Unwritten.Unwritten, declared.write.Unwritten.TheVariants.WriteFault}

-- an output at a moment: the bytes that it has, where they are known; whether some of them wait to be handed on to the outside; how
-- many writes failed, as far as 64 bits count them; and the most that ever fail, where it is told
pub record Output : Type 0 where
  pub bytes : Option (List ℕ)
  pub waits : Bool
  pub faults : ℕ
  pub most_faults : Option ℕ

-- the output that a sink is
abbrev pub output : {K : Type 0} → SinkOf K → K → Output
output members sink = record { bytes = members.held sink; waits = members.waits sink; faults = members.faults sink; most_faults = members.most_faults sink }

-- a prefix of these bytes was written, and nothing else; where a write failed, not all of them
pub record IsCutShort (why : Unwritten) (whole : List ℕ) (old new : Output) : Type 0 where
  pub written : List ℕ
  pub unwritten : List ℕ
  pub is : whole ≡ written ++ unwritten
  pub bytes : new.bytes ≡ after_known old.bytes written
  pub failed : why ≡ WriteFault → (0 < length unwritten) × Rose old.faults new.faults

-- what waits after bytes were written: where they were handed on, nothing, if nothing waited before; and else, if there were none, what
-- waited before
abbrev pub Leaves : Bool → List ℕ → Output → Output → Result (Unit {0}) Unwritten → Type 0
Leaves true whole old new result = old.waits ≡ false → IfOk result (λ _. new.waits ≡ false)
Leaves false whole old new result = length whole ≡ 0 → new.waits ≡ old.waits

-- these bytes were written, or a prefix of them; they are handed on to the outside, where it is said
pub record Writes (handed : Bool) (whole : List ℕ) (old new : Output) (result : Result (Unit {0}) Unwritten) : Type 0 where
  pub later : old.faults ≤ new.faults
  pub most : new.most_faults ≡ old.most_faults
  pub outcome : MatchResult result (λ _. new.bytes ≡ after_known old.bytes whole) (λ why. IsCutShort why whole old new)
  pub leaves : Leaves handed whole old new result

-- these bytes were written, or a prefix of them, and may wait to be handed on
abbrev pub Puts : List ℕ → Output → Output → Result (Unit {0}) Unwritten → Type 0
Puts = Writes false

-- these bytes were written and handed on to the outside, or a prefix of them was written
abbrev pub Prints : List ℕ → Output → Output → Result (Unit {0}) Unwritten → Type 0
Prints = Writes true
