-- An input at a moment of a run.
use Rattle.std.specs.Prelude.{ℕ, List, Option}
use Rattle.wq_io.specs.declared.source.Source.{Ghosts as SourceOf}

-- the bytes that are left of it, where they are known, and how many reads failed, as far as 64 bits count them
pub record Input : Type 0 where
  pub left : Option (List ℕ)
  pub faults : ℕ

-- the input that a source is
abbrev pub input : {S : Type 0} → SourceOf S → S → Input
input members source = record { left = members.left source; faults = members.faults source }
