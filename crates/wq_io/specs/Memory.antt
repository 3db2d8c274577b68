-- A source and a sink in memory.
use Rattle.std.specs.Prelude.{ℕ, List}
use Rattle.wq_io.specs.Failing.{Counting}
use Rattle.wq_io.specs.Streams.{LastRead}

-- the bytes left, the most that one read gives, the calls, and the last one
pub record MemoryReads : Type 0 where
  pub left : List ℕ
  pub piece : ℕ
  pub calls : Counting
  pub last : LastRead

-- the bytes held, the most that one write takes, and the calls
pub record Writes : Type 0 where
  pub held : List ℕ
  pub piece : ℕ
  pub calls : Counting
