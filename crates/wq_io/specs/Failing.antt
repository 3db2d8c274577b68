-- Calls that are to fail, by their numbers from 1.
use Rattle.std.specs.Prelude.{ℕ, ◌+◌, ◌-◌, ◌^◌, Bool, ◌&&◌, ◌==◌, nat_lt, nat_le, List, count_by}
use Rattle.std.specs.List.{list_any}
use Rattle.wq_io.specs.Streams.{counted}

-- the numbers of the calls that are to fail, and how many calls were made, as far as 64 bits count them
pub record Counting : Type 0 where
  pub numbers : List ℕ
  pub calls : ℕ

-- whether the next call is one of those that fail
abbrev pub fails_next : Counting → Bool
fails_next c = nat_lt c.calls (2 ^ 64 - 1) && list_any (λ k. k == c.calls + 1) c.numbers

-- a call was made
abbrev pub after_call : Counting → Counting
after_call c = record c { calls = counted c.calls }

-- how many of the calls that are to fail were made: at most as many as there are
abbrev pub failures : Counting → ℕ
failures c = count_by (λ k. nat_le k c.calls) c.numbers
