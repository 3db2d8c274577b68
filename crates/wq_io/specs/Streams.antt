-- What a read takes and a write puts, where the bytes are told, and what it is that a count rose.
use Rattle.std.specs.Prelude.{◌≡◌, ℕ, ◌+◌, ◌-◌, ◌^◌, ◌≤◌, ◌==◌, cond, List, [], ◌++◌, take, max, min, Option, Result, Ok, Err, IfSome, MatchResult}
use Rattle.std.specs.Option.{option_map}

-- the bytes, and then the ones that are told
abbrev pub before_known : List ℕ → Option (List ℕ) → Option (List ℕ)
before_known bytes known = option_map (λ xs. bytes ++ xs) known

-- the ones that are told, and then the bytes
abbrev pub after_known : Option (List ℕ) → List ℕ → Option (List ℕ)
after_known known bytes = option_map (λ xs. xs ++ bytes) known

-- where they are told, there are none
abbrev pub IsAtEnd : Option (List ℕ) → Type 0
IsAtEnd known = IfSome known (λ xs. xs ≡ [])

-- a read that gave n bytes moved the first n bytes left into the buffer's front, and only at the end n is 0;
-- a read that failed took none
abbrev pub ReadTakes : {E : Type 0} → Option (List ℕ) → Option (List ℕ) → Result ℕ E → List ℕ → Type 0
ReadTakes old new outcome buffer =
    MatchResult outcome (λ n. (old ≡ before_known (take n buffer) new) × (n ≡ 0 → IsAtEnd old)) (λ _. new ≡ old)

-- a count in 64 bits after one more: it saturates
abbrev pub counted : ℕ → ℕ
counted n = max n (min (n + 1) (2 ^ 64 - 1))

-- the last call of `read`: how many bytes it asked for, how many it gave, and how many calls up to it gave none, as far as 64 bits
-- count them; in a new source in memory all are 0
pub record LastRead : Type 0 where
  pub asked : ℕ
  pub gave : ℕ
  pub empty : ℕ

-- the last read, where it is told, after one more that asked for and gave so many bytes
abbrev pub after_read : ℕ → ℕ → Option LastRead → Option LastRead
after_read asked gave last = option_map (λ (r : LastRead). record { asked = asked; gave = gave; empty = cond (gave == 0) (counted r.empty) r.empty }) last

-- how many bytes a read gave: none where it failed
abbrev pub given_by : {E : Type 0} → Result ℕ E → ℕ
given_by (Ok n) = n
given_by (Err _) = 0

-- where the last reads are told, at most so many of those after the one up to the other gave nothing
abbrev pub AreFewEmpty : Option LastRead → Option LastRead → ℕ → Type 0
AreFewEmpty before now most = IfSome before (λ r. IfSome now (λ s. s.empty ≤ r.empty + most))

-- a write that took n bytes put the first n bytes at the end; one that failed put none
abbrev pub WritePuts : {E : Type 0} → Option (List ℕ) → Option (List ℕ) → Result ℕ E → List ℕ → Type 0
WritePuts old new outcome bytes = MatchResult outcome (λ n. new ≡ after_known old (take n bytes)) (λ _. new ≡ old)

-- a counter of 64 bits rose: it is greater than before, or is saturated
abbrev pub Rose : ℕ → ℕ → Type 0
Rose before now = min (before + 1) (2 ^ 64 - 1) ≤ now
