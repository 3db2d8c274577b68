-- Revisions in memory.
use Rattle.std.specs.Prelude.{ℕ, Bool, ◌&&◌, ◌==◌, List, Option, find, reverse}
use Rattle.std.specs.Option.{option_map}
use Rattle.std.specs.Str.{bytes_eq}
use Rattle.wq_io.specs.Failing.{Counting}
use Rattle.revisions.specs.declared.memory.RevisionBytes.{RevisionBytes}

-- the entries, the calls, and how many fetches found nothing, as far as 64 bits count them
pub record Stored : Type 0 where
  pub entries : List RevisionBytes
  pub calls : Counting
  pub misses : ℕ

-- whether the entry is at the place and revision
abbrev pub is_at : List ℕ → ℕ → RevisionBytes → Bool
is_at place rev e = bytes_eq e.place place && (e.rev == rev)

-- the entry at the place and revision: of several the last stands
abbrev pub entry_at : List RevisionBytes → List ℕ → ℕ → Option RevisionBytes
entry_at entries place rev = find (is_at place rev) (reverse entries)

-- the bytes at the place and revision
abbrev pub bytes_at : List RevisionBytes → List ℕ → ℕ → Option (List ℕ)
bytes_at entries place rev = option_map (λ (e : RevisionBytes). e.bytes) (entry_at entries place rev)
