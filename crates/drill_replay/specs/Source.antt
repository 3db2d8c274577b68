-- What contracts see of a source of a drill's revisions, and what a fetch from it does.
use Rattle.std.specs.Prelude.{◌≡◌, ◌≢◌, ℕ, List, Option, Some, None}
use Rattle.revisions.specs.Revisions.{counted}
use Rattle.revisions.specs.declared.revisions.NoRevision.{NoRevision}
use Rattle.revisions.specs.declared.revisions.NoRevision.TheVariants.{Missing, Failed, OutOfMemory}
use Rattle.drill_replay.specs.Drill.{contents_of}

-- the drill's size, the calls, and how many fetches found nothing, as far as 64 bits count them
pub record Source : Type 0 where
  pub size : ℕ
  pub calls : ℕ
  pub misses : ℕ

-- why a fetch gave nothing: it is missing exactly where nothing is there, and never failed
abbrev pub Explains : NoRevision → Option (List ℕ) → Type 0
Explains Missing there = there ≡ None
Explains Failed there = ⊥
Explains OutOfMemory there = there ≢ None

-- how many fetches found nothing, after one more of what is there
abbrev pub misses_after : Option (List ℕ) → ℕ → ℕ
misses_after None misses = counted misses
misses_after (Some page) misses = misses

-- the source after a fetch of a revision
abbrev pub after_fetch : ℕ → Source → Source
after_fetch rev s = record s { calls = counted s.calls; misses = misses_after (contents_of s.size rev) s.misses }
