-- What a source of revisions has, and what a fetch from it gives.
use Rattle.std.specs.Prelude.{◌≡◌, ℕ, List, Option, None, ⊤}
use Rattle.wq_io.specs.Streams.{Rose}
pub use Rattle.wq_io.specs.Streams.{counted}
use Rattle.revisions.specs.declared.revisions.NoRevision.{NoRevision}
use Rattle.revisions.specs.declared.revisions.NoRevision.TheVariants.{Missing, Failed, OutOfMemory}

-- the bytes at each place and revision
abbrev pub Contents : Type 0
Contents = List ℕ → ℕ → Option (List ℕ)

-- what is at the place and revision where a fetch gave nothing: Missing says that there is nothing
abbrev pub AgreesWith : NoRevision → Option (List ℕ) → Type 0
AgreesWith Missing there = there ≡ None
AgreesWith Failed there = ⊤
AgreesWith OutOfMemory there = ⊤

-- the count that shows why a fetch gave nothing
abbrev pub HasCause : NoRevision → ℕ → ℕ → ℕ → ℕ → Type 0
HasCause Missing misses misses_now faults faults_now = Rose misses misses_now
HasCause Failed misses misses_now faults faults_now = Rose faults faults_now
HasCause OutOfMemory misses misses_now faults faults_now = ⊤

-- the counts that don't show why a fetch gave nothing stay as they were
abbrev pub IsOtherwiseStill : NoRevision → ℕ → ℕ → ℕ → ℕ → Type 0
IsOtherwiseStill Missing misses misses_now faults faults_now = faults_now ≡ faults
IsOtherwiseStill Failed misses misses_now faults faults_now = misses_now ≡ misses
IsOtherwiseStill OutOfMemory misses misses_now faults faults_now = (misses_now ≡ misses) × (faults_now ≡ faults)
