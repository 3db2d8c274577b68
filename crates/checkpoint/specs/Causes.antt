-- Why a file isn't loaded.
use Rattle.std.specs.Prelude.{◌≡◌, ⊤, ◌⊎◌, ℕ, ◌+◌, ◌<◌, ◌≤◌, List, ◌∷◌, length, Option, None, Some, IfSome}
use Rattle.wq_io.specs.{Lines.lines, Streams.Rose}
use Rattle.world.specs.{Limit.Limit, WorldState.WorldState}
use Rattle.snapshot.specs.{File.feeds, Whole.Loading, Whole.whole}
use Rattle.checkpoint.specs.declared.fault.LoadFault.{LoadFault}
use Rattle.checkpoint.specs.declared.fault.LoadFault.TheVariants.{ReadFault, TooLong, BadLine, Full, OutOfMemory}
use Rattle.checkpoint.specs.declared.stage.Stage.{Stage}
use Rattle.checkpoint.specs.Loading.{BeginsWith, IsReady, IsRefused, Overfills, loading_of, longest_line}

-- the most bytes that a file may have
abbrev pub longest_file : ℕ
longest_file = 1099511627776

-- the line with this number is refused behind those before it, or is over-long
pub record IsBadSnapshotLine (bytes : List ℕ) (number : ℕ) : Type 0 where
  pub done : List (List ℕ)
  pub loading : Loading
  pub first : BeginsWith bytes done loading
  pub counted : number ≡ length done + 1
  pub line : List ℕ
  pub others : List (List ℕ)
  pub next : first.others ≡ line ∷ others
  pub refused : IsRefused line loading ⊎ (longest_line < length line)

-- each line may come, and a line feed ends it, but they end before the last one of a snapshot; the number is one more than theirs
pub record EndsEarly (bytes : List ℕ) (number : ℕ) : Type 0 where
  pub loading : Loading
  pub all : BeginsWith bytes (lines bytes) loading
  pub ended : feeds bytes ≡ Some (lines bytes)
  pub unended : whole loading ≡ None
  pub counted : number ≡ length (lines bytes) + 1

-- each line may come, but the last one, which has this number, isn't ended by a line feed
pub record IsUnended (bytes : List ℕ) (number : ℕ) : Type 0 where
  pub loading : Loading
  pub all : BeginsWith bytes (lines bytes) loading
  pub unended : feeds bytes ≡ None
  pub counted : number ≡ length (lines bytes)

abbrev pub IsNoSnapshot : List ℕ → ℕ → Type 0
IsNoSnapshot bytes number = IsBadSnapshotLine bytes number ⊎ (EndsEarly bytes number ⊎ IsUnended bytes number)

-- a line is that of a record which may come, but has no room in a world that may be loaded from those before it, with this limit on terms
pub record IsFileOverfull (room : Limit) (bytes : List ℕ) : Type 0 where
  pub world : WorldState
  pub stage : Stage
  pub done : List (List ℕ)
  pub limit : world.limit ≡ room
  pub ready : IsReady world stage (length done)
  pub first : BeginsWith bytes done (loading_of world stage (length done))
  pub line : List ℕ
  pub others : List (List ℕ)
  pub next : first.others ≡ line ∷ others
  pub short : length line ≤ longest_line
  pub over : Overfills line (loading_of world stage (length done)) world

-- the file is no snapshot, by the line with this number, and no line up to this one lacks room
abbrev pub IsNoSnapshotWithin : Limit → List ℕ → ℕ → Type 0
IsNoSnapshotWithin room bytes number = IsNoSnapshot bytes number × ¬ (IsFileOverfull room bytes)

-- why a file isn't loaded, where its bytes are known. The first line that is refused or lacks room decides, since each line before it may
-- come and has room
abbrev pub HasCause : LoadFault → Limit → Option (List ℕ) → ℕ → ℕ → Type 0
HasCause ReadFault room left before now = Rose before now
HasCause TooLong room left before now = IfSome left (λ bytes. longest_file < length bytes)
HasCause (BadLine number) room left before now = IfSome left (λ bytes. IsNoSnapshotWithin room bytes number)
HasCause Full room left before now = IfSome left (IsFileOverfull room)
HasCause OutOfMemory room left before now = ⊤
