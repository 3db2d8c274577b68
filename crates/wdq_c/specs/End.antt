-- What a call of the library leaves.
use Rattle.std.specs.Prelude.{◌≡◌, ◌⊎◌, ◌+◌, ◌-◌, ◌++◌, ◌≤◌, ℕ, List, [], length, slice_get, take, unwrap_or}
use Rattle.run_model.specs.{Status.status_number, Status.status_text, declared.status.Status.Status}
use Rattle.memory_run.specs.Runs.{Leaves, Lent}
use Rattle.wdq_c.specs.declared.WdqEnd.{WdqEnd}

-- the bytes of the last of these snapshots; nothing where there is none
abbrev pub last_saved : List (List ℕ) → List ℕ
last_saved kept = unwrap_or (slice_get kept (length kept - 1)) []

-- so many bytes are those of the line that says how a run ended, or none where memory was refused for it; they were put behind the first
-- `start` bytes of the buffer, if there is room
pub record IsSaid (status : Status) (many start : ℕ) (old new : List ℕ) : Type 0 where
  pub said : List ℕ
  pub is : (said ≡ status_text status) ⊎ (said ≡ [])
  pub many_are : many ≡ length said
  pub put : start + length said ≤ length new → take (start + length said) new ≡ take start old ++ said

-- the buffer has what was printed, if there is room for it; and then the snapshot that was kept last and the line that says how the run
-- ended, if there is room for all three
pub record IsShown (status : Status) (printed : List ℕ) (kept : List (List ℕ)) (end : WdqEnd) (out : List ℕ) : Type 0 where
  pub said : List ℕ
  pub line : (said ≡ status_text status) ⊎ (said ≡ [])
  pub number : end.status ≡ status_number status
  pub printed_bytes : end.printed ≡ length printed
  pub saved_bytes : end.saved ≡ length (last_saved kept)
  pub said_bytes : end.said ≡ length said
  pub front : end.printed ≤ length out → take end.printed out ≡ printed
  pub all : end.printed + (end.saved + end.said) ≤ length out → take (end.printed + (end.saved + end.said)) out ≡ printed ++ (last_saved kept ++ said)

-- what a call leaves whose words are the lines of these bytes: how the run ended, and what it left, which the buffer has as far as there is
-- room
pub record IsEnd (bytes : List ℕ) (lent : Lent) (end : WdqEnd) (out : List ℕ) : Type 0 where
  pub status : Status
  pub printed : List ℕ
  pub kept : List (List ℕ)
  pub leaves : Leaves bytes lent status printed kept
  pub shown : IsShown status printed kept end out
