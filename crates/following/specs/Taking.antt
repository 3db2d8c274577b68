-- Records that are taken one after the other, and applied as far as they go.
use Rattle.std.specs.Prelude.{◌≡◌, ℕ, ◌+◌, ◌<◌, ◌≤◌, List, [], ◌∷◌, ◌++◌, Option, None, Some, IfSome, IsSome}
use Rattle.wq_io.specs.Streams.{IsAtEnd}
use Rattle.replica.specs.{declared.reader.Begun.Begun, declared.record.PatchRecord.PatchRecord, Laws.IsGreatest}
use Rattle.replica.specs.Replica.{Follows, ReplicaState, after, numbered, terms_with}
use Rattle.following.specs.{Input.Input, Reading.AreLinesOf, Reading.AreRecords}

-- there was room for each record up to this number, each number standing for the first record with it
abbrev pub HadRoom : ℕ → List PatchRecord → ℕ → Type 0
HadRoom room items n = (k : ℕ) → k < n → IfSome (numbered (k + 1) items) (λ item. terms_with (after items k) item.adds ≤ room)

-- these lines were taken: they are those of these records, and of one that lacks lines. The records up to the greatest number such that
-- all are there were applied, and there was room for them
pub record TakenLines (room : ℕ) : Type 0 where
  pub done : List (List ℕ)
  pub items : List PatchRecord
  pub begun : Option Begun
  pub are : AreLinesOf done items begun
  pub applied : ℕ
  pub greatest : IsGreatest items applied
  pub roomed : HadRoom room items applied

-- the records up to this number were received, and had room, and there is none for the next one, which was received too
pub record IsRecordOverfull (room : ℕ) (items : List PatchRecord) : Type 0 where
  pub applied : ℕ
  pub received : (number : ℕ) → 0 < number → number ≤ applied → IsSome (numbered number items)
  pub roomed : HadRoom room items applied
  pub item : PatchRecord
  pub next : numbered (applied + 1) items ≡ Some item
  pub over : room < terms_with (after items applied) item.adds

-- the replica received these records, and had room for those that it applied
pub record HasReceived (items : List PatchRecord) (state : ReplicaState) : Type 0 where
  pub follows : Follows items state
  pub roomed : HadRoom state.limit items state.applied

-- no further one of them is due
pub record HasApplied (items : List PatchRecord) (state : ReplicaState) : Type 0 where
  pub received : HasReceived items state
  pub greatest : IsGreatest items state.applied

-- the replica takes a record and applies what is due
abbrev pub TakesRecord : PatchRecord → ReplicaState → ReplicaState → Type 0
TakesRecord item old new = (items : List PatchRecord) → HasApplied items old → HasApplied (items ++ item ∷ []) new

-- a line is taken, and the record that it ends, if it ends one: the lines with it are those of further records, which the replica took
abbrev pub AppliesLine : List ℕ → Option Begun → Option Begun → ReplicaState → ReplicaState → Type 0
AppliesLine line old new before now = (items : List PatchRecord) (done : List (List ℕ)) → AreLinesOf done items old → HasApplied items before →
    (further : List PatchRecord) × AreLinesOf (done ++ line ∷ []) further new × HasApplied further now

-- the line ends a record, and there is no room for it, or for one that waited for it
abbrev pub OverfillsByLine : List ℕ → Option Begun → ReplicaState → Type 0
OverfillsByLine line old before = (items : List PatchRecord) (done : List (List ℕ)) → AreLinesOf done items old → HasApplied items before →
    (item : PatchRecord) × AreLinesOf (done ++ line ∷ []) (items ++ item ∷ []) None × IsRecordOverfull before.limit (items ++ item ∷ [])

-- the whole input was read, its lines are those of these records, and the replica applied all that go
pub record HasTakenRecords (limit : ℕ) (before now : Input) (state : ReplicaState) : Type 0 where
  pub items : List PatchRecord
  pub read : IsAtEnd now.left
  pub are : IfSome before.left (λ bytes. AreRecords limit bytes items None)
  pub applied : HasApplied items state
