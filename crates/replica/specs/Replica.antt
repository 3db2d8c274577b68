-- What a replica of a producer's triples has after the records that it received.
use Rattle.std.specs.Prelude.{◌≡◌, ℕ, zero, suc, ◌+◌, ◌<◌, ◌≤◌, ◌^◌, ◌==◌, Bool, true, false, not, cond, ◌||◌, nat_le, is_some, List, [], ◌∷◌, ◌++◌, filter, Option, None, Some, IsSome, if◌then◌else◌}
use Rattle.std.specs.{Ordering.nat_cmp, List.flat_map, Map.lookup, BTreeMap.is_at}
use Rattle.std.specs.FinMap as map
use Rattle.sorted_sets.specs.Rising.{difference, has, sorted}
use Rattle.rdf_term.specs.{declared.triple.Triple.Triple, Order.triple_cmp}
use Rattle.triple_patch.specs.declared.changes.Patch.{Patch}
use Rattle.triple_store.specs.{Counts.Counts, Counts.count_of, Room.distinct, Room.terms_of}
use Rattle.term_pool.specs.Pool.{one_if}
use Rattle.replica.specs.{declared.record.PatchRecord.PatchRecord, Record.IsSound}

-- the first of the records that has the number
abbrev pub numbered : ℕ → List PatchRecord → Option PatchRecord
numbered number [] = None
numbered number (item ∷ items) = if number == item.number then Some item else numbered number items

-- the triples less those that go, with those that come
unfoldable pub patched : List Triple → PatchRecord → List Triple
patched triples item = sorted triple_cmp (difference triple_cmp triples item.removes ++ item.adds)

abbrev pub patched_if : List Triple → Option PatchRecord → List Triple
patched_if triples None = triples
patched_if triples (Some item) = patched triples item

-- the triples after the records 1 to n, each number standing for the first record with it
abbrev pub after : List PatchRecord → ℕ → List Triple
after items zero = []
after items (suc n) = patched_if (after items n) (numbered (suc n) items)

-- what a replica has: its triples, the number of the last record that was applied, the records that wait by their numbers, and how many
-- distinct terms there may be
pub record ReplicaState : Type 0 where
  pub triples : List Triple
  pub applied : ℕ
  pub waiting : List (ℕ × PatchRecord)
  pub limit : ℕ

-- before the first record
abbrev pub nothing_received : ℕ → ReplicaState
nothing_received limit = record { triples = []; applied = 0; waiting = []; limit = limit }

-- the record of this number that waits
abbrev pub waiting_at : List (ℕ × PatchRecord) → ℕ → Option PatchRecord
waiting_at waiting number = lookup (is_at (nat_cmp number)) waiting

-- whether a record with this number was applied or waits
abbrev pub is_known : ReplicaState → ℕ → Bool
is_known state number = nat_le number state.applied || is_some (waiting_at state.waiting number)

-- these records were received: the triples are those after the records up to the last that was applied, each of which is there, and what
-- has a greater number waits
pub record Follows (items : List PatchRecord) (state : ReplicaState) : Type 0 where
  pub triples : state.triples ≡ after items state.applied
  pub received : (number : ℕ) → 0 < number → number ≤ state.applied → IsSome (numbered number items)
  pub waits : (number : ℕ) → state.applied < number → waiting_at state.waiting number ≡ numbered number items

-- the number of distinct terms of the triples and of those that come, together
abbrev pub terms_with : List Triple → List Triple → ℕ
terms_with triples adds = distinct (flat_map terms_of (triples ++ adds))

-- each stored triple has one owner
abbrev pub AreOwnedOnce : Counts → Type 0
AreOwnedOnce counts = (triple : Triple) → count_of counts triple ≡ one_if (has triple_cmp triple (map.keys counts))

-- a record that waits: its number is this one and above those that were applied
pub record IsWaiting (applied number : ℕ) (item : PatchRecord) : Type 0 where
  pub number_is : item.number ≡ number
  pub above : applied < number
  pub small : number < 2 ^ 64
  pub sound : IsSound item

-- whether a triple is among the others, or whether it isn't
abbrev pub is_at_side : List Triple → Bool → Triple → Bool
is_at_side triples there triple = cond there (has triple_cmp triple triples) (not (has triple_cmp triple triples))

-- what comes and what goes by a record: of the triples that come those that aren't there, and of those that go those that are
unfoldable pub effect : List Triple → PatchRecord → Patch
effect triples item = record { adds = filter (is_at_side triples false) item.adds; removes = filter (is_at_side triples true) item.removes }

-- the next record waits, and there is no room for its triples beside those that are there
pub record HasNoRoomForNext (state : ReplicaState) : Type 0 where
  pub item : PatchRecord
  pub waits : waiting_at state.waiting (state.applied + 1) ≡ Some item
  pub over : state.limit < terms_with state.triples item.adds

-- where the next record waits, there is room
abbrev pub HasRoomForNext : ReplicaState → Type 0
HasRoomForNext state = (item : PatchRecord) → waiting_at state.waiting (state.applied + 1) ≡ Some item → terms_with state.triples item.adds ≤ state.limit
