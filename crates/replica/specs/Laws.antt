-- What the records of a producer are, and what the law of a replica says.
use Rattle.std.specs.Prelude.{◌≡◌, ℕ, ◌+◌, ◌-◌, ◌<◌, ◌≤◌, ◌^◌, length, false, List, [], ◌∷◌, ◌++◌, Option, None, Some, IsSome, is_some, flat_map}
use Rattle.std.specs.List.{AllByRecursion}
use Rattle.sorted_sets.specs.Rising.{IsRising, difference}
use Rattle.rdf_term.specs.{declared.triple.Triple.Triple, Order.triple_cmp}
use Rattle.wq_io.specs.Lines.{lines}
use Rattle.replica.specs.{declared.reader.Begun.Begun, declared.record.PatchRecord.PatchRecord, Reader.TakesLine, Reader.lines_read}
use Rattle.replica.specs.Record.{IsSound, record_lines, record_text}
use Rattle.replica.specs.Replica.{Follows, ReplicaState, after, numbered}

-- the triples of a producer after each of its records; after none there are none
pub record IsProducer (producer : ℕ → List Triple) : Type 0 where
  pub starts : producer 0 ≡ []
  pub rises : (n : ℕ) → IsRising triple_cmp (producer n)

-- the record says what changed from the record before
pub record IsRecordOf (producer : ℕ → List Triple) (item : PatchRecord) : Type 0 where
  pub adds : item.adds ≡ difference triple_cmp (producer item.number) (producer (item.number - 1))
  pub removes : item.removes ≡ difference triple_cmp (producer (item.number - 1)) (producer item.number)

-- n is the greatest number such that the records from 1 to n were received
pub record IsGreatest (items : List PatchRecord) (n : ℕ) : Type 0 where
  pub received : (number : ℕ) → 0 < number → number ≤ n → IsSome (numbered number items)
  pub missing : is_some (numbered (n + 1) items) ≡ false

-- a replica that received records of a producer alone, and for which no record is due, has the triples that the producer had after the
-- greatest number up to which all were received
abbrev pub FollowsItsProducer : Type 0
FollowsItsProducer = (producer : ℕ → List Triple) (items : List PatchRecord) (state : ReplicaState) (n : ℕ) → IsProducer producer → AllByRecursion (IsRecordOf producer) items → Follows items state →
    is_some (numbered (state.applied + 1) items) ≡ false → IsGreatest items n → state.triples ≡ producer n

-- where these records are all of a producer, and those from 1 to n are there, the triples after them are the producer's
abbrev pub LeadsToItsProducer : Type 0
LeadsToItsProducer = (producer : ℕ → List Triple) (items : List PatchRecord) → IsProducer producer → AllByRecursion (IsRecordOf producer) items → (n : ℕ) →
    ((number : ℕ) → 0 < number → number ≤ n → IsSome (numbered number items)) → after items n ≡ producer n

-- the lines are taken one after the other, and these records are given
pub data IsReadAs : Option Begun → List (List ℕ) → List PatchRecord → Option Begun → Type 0 where
  nothing : (begun : Option Begun) → IsReadAs begun [] [] begun
  within : (old new end : Option Begun) (line : List ℕ) (lines : List (List ℕ)) (items : List PatchRecord) → TakesLine old line new None → IsReadAs new lines items end
      → IsReadAs old (line ∷ lines) items end
  last : (old new end : Option Begun) (line : List ℕ) (lines : List (List ℕ)) (item : PatchRecord) (items : List PatchRecord) → TakesLine old line new (Some item) → IsReadAs new lines items end
      → IsReadAs old (line ∷ lines) (item ∷ items) end

-- lines that are taken are those of the records that are given, one after the other, and of one that lacks lines
abbrev pub ReadsTheirLines : Type 0
ReadsTheirLines = (lines : List (List ℕ)) (items : List PatchRecord) (end : Option Begun) → IsReadAs None lines items end → lines ≡ flat_map record_lines items ++ lines_read end

-- a record that a reader can give: it is sound, and its numbers have 64 bits
pub record HasShortNumbers (item : PatchRecord) : Type 0 where
  pub sound : IsSound item
  pub number : item.number < 2 ^ 64
  pub adds : length item.adds < 2 ^ 64
  pub removes : length item.removes < 2 ^ 64

-- the lines of records, one after the other, are taken, and these records are given
abbrev pub ReadsRecords : Type 0
ReadsRecords = (items : List PatchRecord) → AllByRecursion HasShortNumbers items → IsReadAs None (flat_map record_lines items) items None

-- lines are read in one way alone
abbrev pub ReadsOneWay : Type 0
ReadsOneWay = (lines : List (List ℕ)) (items others : List PatchRecord) (end other : Option Begun) → IsReadAs None lines items end → IsReadAs None lines others other → (items ≡ others) × (end ≡ other)

-- the texts of records, one after the other, have the lines of these records, and no other
abbrev pub SplitsIntoLines : Type 0
SplitsIntoLines = (items : List PatchRecord) → AllByRecursion HasShortNumbers items → lines (flat_map record_text items) ≡ flat_map record_lines items
