-- What a reader of records gives and refuses, line by line.
use Rattle.std.specs.Prelude.{◌≡◌, ◌≢◌, ℕ, ◌≤◌, Bool, true, false, not, ◌&&◌, ◌==◌, nat_lt, if◌then◌else◌, List, [], ◌∷◌, ◌++◌, length, Option, None, Some, MatchOption, ⊤}
use Rattle.std.specs.{List.AllByRecursion, Ordering.is_lt, Ordering.ordering_then, declared.cmp.Ordering.Ordering}
use Rattle.sorted_sets.specs.Rising.{IsRising, has}
use Rattle.rdf_term.specs.{declared.triple.Triple.Triple, Order.bytes_cmp, Order.triple_cmp}
use Rattle.triple_texts.specs.declared.triple_text.TripleText.{TripleText}
use Rattle.replica.specs.{declared.head.Head.Head, declared.record.PatchRecord.PatchRecord, declared.reader.Begun.Begun}
use Rattle.replica.specs.declared.reader.PatchFault.{PatchFault}
use Rattle.replica.specs.declared.reader.PatchFault.TheVariants.{Head as NoHead, Triple as NoTriple, Order as OutOfOrder, OutOfMemory}
use Rattle.replica.specs.{Head.IsHead, Head.head_line, Record.lines_with, TripleLine.AreTermTexts, TripleLine.HasReadableTerms, TripleLine.IsTripleLine}

-- the lines that were read of a record
abbrev pub lines_read : Option Begun → List (List ℕ)
lines_read None = []
lines_read (Some begun) = lines_with begun.head (begun.adds ++ begun.removes)

-- the triple is greater than the last one of the list
abbrev pub is_next : List Triple → Triple → Bool
is_next [] triple = true
is_next (x ∷ []) triple = is_lt (triple_cmp x triple)
is_next (x ∷ y ∷ ys) triple = is_next (y ∷ ys) triple

-- whether triples that come are due
abbrev pub is_adding : Begun → Bool
is_adding begun = nat_lt (length begun.adds) begun.head.adds

-- whether the triple may follow: it is greater than the one before it in its part, and isn't in both parts
unfoldable pub may_come_next : Begun → Triple → Bool
may_come_next begun triple = if is_adding begun then is_next begun.adds triple else (is_next begun.removes triple && not (has triple_cmp triple begun.adds))

-- a record whose head was read
abbrev pub opened : Head → Begun
opened head = record { head = head; adds = []; removes = [] }

-- the record with one more triple
unfoldable pub with_triple : Begun → Triple → Begun
with_triple begun triple =
    if is_adding begun then record { head = begun.head; adds = begun.adds ++ triple ∷ []; removes = begun.removes }
    else record { head = begun.head; adds = begun.adds; removes = begun.removes ++ triple ∷ [] }

-- whether all triples that the head counts were read
abbrev pub all_read : Begun → Bool
all_read begun = (length begun.adds == begun.head.adds) && (length begun.removes == begun.head.removes)

-- the record of what was read
abbrev pub patch_read : Begun → PatchRecord
patch_read begun = record { number = begun.head.number; adds = begun.adds; removes = begun.removes }

-- what is given behind a line, and what is left to be read on
unfoldable pub given : Begun → Option PatchRecord
given begun = if all_read begun then Some (patch_read begun) else None

unfoldable pub left : Begun → Option Begun
left begun = if all_read begun then None else Some begun

-- by the subject's text, then the predicate's, then the object's
abbrev pub text_cmp : TripleText → TripleText → Ordering
text_cmp a b = ordering_then (bytes_cmp a.subject.now b.subject.now) (ordering_then (bytes_cmp a.predicate.now b.predicate.now) (bytes_cmp a.object.now b.object.now))

-- with the line, this was read of a record: the line is its head, or that of its next triple
abbrev pub Grows : Option Begun → List ℕ → Begun → Type 0
Grows None line begun = IsHead line begun.head × (begun ≡ opened begun.head)
Grows (Some before) line begun = (triple : Triple) × IsTripleLine line triple × (may_come_next before triple ≡ true) × (begun ≡ with_triple before triple)

-- the reader takes the line: it gives the record at its last line
pub record TakesLine (old : Option Begun) (line : List ℕ) (new : Option Begun) (found : Option PatchRecord) : Type 0 where
  pub begun : Begun
  pub grows : Grows old line begun
  pub found_is : found ≡ given begun
  pub left_is : new ≡ left begun

-- the part of a record that was read: no part has more triples than the head says, those that come are first, and each part is a
-- set of readable triples
pub record IsPart (begun : Begun) : Type 0 where
  pub head : IsHead (head_line begun.head) begun.head
  pub few_adds : length begun.adds ≤ begun.head.adds
  pub few_removes : length begun.removes ≤ begun.head.removes
  pub in_turn : is_adding begun ≡ true → begun.removes ≡ []
  pub adds : IsRising triple_cmp begun.adds
  pub removes : IsRising triple_cmp begun.removes
  pub readable : AllByRecursion HasReadableTerms (begun.adds ++ begun.removes)
  pub apart : (triple : Triple) → has triple_cmp triple begun.adds ≡ true → has triple_cmp triple begun.removes ≡ false

-- a record that lacks lines
pub record IsUnfinished (begun : Begun) : Type 0 where
  pub part : IsPart begun
  pub lacks : all_read begun ≡ false

-- the same for a triple by its texts
abbrev pub GrowsBy : Begun → TripleText → Begun → Type 0
GrowsBy before texts begun = (triple : Triple) × AreTermTexts texts triple × (may_come_next before triple ≡ true) × (begun ≡ with_triple before triple)

-- why these texts are refused: they aren't a triple's, or this triple may not follow
abbrev pub IsCauseBy : PatchFault → Begun → TripleText → Type 0
IsCauseBy NoHead before texts = ⊥
IsCauseBy NoTriple before texts = (triple : Triple) → AreTermTexts texts triple → ⊥
IsCauseBy OutOfOrder before texts = (triple : Triple) × AreTermTexts texts triple × (may_come_next before triple ≡ false)
IsCauseBy OutOfMemory before texts = ⊤

-- why a line is refused: it should be a head, or a triple, and isn't; or this triple may not follow
abbrev pub HasCause : PatchFault → Option Begun → List ℕ → Type 0
HasCause NoHead begun line = (begun ≡ None) × ((head : Head) → IsHead line head → ⊥)
HasCause NoTriple begun line = (begun ≢ None) × ((triple : Triple) → IsTripleLine line triple → ⊥)
HasCause OutOfOrder begun line = MatchOption begun ⊥ (λ before. (triple : Triple) × IsTripleLine line triple × (may_come_next before triple ≡ false))
HasCause OutOfMemory begun line = ⊤
