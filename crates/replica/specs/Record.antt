-- Records of patches and their texts.
use Rattle.std.specs.Prelude.{◌≡◌, ℕ, ◌<◌, true, false, List, [], ◌∷◌, ◌++◌, length}
use Rattle.std.specs.Prelude.{map as mapped}
use Rattle.std.specs.List.{AllByRecursion}
use Rattle.sorted_sets.specs.Rising.{IsRising, has}
use Rattle.rdf_term.specs.{declared.triple.Triple.Triple, Order.triple_cmp}
use Rattle.triple_texts.specs.declared.triple_text.TripleText.{TripleText}
use Rattle.wq_io.specs.Lines.{ended_lines}
use Rattle.replica.specs.{declared.head.Head.Head, declared.record.PatchRecord.PatchRecord, Head.head_line}
use Rattle.replica.specs.TripleLine.{HasReadableTerms, triple_line}

-- what the first line says
abbrev pub head_of : PatchRecord → Head
head_of item = record { number = item.number; adds = length item.adds; removes = length item.removes }

-- the lines of a head and of triples that follow it
abbrev pub lines_with : Head → List Triple → List (List ℕ)
lines_with head triples = head_line head ∷ mapped triple_line triples

-- the lines of a record: its head, the triples that come and those that go
abbrev pub record_lines : PatchRecord → List (List ℕ)
record_lines item = lines_with (head_of item) (item.adds ++ item.removes)

-- these lines, each with its line feed
abbrev pub record_text : PatchRecord → List ℕ
record_text item = ended_lines (record_lines item)

-- what a reader may give: the number is from 1, each part is a set of readable triples, and none is in both
pub record IsSound (item : PatchRecord) : Type 0 where
  pub numbered : 0 < item.number
  pub adds : IsRising triple_cmp item.adds
  pub removes : IsRising triple_cmp item.removes
  pub readable : AllByRecursion HasReadableTerms (item.adds ++ item.removes)
  pub apart : (triple : Triple) → has triple_cmp triple item.adds ≡ true → has triple_cmp triple item.removes ≡ false

-- the line of a triple by its texts: each with a space after it, then `.` and the line feed
abbrev pub text_line : TripleText → List ℕ
text_line texts = (texts.subject.now ++ 32 ∷ []) ++ (texts.predicate.now ++ 32 ∷ []) ++ (texts.object.now ++ 32 ∷ []) ++ 46 ∷ 10 ∷ []
