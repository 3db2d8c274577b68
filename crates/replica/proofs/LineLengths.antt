-- How long the lines of a record are.
use Rattle.std.proofs.Common.{◌≡◌, ℕ, ◌≤◌, List, [], ◌∷◌, ◌++◌, length, map, codes, Option, None, Some, IfSome, refl, sym, ap, subst, append_assoc, arith, length-append, flat_map}
use Rattle.std.specs.{Fmt.decimal, List.AllByRecursion}
use Rattle.digits.proofs.Decimals.{decimal_short}
use Rattle.sorted_sets.specs.Rising.{Each}
use Rattle.rdf_term.specs.{declared.triple.Triple.Triple, Text.term_text}
use Rattle.replica.specs.{declared.head.Head.Head, declared.reader.Begun.Begun, declared.record.PatchRecord.PatchRecord, Head.head_line}
use Rattle.replica.specs.{Laws.HasShortNumbers, Reader.IsUnfinished, Reader.lines_read, Record.head_of, Record.record_lines}
use Rattle.replica.specs.TripleLine.{HasReadableTerms, triple_line}
use Rattle.replica.proofs.{Heads.line_words, TripleLines.line_joins}

-- a line is shorter than three terms of 32 MiB with what stands between them, and than 128 MiB
abbrev pub IsShort : List ℕ → Type 0
IsShort line = length line ≤ 134217728

head_short : (head : Head) → IsShort (head_line head)
head_short head =
    let r : List ℕ = 45 ∷ decimal head.removes in
    let a : List ℕ = (43 ∷ decimal head.adds) ++ 32 ∷ r in
    let n : List ℕ = decimal head.number ++ 32 ∷ a in
    let five : length (codes "patch") ≡ 5 = refl in
    omega (
      arith,
      ap length (line_words head),
      length-append (35 ∷ []) (32 ∷ (codes "patch" ++ 32 ∷ n)),
      length-append (codes "patch") (32 ∷ n),
      length-append (decimal head.number) (32 ∷ a),
      length-append (43 ∷ decimal head.adds) (32 ∷ r),
      decimal_short head.number,
      decimal_short head.adds,
      decimal_short head.removes,
      five,
    )

triple_short : (triple : Triple) → HasReadableTerms triple → IsShort (triple_line triple)
triple_short triple readable =
    let s = term_text triple.subject in
    let p = term_text triple.predicate in
    let o = term_text triple.object in
    omega (
      arith,
      ap length (line_joins triple),
      length-append s (32 ∷ (p ++ 32 ∷ (o ++ 32 ∷ 46 ∷ []))),
      length-append p (32 ∷ (o ++ 32 ∷ 46 ∷ [])),
      length-append o (32 ∷ 46 ∷ []),
      readable.subject.canonical.short,
      readable.predicate.canonical.short,
      readable.object.canonical.short,
    )

triples_short : (triples : List Triple) → AllByRecursion HasReadableTerms triples → Each IsShort (map triple_line triples)
triples_short [] all = tt
triples_short (t ∷ ts) all = (triple_short t all.0, triples_short ts all.1)

both_short : (xs ys : List (List ℕ)) → Each IsShort xs → Each IsShort ys → Each IsShort (xs ++ ys)
both_short [] ys first second = second
both_short (x ∷ xs) ys first second = (first.0, both_short xs ys first.1 second)

record_short : (item : PatchRecord) → HasShortNumbers item → Each IsShort (record_lines item)
record_short item sound = (head_short (head_of item), triples_short (item.adds ++ item.removes) sound.sound.readable)

begun_short : (begun : Option Begun) → IfSome begun IsUnfinished → Each IsShort (lines_read begun)
begun_short None unfinished = tt
begun_short (Some b) unfinished = (head_short b.head, triples_short (b.adds ++ b.removes) unfinished.part.readable)

-- no line of records, or of one that lacks lines, is over-long
pub lines_short : (items : List PatchRecord) (begun : Option Begun) → AllByRecursion HasShortNumbers items → IfSome begun IsUnfinished → Each IsShort (flat_map record_lines items ++ lines_read begun)
lines_short [] begun all unfinished = begun_short begun unfinished
lines_short (item ∷ items) begun all unfinished =
    subst (Each IsShort) (sym (append_assoc (record_lines item) (flat_map record_lines items) (lines_read begun)))
    (both_short (record_lines item) (flat_map record_lines items ++ lines_read begun) (record_short item all.0) (lines_short items begun all.1 unfinished))
