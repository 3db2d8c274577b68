-- Lines that are taken, one after the other.
use Rattle.std.proofs.Common.{◌≡◌, ℕ, ◌<◌, ◌≤◌, ◌==◌, Bool, true, false, cond, nat_lt, length, map, is_lt, arith, true≢false, append-nil, length-append, List, [], ◌∷◌, ◌++◌, flat_map, Option, None, Some, IfSome, MatchOption, refl, sym, ◌∙◌, ap, subst, append_assoc}
use Rattle.std.specs.List.{AllByRecursion}
use Rattle.std.proofs.lemmas.Bool.Decides.{nat_tests}
use Rattle.sorted_sets.specs.Rising.{IsRising, has}
use Rattle.sorted_sets.proofs.{Bools.and_none, Bools.or_true, Rising.has-append, Rising.has_itself}
use Rattle.rdf_term.specs.{declared.triple.Triple.Triple, Order.triple_cmp, Order.triple_cmp-total}
use Rattle.replica.specs.{Head.head_line, TripleLine.HasReadableTerms, TripleLine.triple_line, declared.reader.Begun.Begun}
use Rattle.replica.specs.declared.record.PatchRecord.{PatchRecord}
use Rattle.replica.specs.Laws.{HasShortNumbers, IsReadAs, ReadsRecords, ReadsTheirLines, nothing, within, last}
use Rattle.replica.specs.Reader.{Grows, IsPart, IsUnfinished, TakesLine, given, may_come_next, is_adding, is_next, all_read, left, lines_read, opened, patch_read, with_triple}
use Rattle.replica.specs.Record.{head_of, lines_with, record_lines}
use Rattle.replica.proofs.Records.{grown, left_unfinished, opened_part, taken_lines}

pub part_of : (old : Option Begun) (line : List ℕ) (begun : Begun) → IfSome old IsUnfinished → Grows old line begun → IsPart begun
part_of None line begun unfinished grows = subst IsPart (sym grows.1) (opened_part line begun.head grows.0)
part_of (Some before) line begun unfinished grows = subst IsPart (sym grows.3) (grown before grows.0 unfinished grows.2 grows.1.readable)

unfinished_then : (old new : Option Begun) (line : List ℕ) (found : Option PatchRecord) → IfSome old IsUnfinished → TakesLine old line new found → IfSome new IsUnfinished
unfinished_then old new line found unfinished takes =
    subst (λ o. IfSome o IsUnfinished) (sym takes.left_is) (left_unfinished takes.begun (part_of old line takes.begun unfinished takes.grows))

taken : (old new : Option Begun) (line : List ℕ) (found : Option PatchRecord) → IfSome old IsUnfinished → TakesLine old line new found →
    MatchOption found (lines_read new ≡ lines_read old ++ line ∷ []) (λ item. record_lines item ≡ lines_read old ++ line ∷ [])
taken old new line found unfinished takes =
    let lines = taken_lines old line takes.begun unfinished takes.grows in
    let with_left = subst (λ o. MatchOption (given takes.begun) (lines_read o ≡ lines_read old ++ line ∷ []) (λ item. record_lines item ≡ lines_read old ++ line ∷ [])) (sym takes.left_is) lines in
    subst (λ f. MatchOption f (lines_read new ≡ lines_read old ++ line ∷ []) (λ item. record_lines item ≡ lines_read old ++ line ∷ [])) (sym takes.found_is) with_left

-- nothing is left behind the last line of a record
given_none : (old new : Option Begun) (line : List ℕ) (item : PatchRecord) → TakesLine old line new (Some item) → lines_read new ≡ []
unfolding given left
given_none old new line item takes = by (all_read takes.begun) takes.found_is takes.left_is
  where
    by : (b : Bool) → Some item ≡ cond b (Some (patch_read takes.begun)) None → new ≡ cond b None (Some takes.begun) → lines_read new ≡ []
    by true found is = ap lines_read is
    by false found is = cc

read_lines : (old end : Option Begun) (lines : List (List ℕ)) (items : List PatchRecord) → IfSome old IsUnfinished → IsReadAs old lines items end → lines_read old ++ lines ≡ flat_map record_lines items ++ lines_read end
read_lines old _ _ _ unfinished (nothing _) = append-nil (lines_read old)
read_lines old end _ items unfinished (within _ new _ line lines _ takes others) =
    let rest = read_lines new end lines items (unfinished_then old new line None unfinished takes) others in
    sym (append_assoc (lines_read old) (line ∷ []) lines) ∙ ap (λ l. l ++ lines) (sym (taken old new line None unfinished takes)) ∙ rest
read_lines old end _ _ unfinished (last _ new _ line lines item items takes others) =
    let rest = read_lines new end lines items (unfinished_then old new line (Some item) unfinished takes) others in
    sym (append_assoc (lines_read old) (line ∷ []) lines) ∙ ap (λ l. l ++ lines) (sym (taken old new line (Some item) unfinished takes))
    ∙ ap (λ l. record_lines item ++ l) (ap (λ l. l ++ lines) (sym (given_none old new line item takes)) ∙ rest)
    ∙ sym (append_assoc (record_lines item) (flat_map record_lines items) (lines_read end))

pub reads_their_lines : ReadsTheirLines
reads_their_lines lines items end read = read_lines None end lines items tt read

-- ---- the lines of records are taken

next_of_rising : (xs : List Triple) (t : Triple) (ys : List Triple) → IsRising triple_cmp (xs ++ t ∷ ys) → is_next xs t ≡ true
next_of_rising [] t ys h = refl
next_of_rising (x ∷ []) t ys h = ap is_lt h.0.0
next_of_rising (x ∷ y ∷ zs) t ys h = next_of_rising (y ∷ zs) t ys h.1

fewer_yet : (xs : List Triple) (t : Triple) (ys all : List Triple) (n : ℕ) → xs ++ t ∷ ys ≡ all → length all ≤ n → length xs < n
fewer_yet xs t ys all n is few = omega (arith, length-append xs (t ∷ ys), ap length is, few)

nat_lt-true : (a b : ℕ) → a < b → nat_lt a b ≡ true
nat_lt-true a b h = grind (arith, nat_tests)

nat_lt-same : (a b : ℕ) → a ≡ b → nat_lt a b ≡ false
nat_lt-same a b h = grind (arith, nat_tests)

eq-less : (a b : ℕ) → a < b → (a == b) ≡ false
eq-less a b h = grind (arith, nat_tests)

eq-same : (a b : ℕ) → a ≡ b → (a == b) ≡ true
eq-same a b h = grind (arith, nat_tests)

not_both : (x y : Bool) → (x ≡ true → y ≡ false) → y ≡ true → x ≡ false
not_both true y h there = absurd (true≢false (sym there ∙ h refl))
not_both false y h there = refl

-- a record that lacks lines isn't given, and is left
lacking_given : (b : Begun) → all_read b ≡ false → (None ≡ given b) × (Some b ≡ left b)
unfolding given left
lacking_given b lacks = (ap (λ w. cond w (Some (patch_read b)) None) (sym lacks), ap (λ w. cond w None (Some b)) (sym lacks))

-- the part of a record is read line by line, behind what was read of it; once all of it was read, this is read
module _ (whole : Begun) (part : IsPart whole) (lines : List (List ℕ)) (items : List PatchRecord) (end : Option Begun)
    (ends : (old : Option Begun) (line : List ℕ) → Grows old line whole → IsReadAs old (line ∷ lines) items end) where
  -- what was read, and the triples that are to come
  record Goes (b : Begun) (adds removes : List Triple) : Type 0 where
    head_is : b.head ≡ whole.head
    adds_are : b.adds ++ adds ≡ whole.adds
    removes_are : b.removes ++ removes ≡ whole.removes
    readable : AllByRecursion HasReadableTerms (adds ++ removes)

  all_there : (b : Begun) → Goes b [] [] → b ≡ whole
  all_there b goes =
      let adds : b.adds ≡ whole.adds = sym (append-nil b.adds) ∙ goes.adds_are in
      let removes : b.removes ≡ whole.removes = sym (append-nil b.removes) ∙ goes.removes_are in
      λ i. record { head = goes.head_is i; adds = adds i; removes = removes i }

  -- where a triple that goes is to come, all that come were read
  full_by_then : (removes : List Triple) (t : Triple) (ts : List Triple) → removes ++ t ∷ ts ≡ whole.removes → is_adding whole ≡ false
  full_by_then removes t ts are = by (is_adding whole) refl
    where
      by : (b : Bool) → is_adding whole ≡ b → b ≡ false
      by false is = refl
      by true is = absurd (omega (arith, length-append removes (t ∷ ts), ap length are, ap length (part.in_turn is)))

  adding_grows : (b : Begun) (t : Triple) (ts removes : List Triple) → Goes b (t ∷ ts) removes → Grows (Some b) (triple_line t) (record { head = b.head; adds = b.adds ++ t ∷ []; removes = b.removes })
  unfolding may_come_next with_triple
  adding_grows b t ts removes goes =
      let due : is_adding b ≡ true = nat_lt-true (length b.adds) b.head.adds (fewer_yet b.adds t ts whole.adds b.head.adds goes.adds_are (few_adds b goes.head_is)) in
      let next : is_next b.adds t ≡ true = next_of_rising b.adds t ts (subst (IsRising triple_cmp) (sym goes.adds_are) part.adds) in
      (t, record { text = refl; readable = goes.readable.0 }, rw due next, rw due refl)
    where
      few_adds : (b : Begun) → b.head ≡ whole.head → length whole.adds ≤ b.head.adds
      few_adds b is = omega (arith, part.few_adds, ap (λ h. h.adds) is)

  removing_grows : (b : Begun) (t : Triple) (ts : List Triple) → Goes b [] (t ∷ ts) → Grows (Some b) (triple_line t) (record { head = b.head; adds = b.adds; removes = b.removes ++ t ∷ [] })
  unfolding may_come_next with_triple
  removing_grows b t ts goes =
      let adds : b.adds ≡ whole.adds = sym (append-nil b.adds) ∙ goes.adds_are in
      let full : is_adding b ≡ false = (λ i. nat_lt (length (adds i)) (goes.head_is i).adds) ∙ full_by_then b.removes t ts goes.removes_are in
      let next : is_next b.removes t ≡ true = next_of_rising b.removes t ts (subst (IsRising triple_cmp) (sym goes.removes_are) part.removes) in
      let there : has triple_cmp t whole.removes ≡ true =
      ap (has triple_cmp t) (sym goes.removes_are) ∙ has-append triple_cmp t b.removes (t ∷ ts) ∙ or_true (has triple_cmp t b.removes) (has triple_cmp t (t ∷ ts)) (has_itself triple_cmp-total t ts) in
      let absent : has triple_cmp t b.adds ≡ false = ap (has triple_cmp t) adds ∙ not_both (has triple_cmp t whole.adds) (has triple_cmp t whole.removes) (part.apart t) there in
      (t, record { text = refl; readable = goes.readable.0 }, rw (full, next, absent) refl, rw full refl)

  -- behind a line that was taken, the lines of the triples that are to come are taken
  goes_on : (adds removes : List Triple) (b : Begun) (old : Option Begun) (line : List ℕ) → Grows old line b → Goes b adds removes →
      IsReadAs old (line ∷ (map triple_line (adds ++ removes) ++ lines)) items end
  goes_on [] [] b old line grows goes = ends old line (subst (Grows old line) (all_there b goes) grows)
  goes_on [] (t ∷ ts) b old line grows goes =
      let few : length whole.removes ≤ b.head.removes = omega (arith, part.few_removes, ap (λ h. h.removes) goes.head_is) in
      let lacks : all_read b ≡ false =
      rw (eq-less (length b.removes) b.head.removes (fewer_yet b.removes t ts whole.removes b.head.removes goes.removes_are few)) (and_none (length b.adds == b.head.adds)) in
      let settled = lacking_given b lacks in
      within old (Some b) end line (triple_line t ∷ (map triple_line ts ++ lines)) items (record { begun = b; grows = grows; found_is = settled.0; left_is = settled.1 })
      (goes_on [] ts (record { head = b.head; adds = b.adds; removes = b.removes ++ t ∷ [] }) (Some b) (triple_line t) (removing_grows b t ts goes)
      (record { head_is = goes.head_is; adds_are = goes.adds_are; removes_are = append_assoc b.removes (t ∷ []) ts ∙ goes.removes_are; readable = goes.readable.1 }))
  goes_on (t ∷ ts) removes b old line grows goes =
      let few : length whole.adds ≤ b.head.adds = omega (arith, part.few_adds, ap (λ h. h.adds) goes.head_is) in
      let lacks : all_read b ≡ false =
      rw (eq-less (length b.adds) b.head.adds (fewer_yet b.adds t ts whole.adds b.head.adds goes.adds_are few)) refl in
      let settled = lacking_given b lacks in
      within old (Some b) end line (triple_line t ∷ (map triple_line (ts ++ removes) ++ lines)) items (record { begun = b; grows = grows; found_is = settled.0; left_is = settled.1 })
      (goes_on ts removes (record { head = b.head; adds = b.adds ++ t ∷ []; removes = b.removes }) (Some b) (triple_line t) (adding_grows b t ts removes goes)
      (record { head_is = goes.head_is; adds_are = append_assoc b.adds (t ∷ []) ts ∙ goes.adds_are; removes_are = goes.removes_are; readable = goes.readable.1 }))

  -- so are the head's line and those of all its triples
  part_read : IsReadAs None (lines_with whole.head (whole.adds ++ whole.removes) ++ lines) items end
  part_read =
      goes_on whole.adds whole.removes (opened whole.head) None (head_line whole.head) (part.head, refl)
      (record { head_is = refl; adds_are = refl; removes_are = refl; readable = part.readable })

-- ---- a whole record

-- what was read of a record once all its lines were
abbrev all_of : PatchRecord → Begun
all_of item = record { head = head_of item; adds = item.adds; removes = item.removes }

part_of_record : (item : PatchRecord) → HasShortNumbers item → IsPart (all_of item)
part_of_record item short = record {
  head = record { text = refl; numbered = short.sound.numbered; number = short.number; adds = short.adds; removes = short.removes };
  few_adds = omega arith;
  few_removes = omega arith;
  in_turn = λ due. absurd (true≢false (sym due ∙ nat_lt-same (length item.adds) (length item.adds) refl));
  adds = short.sound.adds;
  removes = short.sound.removes;
  readable = short.sound.readable;
  apart = short.sound.apart;
}

-- the record is given at its last line
record_ends : (item : PatchRecord) → (Some item ≡ given (all_of item)) × (None ≡ left (all_of item))
unfolding given left
record_ends item =
    let whole : all_read (all_of item) ≡ true = rw (eq-same (length item.adds) (length item.adds) refl, eq-same (length item.removes) (length item.removes) refl) refl in (
      ap (λ w. cond w (Some item) None) (sym whole),
      ap (λ w. cond w None (Some (all_of item))) (sym whole),
    )

record_read : (item : PatchRecord) → HasShortNumbers item → (lines : List (List ℕ)) (items : List PatchRecord) (end : Option Begun) → IsReadAs None lines items end →
    IsReadAs None (record_lines item ++ lines) (item ∷ items) end
record_read item short lines items end others =
    part_read (all_of item) (part_of_record item short) lines (item ∷ items) end
    (λ old line grows. last old None end line lines item items (record { begun = all_of item; grows = grows; found_is = (record_ends item).0; left_is = (record_ends item).1 }) others)

pub reads_records : ReadsRecords
reads_records [] all = nothing None
reads_records (item ∷ items) all = record_read item all.0 (flat_map record_lines items) items None (reads_records items all.1)

-- ---- records, and one that lacks lines

begun_read : (end : Option Begun) → IfSome end IsUnfinished → IsReadAs None (lines_read end) [] end
begun_read None unfinished = nothing None
begun_read (Some b) unfinished =
    subst (λ l. IsReadAs None l [] (Some b)) (append-nil (lines_with b.head (b.adds ++ b.removes)))
    (part_read b unfinished.part [] [] (Some b) (last_line b unfinished))
  where
    last_line : (b : Begun) → IsUnfinished b → (old : Option Begun) (line : List ℕ) → Grows old line b → IsReadAs old (line ∷ []) [] (Some b)
    last_line b unfinished old line grows =
        let settled = lacking_given b unfinished.lacks in
        within old (Some b) (Some b) line [] [] (record { begun = b; grows = grows; found_is = settled.0; left_is = settled.1 }) (nothing (Some b))

pub reads_lines : (items : List PatchRecord) (end : Option Begun) → AllByRecursion HasShortNumbers items → IfSome end IsUnfinished → IsReadAs None (flat_map record_lines items ++ lines_read end) items end
reads_lines [] end all unfinished = begun_read end unfinished
reads_lines (item ∷ items) end all unfinished =
    subst (λ l. IsReadAs None l (item ∷ items) end) (sym (append_assoc (record_lines item) (flat_map record_lines items) (lines_read end)))
    (record_read item all.0 (flat_map record_lines items ++ lines_read end) items end (reads_lines items end all.1 unfinished))
