-- The lines of records grow by a line.
use Rattle.std.proofs.Common.{◌≡◌, ℕ, Bool, true, false, cond, List, [], ◌∷◌, ◌++◌, length, flat_map, Option, None, Some, IfSome, refl, sym, ◌∙◌, ap, subst, arith, append_assoc, append-nil}
use Rattle.std.specs.List.{AllByRecursion}
use Rattle.std.proofs.{lemmas.Bool.Decides.nat_tests, lemmas.Grind.flat_map-append}
use Rattle.replica.specs.{declared.reader.Begun.Begun, declared.record.PatchRecord.PatchRecord, Laws.HasShortNumbers}
use Rattle.replica.specs.Reader.{IsPart, IsUnfinished, TakesLine, given, all_read, left, patch_read, lines_read as lines_begun}
use Rattle.replica.specs.Record.{record_lines}
use Rattle.replica.proofs.ReadLines.{part_of}
use Rattle.following.specs.Reading.{AreLinesOf}

-- nothing is left behind the last line of a record
pub none_left : (old new : Option Begun) (line : List ℕ) (item : PatchRecord) → TakesLine old line new (Some item) → new ≡ None
unfolding given left
none_left old new line item takes = by (all_read takes.begun) takes.found_is takes.left_is
  where
    by : (b : Bool) → Some item ≡ cond b (Some (patch_read takes.begun)) None → new ≡ cond b None (Some takes.begun) → new ≡ None
    by true found is = is
    by false found is = cc

-- what is given has the numbers of its head
given_short : (begun : Begun) → IsPart begun → IfSome (given begun) HasShortNumbers
unfolding given
given_short begun part = by (all_read begun) refl
  where
    by : (b : Bool) → all_read begun ≡ b → IfSome (cond b (Some (patch_read begun)) None) HasShortNumbers
    by true whole =
        let adds : length begun.adds ≡ begun.head.adds = grind (arith, nat_tests) in
        let removes : length begun.removes ≡ begun.head.removes = grind (arith, nat_tests) in
        record {
          sound = record { numbered = part.head.numbered; adds = part.adds; removes = part.removes; readable = part.readable; apart = part.apart };
          number = part.head.number;
          adds = omega (arith, adds, part.head.adds);
          removes = omega (arith, removes, part.head.removes);
        }
    by false lacks = tt

-- so has a record that a line ends
short_numbers : (old new : Option Begun) (line : List ℕ) (item : PatchRecord) → IfSome old IsUnfinished → TakesLine old line new (Some item) → HasShortNumbers item
short_numbers old new line item unfinished takes =
    let given_is : IfSome (Some item) HasShortNumbers = subst (λ o. IfSome o HasShortNumbers) (sym takes.found_is) (given_short takes.begun (part_of old line takes.begun unfinished takes.grows)) in
    given_is

all_push : (items : List PatchRecord) (item : PatchRecord) → AllByRecursion HasShortNumbers items → HasShortNumbers item → AllByRecursion HasShortNumbers (items ++ item ∷ [])
all_push [] item all one = (one, tt)
all_push (x ∷ xs) item all one = (all.0, all_push xs item all.1 one)

module _ (line : List ℕ) (old : Option Begun) (items : List PatchRecord) (done : List (List ℕ)) (are : AreLinesOf done items old) where
  with_line : done ++ line ∷ [] ≡ flat_map record_lines items ++ (lines_begun old ++ line ∷ [])
  with_line = ap (λ ls. ls ++ line ∷ []) are.are ∙ append_assoc (flat_map record_lines items) (lines_begun old) (line ∷ [])

  -- the line is within a record
  pub within_record : (new : Option Begun) → IfSome new IsUnfinished → lines_begun new ≡ lines_begun old ++ line ∷ [] → AreLinesOf (done ++ line ∷ []) items new
  within_record new unfinished grows = record {
    are = with_line ∙ ap (λ ls. flat_map record_lines items ++ ls) (sym grows);
    sound = are.sound;
    unfinished = unfinished;
  }

  -- the line ends a record
  pub ends_record : (new : Option Begun) (item : PatchRecord) → TakesLine old line new (Some item) → record_lines item ≡ lines_begun old ++ line ∷ [] → AreLinesOf (done ++ line ∷ []) (items ++ item ∷ []) None
  ends_record new item takes ends = record {
    are = with_line ∙ ap (λ ls. flat_map record_lines items ++ ls) (sym ends ∙ sym (append-nil (record_lines item)))
        ∙ sym (flat_map-append record_lines items (item ∷ []))
        ∙ sym (append-nil (flat_map record_lines (items ++ item ∷ [])));
    sound = all_push items item are.sound (short_numbers old new line item are.unfinished takes);
    unfinished = tt;
  }

  -- and nothing is left of it
  pub ends_record_new : (new : Option Begun) (item : PatchRecord) → TakesLine old line new (Some item) → record_lines item ≡ lines_begun old ++ line ∷ [] → AreLinesOf (done ++ line ∷ []) (items ++ item ∷ []) new
  ends_record_new new item takes ends = subst (AreLinesOf (done ++ line ∷ []) (items ++ item ∷ [])) (sym (none_left old new line item takes)) (ends_record new item takes ends)
