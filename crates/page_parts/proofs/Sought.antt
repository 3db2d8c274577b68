-- Rows and subjects that are looked for.
use Rattle.std.proofs.Common.{◌≡◌, ℕ, ◌+◌, ◌<◌, ◌≤◌, Bool, true, false, ◌||◌, List, take, [], ◌∷◌, length, get_or, Some, None, Ordering, Less, Equal, Greater, is_eq, is_lt, is_some, is_ok, Ok, Err, Result, refl, sym, ◌∙◌, ap, arith, ⊎_elim, true≢false}
use Rattle.std.specs.Prelude.{option_map, slice_get}
use Rattle.std.specs.Cmp.{IsTotalOrder}
use Rattle.std.specs.Cmp.Lexicographic.{nat_list_cmp_total}
use Rattle.std.specs.FinMap.{nat_cmp-IsAntisymmetric, slice_cmp-IsAntisymmetric}
use Rattle.std.specs.List.Sorted.{IsSorted, IsSearchInRange, IsBinarySearchResult}
use Rattle.std.specs.Ordering.{eq_by_cmp, nat_cmp, ordering_then}
use Rattle.std.proofs.lemmas.Bool.{cases_lt}
use Rattle.std.proofs.lemmas.Cmp.{tied_back, tied_itself}
use Rattle.std.proofs.lemmas.List.{get_or-map, get_or-take, length-map, length-take, map-append, take_more}
use Rattle.std.proofs.lemmas.List.Elements.{All-from_get_or}
use Rattle.std.proofs.lemmas.List.Folds.{list_any_at, list_any_none}
use Rattle.std.proofs.lemmas.List.Sorted.{ranks_by, searchable_from_sorted, sorted_far}
use Rattle.std.proofs.lemmas.Map.Keys.{Less-from_sorted}
use Rattle.std.proofs.lemmas.Option.{slice_get-get_or, slice_get-map, slice_get_past}
use Rattle.sorted_sets.specs.Rising.{IsRising, has}
use Rattle.sorted_sets.proofs.{Bools.equal, Bools.or_false, Bools.then_first, Bools.then_second, Rising.has-append, Rising.turned, Sorting.IsStrictlySortedBy-from_rising}
use Rattle.rdf_term.specs.Order.{bytes_cmp}
use Rattle.page_parts.specs.declared.subjects.SubjectText.{SubjectText}
use Rattle.page_parts.specs.declared.row.Row.{Row}
use Rattle.page_parts.specs.Row.{IsFirst, row_cmp, subject_cmp, subject_texts}
use Rattle.page_parts.proofs.Ranking.{some_same}

module _ {K : Type 0} {R : K → K → Ordering} (o : IsTotalOrder R) where
  -- a rising list is sorted
  pub sorted_rising : (xs : List K) → IsRising R xs → IsSorted R xs
  sorted_rising xs h = λ k d low high. ap is_lt (turned o _ _ Less (Less-from_sorted R xs k (k + 1) d (IsStrictlySortedBy-from_rising R xs h) (omega arith) high))

  -- a binary search over a sorted list finds what is there
  pub found_sorted : (xs : List K) (k : K) (r : Result ℕ ℕ) → IsSorted R xs → IsSearchInRange r (length xs) → IsBinarySearchResult (λ y. R y k) xs r → is_ok r ≡ has R k xs
  found_sorted xs k (Ok i) h within at = sym (list_any_at (eq_by_cmp R k) xs i k within (ap is_eq (tied_back o _ k (at k))))
  found_sorted xs k (Err i) h within parts =
      let split = parts (searchable_from_sorted o (λ x. x) xs k h) in
      sym (list_any_none (eq_by_cmp R k) xs (All-from_get_or (λ x. eq_by_cmp R k x ≡ false) xs k (λ j l. ⊎_elim
      (λ before. ap is_eq (turned o _ k Less (split.0 j k (omega arith) before)))
      (λ after. ap is_eq (turned o _ k Greater (split.1 j k after l)))
      (cases_lt j i))))

-- the text at a place among subjects
module _ (subjects : List SubjectText) (place : ℕ) (d : SubjectText) (within : place < length subjects) where
  abbrev text_of : SubjectText → List ℕ
  text_of subject = subject.text.now

  at_place : slice_get (subject_texts subjects) place ≡ Some (text_of (get_or subjects place d))
  at_place = slice_get-map text_of subjects place ∙ ap (option_map text_of) (slice_get-get_or subjects place d within)

  -- a text that stands there is among them
  pub text_among : (text : List ℕ) → text_of (get_or subjects place d) ≡ text → has bytes_cmp text (subject_texts subjects) ≡ true
  text_among text same =
      let here : get_or (subject_texts subjects) place [] ≡ text = get_or-map text_of subjects place d [] within ∙ same in
      list_any_at (eq_by_cmp bytes_cmp text) (subject_texts subjects) place [] (omega (arith, within, length-map subjects text_of))
      (ap (λ t. is_eq (bytes_cmp text t)) here ∙ ap is_eq (tied_itself nat_list_cmp_total text))

  pub text_there : (text : List ℕ) → slice_get (subject_texts subjects) place ≡ Some text → text_of (get_or subjects place d) ≡ text
  text_there text e = some_same (text_of (get_or subjects place d)) text (sym at_place ∙ e)

-- the first place where a text stands is the first of those that aren't below it
pub first_found : (subjects : List SubjectText) (place : ℕ) (d : SubjectText) (text : List ℕ) → IsSorted subject_cmp subjects → place < length subjects → (get_or subjects place d).text.now ≡ text
    → has bytes_cmp text (subject_texts (take place subjects)) ≡ false → IsFirst (subject_texts subjects) place text
first_found subjects place d text sorted within same none = record {
  there = at_place subjects place d within ∙ ap Some same;
  below = λ k other l e.
      let k_within : k < length subjects = omega (arith, l, within) in
      let is : (get_or subjects k d).text.now ≡ other = text_there subjects k d k_within other e in
      let far = sorted_far (λ a b. is_lt (subject_cmp a b)) (ranks_by nat_list_cmp_total (λ (s : SubjectText). s.text.now)) subjects sorted k place d (omega (arith, l)) within in
      by k other l is ((λ i. is_lt (bytes_cmp (sym same i) (sym is i))) ∙ far) (bytes_cmp other text) refl;
}
  where
    by : (k : ℕ) (other : List ℕ) → k < place → (get_or subjects k d).text.now ≡ other → is_lt (bytes_cmp text other) ≡ false → (r : Ordering) → bytes_cmp other text ≡ r → bytes_cmp other text ≡ Less
    by k other l is far Less e = e
    by k other l is far Equal e =
        let there : get_or (take place subjects) k d ≡ get_or subjects k d = get_or-take place subjects k d l in
        absurd (true≢false (sym (text_among (take place subjects) k d (omega (arith, l, within, length-take place subjects)) text
        (ap (λ (s : SubjectText). s.text.now) there ∙ is ∙ slice_cmp-IsAntisymmetric nat_cmp-IsAntisymmetric other text e)) ∙ none))
    by k other l is far Greater e = absurd (true≢false (sym (ap is_lt (turned nat_list_cmp_total other text Greater e)) ∙ far))

-- no text stands behind all of them
pub none_behind : (subjects : List SubjectText) (place : ℕ) (text : List ℕ) → length subjects ≤ place → slice_get (subject_texts subjects) place ≡ Some text → ⊥
none_behind subjects place text behind e =
    let none : slice_get (subject_texts subjects) place ≡ None = slice_get_past (subject_texts subjects) place (omega (arith, behind, length-map subjects (λ (s : SubjectText). s.text.now))) in
    absurd (true≢false (sym (ap is_some e) ∙ ap is_some none))

-- one subject more that is another
pub still_none : (subjects : List SubjectText) (place : ℕ) (d : SubjectText) (text : List ℕ) → place < length subjects → has bytes_cmp text (subject_texts (take place subjects)) ≡ false
    → ((get_or subjects place d).text.now ≡ text → ⊥) → has bytes_cmp text (subject_texts (take (place + 1) subjects)) ≡ false
still_none subjects place d text within so_far other =
    let x = (get_or subjects place d).text.now in
    ap (λ l. has bytes_cmp text (subject_texts l)) (take_more subjects place d within)
    ∙ ap (has bytes_cmp text) (map-append (λ (s : SubjectText). s.text.now) (take place subjects) (get_or subjects place d ∷ []))
    ∙ has-append bytes_cmp text (subject_texts (take place subjects)) (x ∷ [])
    ∙ or_false (has bytes_cmp text (subject_texts (take place subjects))) (eq_by_cmp bytes_cmp text x || false) so_far (or_false (eq_by_cmp bytes_cmp text x) false (by (eq_by_cmp bytes_cmp text x) refl) refl)
  where
    by : (b : Bool) → eq_by_cmp bytes_cmp text (get_or subjects place d).text.now ≡ b → b ≡ false
    by false e = refl
    by true e = absurd (other (sym (slice_cmp-IsAntisymmetric nat_cmp-IsAntisymmetric text (get_or subjects place d).text.now (equal (bytes_cmp text (get_or subjects place d).text.now) e))))

-- rows that are the same have one rank and one object
pub same_rows : (a b : Row) → eq_by_cmp row_cmp a b ≡ true → (a.rank ≡ b.rank) × (a.texts.object.now ≡ b.texts.object.now)
same_rows a b h =
    let e = equal (row_cmp a b) h in
    let rest = then_second (nat_cmp a.rank b.rank) (ordering_then (bytes_cmp a.texts.predicate.now b.texts.predicate.now) (bytes_cmp a.texts.object.now b.texts.object.now)) e in (
      nat_cmp-IsAntisymmetric a.rank b.rank (then_first (nat_cmp a.rank b.rank) (ordering_then (bytes_cmp a.texts.predicate.now b.texts.predicate.now) (bytes_cmp a.texts.object.now b.texts.object.now)) e),
      slice_cmp-IsAntisymmetric nat_cmp-IsAntisymmetric a.texts.object.now b.texts.object.now (then_second (bytes_cmp a.texts.predicate.now b.texts.predicate.now) (bytes_cmp a.texts.object.now b.texts.object.now) rest),
    )

-- one row more that is another
pub still_no_row : (rows : List Row) (place : ℕ) (d row : Row) → place < length rows → has row_cmp row (take place rows) ≡ false → eq_by_cmp row_cmp row (get_or rows place d) ≡ false → has row_cmp row (take (place + 1) rows) ≡ false
still_no_row rows place d row within so_far other =
    ap (has row_cmp row) (take_more rows place d within) ∙ has-append row_cmp row (take place rows) (get_or rows place d ∷ [])
    ∙ or_false (has row_cmp row (take place rows)) (eq_by_cmp row_cmp row (get_or rows place d) || false) so_far (or_false (eq_by_cmp row_cmp row (get_or rows place d)) false other refl)
