-- Triples by their texts, with the ranks of their subjects.
use Rattle.std.specs.Prelude.{◌≡◌, ℕ, ◌<◌, Bool, count_by, nat_lt, List, [], ◌∷◌, ◌++◌, Some, slice_get, map}
use Rattle.std.specs.declared.cmp.Ordering.{Ordering}
use Rattle.std.specs.declared.cmp.Ordering.TheVariants.{Less}
use Rattle.std.specs.Ordering.{eq_by_cmp, nat_cmp, on, then_cmp}
use Rattle.std.specs.{Cmp.IsTotalOrder, Cmp.nat_cmp_total, Cmp.on_total, Cmp.then_total, Cmp.Lexicographic.nat_list_cmp_total}
use Rattle.rdf_term.specs.{declared.triple.Triple.Triple, Order.bytes_cmp, Text.term_text, Undo.undo}
use Rattle.triple_texts.specs.declared.triple_text.TripleText.{TripleText}
use Rattle.page_parts.specs.declared.row.Row.{Row}
use Rattle.page_parts.specs.declared.subjects.SubjectText.{SubjectText}

-- by the rank of the subject, then by the predicate's text, then by the object's
abbrev pub row_cmp : Row → Row → Ordering
row_cmp = then_cmp (on (λ row. row.rank) nat_cmp) (then_cmp (on (λ row. row.texts.predicate.now) bytes_cmp) (on (λ row. row.texts.object.now) bytes_cmp))

-- the order is total
pub row_cmp-total : IsTotalOrder row_cmp
row_cmp-total = then_total (on_total (λ row. row.rank) nat_cmp_total) (then_total (on_total (λ row. row.texts.predicate.now) nat_list_cmp_total) (on_total (λ row. row.texts.object.now) nat_list_cmp_total))

-- subjects by their texts
abbrev pub subject_cmp : SubjectText → SubjectText → Ordering
subject_cmp = on (λ subject. subject.text.now) bytes_cmp

-- the texts of subjects
abbrev pub subject_texts : List SubjectText → List (List ℕ)
subject_texts subjects = map (λ subject. subject.text.now) subjects

-- the triple of three texts
abbrev pub row_triple : Row → Triple
row_triple row = record { subject = undo row.texts.subject.now; predicate = undo row.texts.predicate.now; object = undo row.texts.object.now }

-- the text stands at this place, and those before it are below
pub record IsFirst (texts : List (List ℕ)) (place : ℕ) (text : List ℕ) : Type 0 where
  pub there : slice_get texts place ≡ Some text
  pub below : (k : ℕ) (other : List ℕ) → k < place → slice_get texts k ≡ Some other → bytes_cmp other text ≡ Less

-- the same, by the text
abbrev pub IsFirstOf : List (List ℕ) → List ℕ → ℕ → Type 0
IsFirstOf texts text place = IsFirst texts place text

-- the texts of a row are the canonical ones of its terms
pub record HasCanonicalTexts (row : Row) : Type 0 where
  pub subject : term_text (undo row.texts.subject.now) ≡ row.texts.subject.now
  pub predicate : term_text (undo row.texts.predicate.now) ≡ row.texts.predicate.now
  pub object : term_text (undo row.texts.object.now) ≡ row.texts.object.now

-- so they are, and the rank is the first place of the subject's text
pub record IsRanked (texts : List (List ℕ)) (row : Row) : Type 0 where
  pub place : IsFirst texts row.rank row.texts.subject.now
  pub canonical : HasCanonicalTexts row

-- the line of a triple by its texts: each with a space after it, then `.` and LF
abbrev pub line_of : TripleText → List ℕ
line_of texts = (texts.subject.now ++ 32 ∷ []) ++ (texts.predicate.now ++ 32 ∷ []) ++ (texts.object.now ++ 32 ∷ []) ++ 46 ∷ 10 ∷ []

-- whether the first rows have the row more often than the second
abbrev pub row_has_more : List Row → List Row → Row → Bool
row_has_more many few row = nat_lt (count_by (eq_by_cmp row_cmp row) few) (count_by (eq_by_cmp row_cmp row) many)
