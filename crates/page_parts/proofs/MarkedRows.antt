-- The triples that only one of two lists has, by their rows.
use Rattle.std.proofs.Common.{◌≡◌, ℕ, Bool, true, false, not, cond, List, [], ◌∷◌, Some, is_eq, refl, sym, ◌∙◌, ap, arith, true≢false}
use Rattle.std.specs.Prelude.{map, slice_get}
use Rattle.std.specs.Cmp.Lexicographic.{nat_list_cmp_total}
use Rattle.std.specs.List.{All}
use Rattle.std.specs.Ordering.{eq_by_cmp}
use Rattle.std.proofs.Math.Bool.{beq}
use Rattle.std.proofs.lemmas.Cmp.{tied_itself}
use Rattle.std.proofs.lemmas.List.Elements.{All-tail}
use Rattle.std.proofs.lemmas.List.Folds.{list_any_at}
use Rattle.std.proofs.lemmas.Option.{get_or_from_slice_get, slice_get_within}
use Rattle.sorted_sets.specs.Rising.{has}
use Rattle.sorted_sets.proofs.{Bools.equal, Bools.or_false, Rising.has-sorted}
use Rattle.rdf_term.specs.{declared.triple.Triple.Triple, Order.bytes_cmp, Order.triple_cmp, Order.triple_cmp-total, Text.term_text}
use Rattle.rdf_term.proofs.Texts.{triple_cmp-IsAntisymmetric}
use Rattle.triple_texts.specs.declared.triple_text.TripleText.{TripleText}
use Rattle.triple_texts.specs.Texts.{IsTextOf}
use Rattle.page_parts.specs.declared.row.Row.{Row}
use Rattle.page_parts.specs.{InOne.in_one, Row.IsFirst, Row.IsRanked, Row.row_cmp, Row.row_triple, Rows.AreRowsOf}
use Rattle.page_parts.proofs.{Lifting.has_lifted, Ranking.row_canonical, Ranking.row_means, Ranking.rows_ordered}

-- a text that stands at a place is among them
text_at_place : (texts : List (List ℕ)) (place : ℕ) (text : List ℕ) → slice_get texts place ≡ Some text → has bytes_cmp text texts ≡ true
text_at_place texts place text e =
    list_any_at (eq_by_cmp bytes_cmp text) texts place [] (slice_get_within texts place text e)
    (ap (λ t. is_eq (bytes_cmp text t)) (get_or_from_slice_get texts place text [] e) ∙ ap is_eq (tied_itself nat_list_cmp_total text))

-- a triple whose subject no row has is not marked
module _ (texts : List (List ℕ)) (t : Triple) (none : has bytes_cmp (term_text t.subject) texts ≡ false) where
  differs : (row : Row) → IsRanked texts row → eq_by_cmp triple_cmp t (row_triple row) ≡ false
  differs row ranked = by (eq_by_cmp triple_cmp t (row_triple row)) refl
    where
      by : (b : Bool) → eq_by_cmp triple_cmp t (row_triple row) ≡ b → b ≡ false
      by false e = refl
      by true e =
          let same : t ≡ row_triple row = triple_cmp-IsAntisymmetric t (row_triple row) (equal (triple_cmp t (row_triple row)) e) in
          let text : term_text t.subject ≡ row.texts.subject.now = ap (λ (u : Triple). term_text u.subject) same ∙ ranked.canonical.subject in
          absurd (true≢false (sym (text_at_place texts row.rank row.texts.subject.now ranked.place.there) ∙ ap (λ s. has bytes_cmp s texts) (sym text) ∙ none))

  no_row : (rows : List Row) → All (IsRanked texts) rows → has triple_cmp t (map row_triple rows) ≡ false
  no_row [] all = refl
  no_row (row ∷ rows) all =
      or_false (eq_by_cmp triple_cmp t (row_triple row)) (has triple_cmp t (map row_triple rows)) (differs row (all 0 row (omega arith))) (no_row rows (All-tail (IsRanked texts) row rows all))

  pub in_neither : (first second : List Row) → All (IsRanked texts) first → All (IsRanked texts) second → false ≡ in_one (map row_triple first) (map row_triple second) t
  in_neither first second h k =
      let one : has triple_cmp t (map row_triple first) ≡ false = no_row first h in
      let two : has triple_cmp t (map row_triple second) ≡ false = no_row second k in
      sym (ap (λ b. cond b (not (has triple_cmp t (map row_triple second))) (has triple_cmp t (map row_triple second))) one ∙ two)

-- two answers that differ
unlike : (a b : Bool) → not (beq a b) ≡ cond a (not b) b
unlike true true = refl
unlike true false = refl
unlike false true = refl
unlike false false = refl

-- a row is looked for in place of its triple
module _ (texts : List (List ℕ)) (t : Triple) (rank : ℕ) (row : TripleText) (its : IsTextOf row t) (first_place : IsFirst texts rank row.subject.now) where
  among : (rows : List Row) → All (IsRanked texts) rows → has row_cmp (record { rank = rank; texts = row }) rows ≡ has triple_cmp t (map row_triple rows)
  among rows all =
      let ranked : IsRanked texts (record { rank = rank; texts = row }) = record { place = first_place; canonical = row_canonical rank row t its } in
      has_lifted row_cmp triple_cmp row_triple (IsRanked texts) (rows_ordered texts) (record { rank = rank; texts = row }) ranked rows all
      ∙ ap (λ u. has triple_cmp u (map row_triple rows)) (row_means rank row t its)

  pub marked : (first second : List Row) (a b : Bool) → All (IsRanked texts) first → All (IsRanked texts) second
      → a ≡ has row_cmp (record { rank = rank; texts = row }) first → b ≡ has row_cmp (record { rank = rank; texts = row }) second
      → not (beq a b) ≡ in_one (map row_triple first) (map row_triple second) t
  marked first second a b h k a_is b_is = unlike a b ∙ (λ i. cond ((a_is ∙ among first h) i) (not ((b_is ∙ among second k) i)) ((b_is ∙ among second k) i))

-- what rows of two lists mark, only one of the lists has
pub marks_of : (texts : List (List ℕ)) (first second : List Row) (xs ys : List Triple) (t : Triple) → AreRowsOf texts first xs → AreRowsOf texts second ys
    → in_one (map row_triple first) (map row_triple second) t ≡ in_one xs ys t
marks_of texts first second xs ys t h k =
    let one : has triple_cmp t (map row_triple first) ≡ has triple_cmp t xs = ap (has triple_cmp t) h.all ∙ has-sorted triple_cmp-total t xs in
    let two : has triple_cmp t (map row_triple second) ≡ has triple_cmp t ys = ap (has triple_cmp t) k.all ∙ has-sorted triple_cmp-total t ys in
    λ i. cond (one i) (not (two i)) (two i)
