-- What rows of a page's triples have alone.
use Rattle.std.proofs.Common.{◌≡◌, ℕ, ◌+◌, ◌<◌, true, false, not, List, [], ◌∷◌, ◌++◌, length, take, get_or, refl, ap, sym, ◌∙◌, arith}
use Rattle.std.specs.Prelude.{map}
use Rattle.std.specs.List.{All}
use Rattle.std.proofs.lemmas.List.Elements.{All-filter, All-weaker}
use Rattle.sorted_sets.specs.Rising.{difference, has, sorted}
use Rattle.rdf_term.specs.{declared.triple.Triple.Triple, Order.triple_cmp}
use Rattle.slot_keys.proofs.Lists.{difference_more, difference_same}
use Rattle.page_parts.specs.declared.row.Row.{Row}
use Rattle.page_parts.specs.Row.{HasCanonicalTexts, IsRanked, row_cmp, row_cmp-total, row_triple}
use Rattle.page_parts.specs.Rows.{AreRowsOf}
use Rattle.page_parts.proofs.{Lifting.difference_lifted, Ranking.rows_ordered}

-- the texts of ranked rows are canonical
pub all_canonical : (texts : List (List ℕ)) (rows : List Row) → All (IsRanked texts) rows → All HasCanonicalTexts rows
all_canonical texts rows all = All-weaker (IsRanked texts) HasCanonicalTexts (λ row h. h.canonical) rows all

-- so are those of the ones that aren't among others
pub without_canonical : (rows others : List Row) → All HasCanonicalTexts rows → All HasCanonicalTexts (difference row_cmp rows others)
without_canonical rows others all = All-filter (λ row. not (has row_cmp row others)) HasCanonicalTexts rows all

-- none of them is among no others
pub without_none : (rows others : List Row) → length others ≡ 0 → rows ≡ difference row_cmp rows others
without_none [] others none = refl
without_none (row ∷ rows) [] none = ap (λ l. row ∷ l) (without_none rows [] none)
without_none (row ∷ rows) (other ∷ others) none = absurd (omega (arith, none))

-- the rows that aren't among others are those of the triples that the others don't have
pub rows_changed : (texts : List (List ℕ)) (rows others : List Row) (triples those : List Triple) → AreRowsOf texts rows triples → AreRowsOf texts others those
    → map row_triple (difference row_cmp rows others) ≡ difference triple_cmp (sorted triple_cmp triples) (sorted triple_cmp those)
rows_changed texts rows others triples those h k =
    difference_lifted row_cmp triple_cmp row_triple (IsRanked texts) (rows_ordered texts) rows others h.ranked k.ranked
    ∙ (λ i. difference triple_cmp (h.all i) (k.all i))

-- one row more: it is among the others, or it isn't
module _ (rows others found : List Row) (i : ℕ) (d : Row) (within : i < length rows) (so_far : found ≡ difference row_cmp (take i rows) others) where
  pub row_among : has row_cmp (get_or rows i d) others ≡ true → found ≡ difference row_cmp (take (i + 1) rows) others
  row_among there = so_far ∙ sym (difference_same row_cmp-total rows others i d within there)

  pub row_alone : has row_cmp (get_or rows i d) others ≡ false → (new : List Row) → new ≡ found ++ get_or rows i d ∷ [] → new ≡ difference row_cmp (take (i + 1) rows) others
  row_alone out new pushed = pushed ∙ ap (λ l. l ++ get_or rows i d ∷ []) so_far ∙ sym (difference_more row_cmp-total rows others i d within out)
