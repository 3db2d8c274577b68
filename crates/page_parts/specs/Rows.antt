-- Rows of a page's triples.
use Rattle.std.specs.Prelude.{◌≡◌, ℕ, ◌<◌, true, List, Some, slice_get, map}
use Rattle.std.specs.List.{All}
use Rattle.sorted_sets.specs.Rising.{IsRising, difference, has, sorted}
use Rattle.rdf_term.specs.{declared.triple.Triple.Triple, Order.bytes_cmp, Order.triple_cmp, Text.term_text}
use Rattle.page_parts.specs.declared.changing.RowChange.{RowChange}
use Rattle.page_parts.specs.declared.row.Row.{Row}
use Rattle.page_parts.specs.Row.{IsFirst, IsRanked, row_cmp, row_triple}
use Rattle.triple_catalog.specs.Lines.{AreLinesOf}

-- the subjects of the first triples, so many as it says, are among the texts
abbrev pub HaveSubjects : List (List ℕ) → List Triple → ℕ → Type 0
HaveSubjects texts triples count = (k : ℕ) (triple : Triple) → k < count → slice_get triples k ≡ Some triple → has bytes_cmp (term_text triple.subject) texts ≡ true

-- this is the first place of the subject of the triple at an index
abbrev pub IsRankAt : List (List ℕ) → List Triple → ℕ → ℕ → Type 0
IsRankAt texts triples index rank = (triple : Triple) → slice_get triples index ≡ Some triple → IsFirst texts rank (term_text triple.subject)

-- the rows are those of the triples, each once, in order
pub record AreRowsOf (texts : List (List ℕ)) (rows : List Row) (triples : List Triple) : Type 0 where
  pub ranked : All (IsRanked texts) rows
  pub rising : IsRising row_cmp rows
  pub all : map row_triple rows ≡ sorted triple_cmp triples

-- the lines of the triples that the new ones have alone, and of those that the old ones have alone
pub record IsRowChange (old new : List Triple) (change : RowChange) : Type 0 where
  pub came : AreLinesOf change.came (difference triple_cmp (sorted triple_cmp new) (sorted triple_cmp old))
  pub gone : AreLinesOf change.gone (difference triple_cmp (sorted triple_cmp old) (sorted triple_cmp new))
