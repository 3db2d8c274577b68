-- The rows so far, and the rank of the last one.
use Rattle.std.proofs.Common.{◌≡◌, ℕ, ◌+◌, take}
use Rattle.std.specs.Prelude.{map}
use Rattle.std.specs.List.{All}
use Rattle.page_parts.specs.Row.{IsRanked, row_triple, subject_texts}
use Rattle.page_parts.specs.Rows.{IsRankAt}
use Rattle.page_parts.proofs.rows.listed_rows.Given as goal

abbrev pub invariant-loop-index : goal.invariant-loop-index
invariant-loop-index l = record {
  triples : map row_triple l.rows.items ≡ take l.index l.texts;
  ranked : All (IsRanked (subject_texts l.subjects)) l.rows.items;
  before : (k : ℕ) → k + 1 ≡ l.index → IsRankAt (subject_texts l.subjects) l.texts k l.rank;
}
