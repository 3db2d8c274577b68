-- Triples by the texts of their terms: their order, their lines, and rows of them.
use Rattle.std.specs.Prelude.{ℕ, List, [], ◌∷◌, ◌++◌}
use Rattle.std.specs.Prelude.{map as mapped}
use Rattle.std.specs.{List.All, declared.cmp.Ordering.Ordering, Cmp.IsTotalOrder, Cmp.on_total, Cmp.then_total}
use Rattle.std.specs.{Cmp.Lexicographic.nat_list_cmp_total, Ordering.on, Ordering.then_cmp}
use Rattle.sorted_sets.specs.Rising.{IsRising}
use Rattle.rdf_term.specs.{declared.triple.Triple.Triple, Order.bytes_cmp, Order.triple_cmp}
use Rattle.triple_texts.specs.declared.triple_text.TripleText.{TripleText}
use Rattle.triple_catalog.specs.declared.rows.Found.{Found}
use Rattle.triple_catalog.specs.declared.rows.Found.TheVariants.{ByTexts, ByRanks}
use Rattle.triple_catalog.specs.{Ranks.AreRankedRows, Ranks.ranked_triples, Slots.HasCanonicalTexts, Slots.triple_of}

-- by the subject's text, then the predicate's, then the object's
abbrev pub text_cmp : TripleText → TripleText → Ordering
text_cmp = then_cmp (on (λ row. row.subject.now) bytes_cmp) (then_cmp (on (λ row. row.predicate.now) bytes_cmp) (on (λ row. row.object.now) bytes_cmp))

-- the order is total
pub text_cmp-total : IsTotalOrder text_cmp
text_cmp-total = then_total (on_total (λ row. row.subject.now) nat_list_cmp_total) (then_total (on_total (λ row. row.predicate.now) nat_list_cmp_total) (on_total (λ row. row.object.now) nat_list_cmp_total))

-- the line of a triple by its texts: each with a space after it, then `.` and LF
abbrev pub line_of : TripleText → List ℕ
line_of row = (row.subject.now ++ 32 ∷ []) ++ (row.predicate.now ++ 32 ∷ []) ++ (row.object.now ++ 32 ∷ []) ++ 46 ∷ 10 ∷ []

-- the triples that are found: by their texts, or by the ranks of their terms
abbrev pub found_triples : Found → List Triple
found_triples (ByTexts rows) = mapped triple_of rows.items
found_triples (ByRanks ranked) = ranked_triples ranked

-- the texts are canonical, and the triples rise strictly
pub record AreRows (rows : List TripleText) : Type 0 where
  pub canonical : All HasCanonicalTexts rows
  pub rising : IsRising triple_cmp (mapped triple_of rows)

-- what is found can be read, and rises strictly
abbrev pub AreFound : Found → Type 0
AreFound (ByTexts rows) = AreRows rows.items
AreFound (ByRanks ranked) = AreRankedRows ranked × IsRising triple_cmp (ranked_triples ranked)
