-- Lines of triples in order, and the next one of two lists of them.
use Rattle.std.specs.Prelude.{◌≡◌, List, ◌∷◌, ◌++◌, flat_map}
use Rattle.std.specs.List.{AllByRecursion}
use Rattle.sorted_sets.specs.Rising.{IsRising, sorted}
use Rattle.rdf_term.specs.{declared.triple.Triple.Triple, Fit.HasFitAndShortTerms, Order.triple_cmp, Text.triple_text}
use Rattle.parts_exchange.specs.declared.merging.NextLine.{NextLine}

-- the triples rise, and their terms are fit, so that their lines rise too
pub record AreOrderedLines (triples : List Triple) : Type 0 where
  pub rising : IsRising triple_cmp triples
  pub fit : AllByRecursion HasFitAndShortTerms triples

-- the line is that of the least triple of both lists, and the rest is that of the others
pub record IsNext (some others : List Triple) (next : NextLine) : Type 0 where
  pub triple : Triple
  pub left : List Triple
  pub right : List Triple
  pub line_is : next.line.now ≡ triple_text triple
  pub left_is : next.left.now ≡ flat_map triple_text left
  pub right_is : next.right.now ≡ flat_map triple_text right
  pub left_ordered : AreOrderedLines left
  pub right_ordered : AreOrderedLines right
  pub all : sorted triple_cmp (some ++ others) ≡ triple ∷ sorted triple_cmp (left ++ right)
