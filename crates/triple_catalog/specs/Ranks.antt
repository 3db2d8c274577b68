-- Triples whose terms are named by their ranks: the indices in a rising list of texts.
use Rattle.std.specs.Prelude.{◌≡◌, ℕ, ◌<◌, List, [], length, Some, slice_index_or, map as mapped}
use Rattle.std.specs.{List.All, declared.cmp.Ordering.Ordering, Ordering.on}
use Rattle.rdf_term.specs.{declared.triple.Triple.Triple, Order.bytes_cmp, Undo.undo}
use Rattle.text_region.specs.Region.{Texts}
use Rattle.term_pool.specs.{declared.pool.Pool.Pool, Pool.IsCanonical, Pool.text_in_slot}
use Rattle.slot_keys.specs.{declared.key.Key.Key, declared.ranking.SlotText.SlotText}
use Rattle.triple_catalog.specs.declared.ranking.Ranked.{Ranked}

-- terms by their texts
abbrev pub text_order : SlotText → SlotText → Ordering
text_order = on (λ term. term.text.now) bytes_cmp

-- each slot has its text
abbrev pub AreTextsOf : Pool → Texts → List SlotText → Type 0
AreTextsOf pool texts = All (λ term. text_in_slot pool texts term.slot ≡ Some term.text.now)

-- the text with this rank
abbrev pub text_with : List SlotText → ℕ → List ℕ
text_with terms rank = slice_index_or (mapped (λ term. term.text.now) terms) rank []

-- the triple of the terms with three ranks
unfoldable pub triple_with : List SlotText → Key → Triple
triple_with terms key = record {
  subject = undo (text_with terms key.first);
  predicate = undo (text_with terms key.second);
  object = undo (text_with terms key.third);
}

-- the triples that the ranks stand for
abbrev pub ranked_triples : Ranked → List Triple
ranked_triples ranked = mapped (triple_with ranked.terms.items) ranked.keys.items

-- the three ranks are those of terms
pub record IsWithin (count : ℕ) (key : Key) : Type 0 where
  pub first : key.first < count
  pub second : key.second < count
  pub third : key.third < count

-- the texts are canonical, and each rank is that of a term
pub record AreRankedRows (ranked : Ranked) : Type 0 where
  pub canonical : All (λ term. IsCanonical term.text.now) ranked.terms.items
  pub within : All (IsWithin (length ranked.terms.items)) ranked.keys.items
