-- Triples of slots, and the triples that they stand for in a pool and the region of its texts.
use Rattle.std.specs.Prelude.{◌≡◌, ℕ, ◌+◌, ◌==◌, true, List, [], Option, None, Some, sum_by}
use Rattle.std.specs.FinMap as map
use Rattle.sorted_sets.specs.Rising.{has}
use Rattle.rdf_term.specs.{declared.term.Term.Term, declared.term.Term.TheVariants.Blank, declared.triple.Triple.Triple, Order.term_cmp}
use Rattle.rdf_term.specs.{Text.term_text, Undo.undo}
use Rattle.text_region.specs.Region.{Texts}
use Rattle.term_pool.specs.{declared.pool.Pool.Pool, Pool.IsCanonical, Pool.one_if, Pool.text_in_slot}
use Rattle.slot_keys.specs.declared.key.Key.{Key}
use Rattle.triple_texts.specs.declared.triple_text.TripleText.{TripleText}
use Rattle.triple_catalog.specs.{Counts.Counts, Room.terms_of}

-- the term of a canonical text; where there is none it is some term
abbrev pub term_in : Option (List ℕ) → Term
term_in None = Blank []
term_in (Some text) = undo text

-- the triple of the terms in three slots
unfoldable pub triple_at : Pool → Texts → Key → Triple
triple_at pool texts key = record {
  subject = term_in (text_in_slot pool texts key.first);
  predicate = term_in (text_in_slot pool texts key.second);
  object = term_in (text_in_slot pool texts key.third);
}

-- the three slots have the texts of the triple's terms
pub record HasTriple (pool : Pool) (texts : Texts) (key : Key) (triple : Triple) : Type 0 where
  pub subject : text_in_slot pool texts key.first ≡ Some (term_text triple.subject)
  pub predicate : text_in_slot pool texts key.second ≡ Some (term_text triple.predicate)
  pub object : text_in_slot pool texts key.third ≡ Some (term_text triple.object)

-- at how many places a slot stands in a triple, and in triples
abbrev pub uses : ℕ → Key → ℕ
uses slot key = one_if (key.first == slot) + (one_if (key.second == slot) + one_if (key.third == slot))

abbrev pub used : List Key → ℕ → ℕ
used keys slot = sum_by (uses slot) keys

-- the triple of three texts
abbrev pub triple_of : TripleText → Triple
triple_of of = record { subject = undo of.subject.now; predicate = undo of.predicate.now; object = undo of.object.now }

-- each of the three is the text of a fit and short term
pub record HasCanonicalTexts (of : TripleText) : Type 0 where
  pub subject : IsCanonical of.subject.now
  pub predicate : IsCanonical of.predicate.now
  pub object : IsCanonical of.object.now

-- the three slots have these texts
pub record HasTexts (pool : Pool) (texts : Texts) (key : Key) (of : TripleText) : Type 0 where
  pub subject : text_in_slot pool texts key.first ≡ Some of.subject.now
  pub predicate : text_in_slot pool texts key.second ≡ Some of.predicate.now
  pub object : text_in_slot pool texts key.third ≡ Some of.object.now

-- each term of the first list is in the second
pub record IsAllOf (some all : List Term) : Type 0 where
  pub each : (term : Term) → has term_cmp term some ≡ true → has term_cmp term all ≡ true

-- the list has each term of a stored triple
pub record HasTermsIn (counts : Counts) (terms : List Term) : Type 0 where
  pub each : (triple : Triple) → map.contains_key counts triple ≡ true → IsAllOf (terms_of triple) terms
