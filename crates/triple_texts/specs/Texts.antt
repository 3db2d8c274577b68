-- The texts of a triple.
use Rattle.std.specs.Prelude.{◌≡◌, ℕ, ◌-◌, ◌<◌, List, Some, slice_get}
use Rattle.rdf_term.specs.declared.triple.Triple.{Triple}
use Rattle.rdf_term.specs.Text.{term_text}
use Rattle.triple_texts.specs.declared.triple_text.TripleText.{TripleText}

-- each text is the canonical one of the triple's term
pub record IsTextOf (texts : TripleText) (triple : Triple) : Type 0 where
  pub subject : texts.subject.now ≡ term_text triple.subject
  pub predicate : texts.predicate.now ≡ term_text triple.predicate
  pub object : texts.object.now ≡ term_text triple.object

-- the triple at an index has the subject of the one before it
pub record RepeatsSubject (triples : List Triple) (index : ℕ) : Type 0 where
  pub later : 0 < index
  pub before : Triple
  pub this : Triple
  pub is_before : slice_get triples (index - 1) ≡ Some before
  pub is_this : slice_get triples index ≡ Some this
  pub same : this.subject ≡ before.subject
