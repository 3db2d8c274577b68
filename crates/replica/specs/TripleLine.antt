-- The line that a triple has in a record.
use Rattle.std.specs.Prelude.{◌≡◌, ℕ, List, [], ◌∷◌, ◌++◌}
use Rattle.std.specs.Str.{IsUtf8}
use Rattle.rdf_term.specs.{declared.term.Term.Term, declared.triple.Triple.Triple, Fit.IsFitAndShort, Text.term_text}
use Rattle.triple_sink.specs.TermRef.{meant_triple}
use Rattle.triple_texts.specs.declared.triple_text.TripleText.{TripleText}
use Rattle.replica.specs.declared.triple_line.TripleRef.{TripleRef}

-- the term is fit and short, and its canonical text is UTF-8, as that of each term in memory is
pub record IsReadable (term : Term) : Type 0 where
  pub canonical : IsFitAndShort term
  pub utf8 : IsUtf8 (term_text term)

-- so are the three terms of a triple
pub record HasReadableTerms (triple : Triple) : Type 0 where
  pub subject : IsReadable triple.subject
  pub predicate : IsReadable triple.predicate
  pub object : IsReadable triple.object

-- the line of a triple, without its line feed: its terms, each with a space after it, then `.`
unfoldable pub triple_line : Triple → List ℕ
triple_line triple = term_text triple.subject ++ 32 ∷ (term_text triple.predicate ++ 32 ∷ (term_text triple.object ++ 32 ∷ 46 ∷ []))

-- the bytes are the canonical text of the term
pub record IsTermText (bytes : List ℕ) (term : Term) : Type 0 where
  pub text : bytes ≡ term_text term
  pub readable : IsReadable term

-- the line is that of the triple
pub record IsTripleLine (line : List ℕ) (triple : Triple) : Type 0 where
  pub text : line ≡ triple_line triple
  pub readable : HasReadableTerms triple

-- these are the canonical texts of the triple's terms
pub record AreTermTexts (texts : TripleText) (triple : Triple) : Type 0 where
  pub subject_is : IsTermText texts.subject.now triple.subject
  pub predicate_is : IsTermText texts.predicate.now triple.predicate
  pub object_is : IsTermText texts.object.now triple.object

-- the triple that borrowed terms stand for
abbrev pub borrowed : TripleRef → Triple
borrowed triple = meant_triple triple.subject triple.predicate triple.object
