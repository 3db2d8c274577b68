-- The parts of a triple's line.
use Rattle.std.proofs.Common.{◌≡◌, ◌↔◌, ℕ, List, [], ◌∷◌, ◌++◌, Option, Some, None, IfSome, MatchOption, sym, ◌∙◌, ap, append_assoc}
use Rattle.rdf_term.specs.{declared.triple.Triple.Triple, Text.spaced, Text.term_text, Text.triple_text}
use Rattle.triple_texts.specs.declared.triple_text.TripleText.{TripleText}
use Rattle.replica.specs.TripleLine.{AreTermTexts, IsTripleLine, triple_line}

-- three texts with the spaces and the full stop of a line
abbrev pub joined : List ℕ → List ℕ → List ℕ → List ℕ
joined subject predicate object = subject ++ 32 ∷ (predicate ++ 32 ∷ (object ++ 32 ∷ 46 ∷ []))

pub line_joins : (triple : Triple) → triple_line triple ≡ joined (term_text triple.subject) (term_text triple.predicate) (term_text triple.object)
unfolding triple_line
line_joins triple i = joined (term_text triple.subject) (term_text triple.predicate) (term_text triple.object)

-- with a line feed it is the triple's text
pub line_text : (triple : Triple) → triple_line triple ++ 10 ∷ [] ≡ triple_text triple
unfolding triple_line
line_text triple =
    let s = term_text triple.subject in
    let p = term_text triple.predicate in
    let o = term_text triple.object in
    append_assoc s (32 ∷ (p ++ 32 ∷ (o ++ 32 ∷ 46 ∷ []))) (10 ∷ [])
    ∙ ap (λ l. s ++ 32 ∷ l) (append_assoc p (32 ∷ (o ++ 32 ∷ 46 ∷ [])) (10 ∷ []) ∙ ap (λ l. p ++ 32 ∷ l) (append_assoc o (32 ∷ 46 ∷ []) (10 ∷ [])))
    ∙ sym (
    append_assoc (spaced triple.subject ++ spaced triple.predicate) (spaced triple.object) (46 ∷ 10 ∷ [])
    ∙ append_assoc (spaced triple.subject) (spaced triple.predicate) (spaced triple.object ++ 46 ∷ 10 ∷ [])
    ∙ append_assoc s (32 ∷ []) (spaced triple.predicate ++ (spaced triple.object ++ 46 ∷ 10 ∷ []))
    ∙ ap (λ l. s ++ 32 ∷ l) (append_assoc p (32 ∷ []) (spaced triple.object ++ 46 ∷ 10 ∷ []) ∙ ap (λ l. p ++ 32 ∷ l) (append_assoc o (32 ∷ []) (46 ∷ 10 ∷ [])))
    )

-- the texts of a line are those of its triple
texts_of_line : (line : List ℕ) (texts : TripleText) → line ≡ joined texts.subject.now texts.predicate.now texts.object.now →
    ((triple : Triple) → IsTripleLine line triple → (texts.subject.now ≡ term_text triple.subject) × (texts.predicate.now ≡ term_text triple.predicate) × (texts.object.now ≡ term_text triple.object)) →
    (triple : Triple) → IsTripleLine line triple ↔ AreTermTexts texts triple
texts_of_line line texts parts whole triple = (
  (λ is. let at = whole triple is in record {
    subject_is = record { text = at.0; readable = is.readable.subject };
    predicate_is = record { text = at.1; readable = is.readable.predicate };
    object_is = record { text = at.2; readable = is.readable.object };
  }),
  (λ has. record {
    text = parts ∙ rw (has.subject_is.text, has.predicate_is.text, has.object_is.text) (sym (line_joins triple));
    readable = record { subject = has.subject_is.readable; predicate = has.predicate_is.readable; object = has.object_is.readable };
  }),
)

pub texts_if : (line : List ℕ) (found : Option TripleText) → IfSome found (λ texts. line ≡ joined texts.subject.now texts.predicate.now texts.object.now) →
    ((triple : Triple) → IsTripleLine line triple → MatchOption found ⊥ (λ texts. (texts.subject.now ≡ term_text triple.subject) × (texts.predicate.now ≡ term_text triple.predicate) × (texts.object.now ≡ term_text triple.object))) →
    IfSome found (λ texts. (triple : Triple) → IsTripleLine line triple ↔ AreTermTexts texts triple)
texts_if line None parts whole = tt
texts_if line (Some texts) parts whole = texts_of_line line texts parts whole
