-- The triples whose texts lie in a buffer.
use Rattle.std.specs.Prelude.{◌≡◌, ℕ, ◌+◌, ◌≤◌, List, length, take, drop}
use Rattle.rdf_term.specs.declared.term.Term.{Term}
use Rattle.rdf_term.specs.declared.triple.Triple.{Triple}
use Rattle.rdf_term.specs.Text.{term_text}
use Rattle.rdf_term.specs.Undo.{undo}
use Rattle.triple_texts.specs.declared.span.Span.{Span}
use Rattle.triple_texts.specs.declared.triple_spans.TripleSpans.{TripleSpans}

-- where a text ends
abbrev pub span_end : Span → ℕ
span_end span = span.start + span.len

-- the text that lies there
abbrev pub text_in : List ℕ → Span → List ℕ
text_in bytes span = take span.len (drop span.start bytes)

-- the triple whose texts lie at these spans
abbrev pub triple_in : List ℕ → TripleSpans → Triple
triple_in bytes spans = record { subject = undo (text_in bytes spans.subject); predicate = undo (text_in bytes spans.predicate); object = undo (text_in bytes spans.object) }

-- the texts lie whole in the buffer, and each is the canonical one of its term
pub record LieIn (bytes : List ℕ) (spans : TripleSpans) : Type 0 where
  pub subject_within : span_end spans.subject ≤ length bytes
  pub predicate_within : span_end spans.predicate ≤ length bytes
  pub object_within : span_end spans.object ≤ length bytes
  pub subject : term_text (undo (text_in bytes spans.subject)) ≡ text_in bytes spans.subject
  pub predicate : term_text (undo (text_in bytes spans.predicate)) ≡ text_in bytes spans.predicate
  pub object : term_text (undo (text_in bytes spans.object)) ≡ text_in bytes spans.object

-- the text of a term lies there
pub record IsSpanOf (bytes : List ℕ) (term : Term) (span : Span) : Type 0 where
  pub within : span_end span ≤ length bytes
  pub is : text_in bytes span ≡ term_text term

-- the texts of a triple lie there
pub record AreSpansOf (bytes : List ℕ) (triple : Triple) (spans : TripleSpans) : Type 0 where
  pub subject : IsSpanOf bytes triple.subject spans.subject
  pub predicate : IsSpanOf bytes triple.predicate spans.predicate
  pub object : IsSpanOf bytes triple.object spans.object
