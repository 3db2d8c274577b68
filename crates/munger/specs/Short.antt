-- Terms whose texts have a bounded length.
use Rattle.std.specs.Prelude.{◌≡◌, ◌≤◌, Bool, true, length, nat_le}
use Rattle.rdf_term.specs.declared.term.Term.{Term}
use Rattle.rdf_term.specs.declared.term.Term.TheVariants.{Iri, Blank, Plain, Lang, Typed}
use Rattle.rdf_term.specs.declared.triple.Triple.{Triple}
use Rattle.rdf_term.specs.Text.{term_text}

-- the term's canonical text has at most 32 MiB
pub record IsShort (term : Term) : Type 0 where
  pub text : length (term_text term) ≤ 33554432

-- so have those of the three terms of a triple
pub record HasShortTerms (triple : Triple) : Type 0 where
  pub subject : IsShort triple.subject
  pub predicate : IsShort triple.predicate
  pub object : IsShort triple.object

-- whether the label has at most 32 bytes, where the term is a blank node
abbrev pub has_short_label : Term → Bool
has_short_label (Blank label) = nat_le (length label) 32
has_short_label (Iri iri) = true
has_short_label (Plain text) = true
has_short_label (Lang text tag) = true
has_short_label (Typed text datatype) = true

-- so have those of a triple's blank nodes
pub record HasShortLabels (triple : Triple) : Type 0 where
  pub subject : has_short_label triple.subject ≡ true
  pub predicate : has_short_label triple.predicate ≡ true
  pub object : has_short_label triple.object ≡ true
