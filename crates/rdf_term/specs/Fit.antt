-- Which terms are fit: those that N-Triples can write so that reading gives them back.
use Rattle.std.specs.Prelude.{◌≡◌, ◌≤◌, Bool, true, not, ◌&&◌, List, ℕ, length, codes}
use Rattle.std.specs.Str.{bytes_eq}
use Rattle.rdf_term.specs.declared.term.Term.{Term}
use Rattle.rdf_term.specs.declared.term.Term.TheVariants.{Iri, Blank, Plain, Lang, Typed}
use Rattle.rdf_term.specs.declared.triple.Triple.{Triple}
use Rattle.rdf_term.specs.Grammar.{is_iri, is_label, is_tag}
use Rattle.rdf_term.specs.Text.{term_text}

-- the IRI of the datatype of plain literals
unfoldable pub xsd_string : List ℕ
xsd_string = codes "http://www.w3.org/2001/XMLSchema#string"

-- whether the IRI, the label, the tag or the datatype is one, and the datatype isn't that of plain literals
abbrev pub is_fit : Term → Bool
is_fit (Iri iri) = is_iri iri
is_fit (Blank label) = is_label label
is_fit (Plain text) = true
is_fit (Lang text tag) = is_tag tag
is_fit (Typed text datatype) = is_iri datatype && not (bytes_eq datatype xsd_string)

-- the term is fit, and its canonical text has at most 32 MiB
pub record IsFitAndShort (term : Term) : Type 0 where
  pub fit : is_fit term ≡ true
  pub short : length (term_text term) ≤ 33554432

-- so are the three terms of a triple
pub record HasFitAndShortTerms (triple : Triple) : Type 0 where
  pub subject : IsFitAndShort triple.subject
  pub predicate : IsFitAndShort triple.predicate
  pub object : IsFitAndShort triple.object
