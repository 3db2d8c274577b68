-- Terms and triples whose texts are UTF-8.
use Rattle.std.specs.Str.{IsUtf8}
use Rattle.rdf_term.specs.declared.term.Term.{Term}
use Rattle.rdf_term.specs.declared.triple.Triple.{Triple}
use Rattle.rdf_term.specs.Text.{term_text}

-- the term's canonical text is UTF-8
abbrev pub IsUtf8Term : Term → Type 0
IsUtf8Term term = IsUtf8 (term_text term)

-- so are those of the three terms of a triple
pub record HasUtf8Terms (triple : Triple) : Type 0 where
  pub subject : IsUtf8Term triple.subject
  pub predicate : IsUtf8Term triple.predicate
  pub object : IsUtf8Term triple.object
