-- Terms whose canonical texts have no escape.
use Rattle.std.specs.Prelude.{◌≡◌, ℕ, true, List}
use Rattle.std.specs.Str.{IsUtf8}
use Rattle.rdf_term.specs.{declared.term.Term.Term, Fit.is_fit, Text.term_text}

-- the bytes are the canonical text of the fit term
pub record IsFitText (bytes : List ℕ) (term : Term) : Type 0 where
  pub text : bytes ≡ term_text term
  pub fit : is_fit term ≡ true
  pub utf8 : IsUtf8 (term_text term)
