-- The text of an IRI in parts is UTF-8.
use Rattle.std.proofs.Common.{ℕ, List, ◌++◌}
use Rattle.std.specs.Str.{IsUtf8}
use Rattle.std.proofs.lemmas.Str.{IsUtf8-append}
use Rattle.rdf_term.specs.Text.{in_brackets}
use Rattle.rdf_term.proofs.Utf8Texts.{iri_utf8}

pub named_utf8 : (front name : List ℕ) → IsUtf8 front → IsUtf8 name → IsUtf8 (in_brackets (front ++ name))
named_utf8 front name f n = iri_utf8 (front ++ name) (IsUtf8-append front name f n)

pub numbered_utf8 : (front letter number : List ℕ) → IsUtf8 front → IsUtf8 letter → IsUtf8 number → IsUtf8 (in_brackets (front ++ letter ++ number))
numbered_utf8 front letter number f l n = named_utf8 (front ++ letter) number (IsUtf8-append front letter f l) n
