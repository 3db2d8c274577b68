-- Which texts are read as which terms, after the grammar of N-Triples.
use Rattle.std.specs.Prelude.{◌≡◌, ℕ, ◌+◌, ◌*◌, Bool, true, not, ◌&&◌, List, [], ◌∷◌, ◌++◌, ◌==◌, if◌then◌else◌, Option, Some, None, length, fold, encode_utf8}
use Rattle.std.specs.Char.{digit_value, is_digit}
use Rattle.std.specs.List.{list_any, list_all}
use Rattle.std.specs.Str.{bytes_eq}
use lib.Utf8.{scalar}
use Rattle.term_reading.specs.declared.content.Enclosure.{Enclosure}
use Rattle.term_reading.specs.declared.content.Enclosure.TheVariants.{Brackets, Quotes}
use Rattle.rdf_term.specs.declared.term.Term.{Term}
use Rattle.rdf_term.specs.declared.term.Term.TheVariants.{Iri, Blank, Plain, Lang, Typed}
use Rattle.rdf_term.specs.Fit.{xsd_string}
use Rattle.rdf_term.specs.Grammar.{is_iri_char, is_label, is_tag}
use Rattle.rdf_term.specs.Text.{in_brackets, in_quotes}

-- what closes a content: `>` or `"`
abbrev pub closing : Enclosure → ℕ
closing Brackets = 62
closing Quotes = 34

-- whether a character may stand in a content as it is: in a text each but `"`, `\`, LF and CR
abbrev pub stands : Enclosure → ℕ → Bool
stands Brackets c = is_iri_char c
stands Quotes c = not (list_any (λ other. c == other) (34 ∷ 92 ∷ 10 ∷ 13 ∷ []))

-- the character for which a letter behind a backslash stands, in a text: \t \b \n \r \f \" \' \\
abbrev pub letter_char : Enclosure → ℕ → Option ℕ
letter_char Brackets letter = None
letter_char Quotes letter =
    if letter == 116 then Some 9
    else (if letter == 98 then Some 8
    else (if letter == 110 then Some 10
    else (if letter == 114 then Some 13
    else (if letter == 102 then Some 12
    else (if list_any (λ other. letter == other) (34 ∷ 39 ∷ 92 ∷ []) then Some letter
    else None)))))

-- the value of hexadecimal digits, by that of those before the last
abbrev pub next_value : ℕ → ℕ → ℕ
next_value value digit = value * 16 + digit_value digit

-- the number that hexadecimal digits of either case write
abbrev pub hex_value : List ℕ → ℕ
hex_value digits = fold next_value 0 digits

-- the character of this number, where it is one (no surrogate, at most U+10FFFF) and may stand in the content
abbrev pub escaped_char : Enclosure → ℕ → Option ℕ
escaped_char Brackets c = if scalar c && is_iri_char c then Some c else None
escaped_char Quotes c = if scalar c then Some c else None

-- so many hexadecimal digits, which write the number of a character that may stand in the content
pub record IsEscape (enclosure : Enclosure) (count : ℕ) (digits : List ℕ) (c : ℕ) : Type 0 where
  pub long : length digits ≡ count
  pub hexadecimal : list_all (λ digit. is_digit digit 16) digits ≡ true
  pub number : escaped_char enclosure (hex_value digits) ≡ Some c

-- a piece of a content, and the bytes that it stands for; a byte beyond ASCII is a part of a character that stands as it is
pub data IsPiece (enclosure : Enclosure) : List ℕ → List ℕ → Type 0 where
  itself : (b : ℕ) → stands enclosure b ≡ true → IsPiece enclosure (b ∷ []) (b ∷ [])
  letter : (l c : ℕ) → letter_char enclosure l ≡ Some c → IsPiece enclosure (92 ∷ l ∷ []) (encode_utf8 c)
  short : (digits : List ℕ) (c : ℕ) → IsEscape enclosure 4 digits c → IsPiece enclosure (92 ∷ 117 ∷ digits) (encode_utf8 c)
  long : (digits : List ℕ) (c : ℕ) → IsEscape enclosure 8 digits c → IsPiece enclosure (92 ∷ 85 ∷ digits) (encode_utf8 c)

-- a content, piece by piece, and the text that it stands for
pub data IsEscapedText (enclosure : Enclosure) : List ℕ → List ℕ → Type 0 where
  nothing : IsEscapedText enclosure [] []
  more : (piece meaning pieces text : List ℕ) → IsPiece enclosure piece meaning → IsEscapedText enclosure pieces text
      → IsEscapedText enclosure (piece ++ pieces) (meaning ++ text)

-- the literal of a text and a datatype
abbrev pub literal_of_type : List ℕ → List ℕ → Term
literal_of_type text datatype = if bytes_eq datatype xsd_string then Plain text else Typed text datatype

-- the whole text is a term's
pub data IsWritten : List ℕ → Term → Type 0 where
  iri : (pieces text : List ℕ) → IsEscapedText Brackets pieces text → IsWritten (in_brackets pieces) (Iri text)
  blank : (label : List ℕ) → is_label label ≡ true → IsWritten (95 ∷ 58 ∷ label) (Blank label)
  plain : (pieces text : List ℕ) → IsEscapedText Quotes pieces text → IsWritten (in_quotes pieces []) (Plain text)
  lang : (pieces text tag : List ℕ) → IsEscapedText Quotes pieces text → is_tag tag ≡ true → IsWritten (in_quotes pieces (64 ∷ tag)) (Lang text tag)
  typed : (pieces text others datatype : List ℕ) → IsEscapedText Quotes pieces text → IsEscapedText Brackets others datatype
      → IsWritten (in_quotes pieces (94 ∷ 94 ∷ in_brackets others)) (literal_of_type text datatype)
