-- A reader of the contents of brackets and quotes, character by character, and of terms.
use Rattle.std.specs.Prelude.{ℕ, ◌+◌, ◌-◌, ◌*◌, List, [], ◌∷◌, ◌++◌, ◌==◌, if◌then◌else◌, nat_lt, Option, Some, None, encode_utf8}
use Rattle.std.specs.Char.{digit_value, is_digit}
use Rattle.std.specs.Option.{option_and_then, option_map}
use Rattle.term_reading.specs.declared.content.Enclosure.{Enclosure}
use Rattle.term_reading.specs.declared.content.Enclosure.TheVariants.{Brackets, Quotes}
use Rattle.term_reading.specs.declared.content.State.{State}
use Rattle.term_reading.specs.declared.content.State.TheVariants.{Between, Backslash, Digits}
use Rattle.term_reading.specs.declared.content.Effect.{Effect}
use Rattle.term_reading.specs.declared.content.Effect.TheVariants.{Close, Refuse, Go, Keep, Put}
use Rattle.rdf_term.specs.declared.term.Term.{Term}
use Rattle.rdf_term.specs.declared.term.Term.TheVariants.{Iri, Blank, Plain, Lang}
use Rattle.rdf_term.specs.Grammar.{is_label, is_tag}
use Rattle.term_reading.specs.Written.{closing, stands, letter_char, escaped_char, literal_of_type}

-- a character between two pieces
abbrev pub step_between : Enclosure → ℕ → Effect
step_between enclosure c = if c == closing enclosure then Close else (if c == 92 then Go Backslash else (if stands enclosure c then Keep else Refuse))

-- the character that an escape stands for, where it is one
abbrev pub put_or_refuse : Option ℕ → Effect
put_or_refuse None = Refuse
put_or_refuse (Some c) = Put c

-- a character behind a backslash
abbrev pub step_backslash : Enclosure → ℕ → Effect
step_backslash enclosure c = if c == 117 then Go (Digits 4 0) else (if c == 85 then Go (Digits 8 0) else put_or_refuse (letter_char enclosure c))

-- behind a digit, where the digits so far have this value and so many were left before it
abbrev pub after_digit : Enclosure → ℕ → ℕ → Effect
after_digit enclosure left value = if nat_lt 1 left then Go (Digits (left - 1) value) else put_or_refuse (escaped_char enclosure value)

-- a character where a digit has to stand
abbrev pub step_digits : Enclosure → ℕ → ℕ → ℕ → Effect
step_digits enclosure left value c =
    if nat_lt 1114111 value then Refuse
    else (if is_digit c 16 then after_digit enclosure left (value * 16 + digit_value c)
    else Refuse)

-- what a character does
unfoldable pub step : Enclosure → State → ℕ → Effect
step enclosure Between c = step_between enclosure c
step enclosure Backslash c = step_backslash enclosure c
step enclosure (Digits left value) c = step_digits enclosure left value c

-- a content with more bytes in front
unfoldable pub with_front : List ℕ → Option (List ℕ × List ℕ) → Option (List ℕ × List ℕ)
with_front front read = option_map (λ p. (front ++ p.0, p.1)) read

-- what is read where a character, written as `here`, does a step
abbrev pub follow : (State → Option (List ℕ × List ℕ)) → List ℕ → List ℕ → Effect → Option (List ℕ × List ℕ)
follow more here rest Close = Some ([], rest)
follow more here rest Refuse = None
follow more here rest (Go state) = more state
follow more here rest Keep = with_front here (more Between)
follow more here rest (Put c) = with_front (encode_utf8 c) (more Between)

-- the content up to what closes it, and what follows
unfoldable pub content_of : Enclosure → State → List ℕ → Option (List ℕ × List ℕ)
content_of enclosure state [] = None
content_of enclosure state (x ∷ xs) = follow (λ next. content_of enclosure next xs) (x ∷ []) xs (step enclosure state x)

-- the first byte and what follows, where it is ASCII
abbrev pub split_ascii : List ℕ → Option (ℕ × List ℕ)
split_ascii [] = None
split_ascii (x ∷ xs) = if nat_lt x 128 then Some (x, xs) else None

-- what was read, where it goes to the end
abbrev pub whole : List ℕ → List ℕ → Option (List ℕ)
whole read [] = Some read
whole read (x ∷ xs) = None

-- the IRI whose bracket stands in front
abbrev pub iri_in : List ℕ → Option (List ℕ)
iri_in text = option_and_then (λ p. whole p.0 p.1) (content_of Brackets Between text)

-- the text behind this byte, where it comes first
abbrev pub behind : ℕ → List ℕ → Option (List ℕ)
behind byte text = option_and_then (λ p. if p.0 == byte then Some p.1 else None) (split_ascii text)

-- the blank node whose underscore stands in front
abbrev pub blank_in : List ℕ → Option Term
blank_in text = option_and_then (λ label. if is_label label then Some (Blank label) else None) (behind 58 text)

-- the literal of a text whose datatype's first `^` stands in front
abbrev pub typed_in : List ℕ → List ℕ → Option Term
typed_in text rest = option_map (literal_of_type text) (option_and_then iri_in (option_and_then (behind 60) (behind 94 rest)))

-- the literal of a text whose tag this is
abbrev pub lang_in : List ℕ → List ℕ → Option Term
lang_in text tag = if is_tag tag then Some (Lang text tag) else None

-- the literal of a text, by the byte behind its closing quote and what follows: `@` or `^`
abbrev pub literal_after : List ℕ → ℕ → List ℕ → Option Term
literal_after text first rest =
    if first == 64 then lang_in text rest
    else (if first == 94 then typed_in text rest
    else None)

-- the literal of a text, by what stands behind its closing quote
abbrev pub literal_with : List ℕ → List ℕ → Option Term
literal_with text [] = Some (Plain text)
literal_with text (x ∷ xs) = option_and_then (λ p. literal_after text p.0 p.1) (split_ascii (x ∷ xs))

-- the literal whose quote stands in front
abbrev pub literal_in : List ℕ → Option Term
literal_in text = option_and_then (λ p. literal_with p.0 p.1) (content_of Quotes Between text)

-- the term by its first byte and what follows: `<`, `_` or `"`
abbrev pub term_after : ℕ → List ℕ → Option Term
term_after first rest =
    if first == 60 then option_map Iri (iri_in rest)
    else (if first == 95 then blank_in rest
    else (if first == 34 then literal_in rest
    else None))

-- the term of the whole text
unfoldable pub read : List ℕ → Option Term
read text = option_and_then (λ p. term_after p.0 p.1) (split_ascii text)
