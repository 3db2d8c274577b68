-- The canonical texts of terms and triples, after N-Triples.
use Rattle.std.specs.Prelude.{ℕ, Bool, ◌||◌, List, [], ◌∷◌, ◌++◌, ◌==◌, if◌then◌else◌}
use Rattle.std.specs.List.{flat_map}
use Rattle.rdf_term.specs.declared.term.Term.{Term}
use Rattle.rdf_term.specs.declared.term.Term.TheVariants.{Iri, Blank, Plain, Lang, Typed}
use Rattle.rdf_term.specs.declared.triple.Triple.{Triple}

-- what a byte of a literal's text is written as: `"`, `\`, LF and CR by an escape, every other byte as it is
abbrev pub escaped_byte : ℕ → List ℕ
escaped_byte b =
    if b == 34 then 92 ∷ 34 ∷ []
    else (if b == 92 then 92 ∷ 92 ∷ []
    else (if b == 10 then 92 ∷ 110 ∷ []
    else (if b == 13 then 92 ∷ 114 ∷ []
    else b ∷ [])))

-- whether a byte of a literal's text is written by an escape
abbrev pub is_escaped : ℕ → Bool
is_escaped b = (b == 34) || (b == 92) || (b == 10) || (b == 13)

-- a literal's text as it stands between the quotes
abbrev pub escaped : List ℕ → List ℕ
escaped = flat_map escaped_byte

-- what stands between quotes, and what follows it
abbrev pub in_quotes : List ℕ → List ℕ → List ℕ
in_quotes content rest = 34 ∷ (content ++ 34 ∷ rest)

-- a text in quotes, and what follows it
abbrev pub quoted : List ℕ → List ℕ → List ℕ
quoted text rest = in_quotes (escaped text) rest

-- an IRI in angle brackets
abbrev pub in_brackets : List ℕ → List ℕ
in_brackets iri = 60 ∷ (iri ++ 62 ∷ [])

-- the canonical text of a term: `<iri>`, `_:label`, `"text"`, `"text"@tag` or `"text"^^<datatype>`
abbrev pub term_text : Term → List ℕ
term_text (Iri iri) = in_brackets iri
term_text (Blank label) = 95 ∷ 58 ∷ label
term_text (Plain text) = quoted text []
term_text (Lang text tag) = quoted text (64 ∷ tag)
term_text (Typed text datatype) = quoted text (94 ∷ 94 ∷ in_brackets datatype)

-- a term and the space after it
abbrev pub spaced : Term → List ℕ
spaced term = term_text term ++ 32 ∷ []

-- the line of a triple: its terms, each with a space after it, then `.` and LF
abbrev pub triple_text : Triple → List ℕ
triple_text triple = spaced triple.subject ++ spaced triple.predicate ++ spaced triple.object ++ 46 ∷ 10 ∷ []
