-- The term of a canonical text, read back.
use Rattle.std.specs.Prelude.{ℕ, List, [], ◌∷◌, Bool, true, false, if◌then◌else◌, ◌==◌}
use Rattle.rdf_term.specs.declared.term.Term.{Term}
use Rattle.rdf_term.specs.declared.term.Term.TheVariants.{Iri, Blank, Plain, Lang, Typed}

-- all but the last of a list with this first item
unfoldable pub front_of : ℕ → List ℕ → List ℕ
front_of x [] = []
front_of x (y ∷ ys) = x ∷ front_of y ys

-- all but the last
unfoldable pub front : List ℕ → List ℕ
front [] = []
front (x ∷ xs) = front_of x xs

-- the byte that the letter behind a backslash stands for
abbrev pub byte_of : ℕ → ℕ
byte_of letter = if letter == 110 then 10 else (if letter == 114 then 13 else letter)

-- a text up to its closing quote, and what follows
pub record Split : Type 0 where
  pub text : List ℕ
  pub rest : List ℕ

-- the same with one more byte in front of the text
unfoldable pub put : ℕ → Split → Split
put x s = record { text = x ∷ s.text; rest = s.rest }

-- a text as it stands behind the opening quote, split; `true` is behind a backslash
unfoldable pub split_quoted : Bool → List ℕ → Split
split_quoted behind [] = record { text = []; rest = [] }
split_quoted true (x ∷ xs) = put (byte_of x) (split_quoted false xs)
split_quoted false (x ∷ xs) = if x == 34 then record { text = []; rest = xs } else (if x == 92 then split_quoted true xs else put x (split_quoted false xs))

-- what follows the first byte, and the first two
abbrev pub after_one : List ℕ → List ℕ
after_one [] = []
after_one (y ∷ ys) = ys

abbrev pub after_two : List ℕ → List ℕ
after_two [] = []
after_two (y ∷ ys) = after_one ys

-- what a literal is, by its text and what stands behind the closing quote
unfoldable pub literal : List ℕ → List ℕ → Term
literal text [] = Plain text
literal text (x ∷ xs) = if x == 64 then Lang text xs else Typed text (front (after_two xs))

unfoldable pub literal_of : Split → Term
literal_of s = literal s.text s.rest

-- the term of a canonical text; of any other text it is some term
unfoldable pub undo : List ℕ → Term
undo [] = Plain []
undo (x ∷ xs) = if x == 60 then Iri (front xs) else (if x == 34 then literal_of (split_quoted false xs) else Blank (after_one xs))
