-- The languages of sites.
use Rattle.std.specs.Prelude.{ℕ, Bool, false, not, ◌&&◌, ◌||◌, ◌==◌, List, [], ◌∷◌}
use Rattle.std.specs.Char.{is_ascii_lowercase, is_ascii_uppercase, is_ascii_digit}
use Rattle.std.specs.List.{list_all, slice_split}
use Rattle.rdf_term.specs.Grammar.{is_word}

-- a lower-case letter or a digit
abbrev pub is_lowercase_or_digit : ℕ → Bool
is_lowercase_or_digit c = is_ascii_lowercase c || is_ascii_digit c

-- anything but an upper-case letter
abbrev pub is_no_upper_case : ℕ → Bool
is_no_upper_case c = not (is_ascii_uppercase c)

-- whether the first part has lower-case letters alone, each later one these and digits, and no part is empty
abbrev pub are_language_parts : List (List ℕ) → Bool
are_language_parts [] = false
are_language_parts (first ∷ later) = is_word is_ascii_lowercase first && list_all (is_word is_lowercase_or_digit) later

-- whether the text is a language: parts with a dash between them
abbrev pub is_language : List ℕ → Bool
is_language text = are_language_parts (slice_split (λ c. c == 45) text)
