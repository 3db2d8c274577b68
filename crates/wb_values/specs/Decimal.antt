-- Decimal numbers: `[+-]?[0-9]+(\.[0-9]+)?`.
use Rattle.std.specs.Prelude.{◌≡◌, ℕ, ◌+◌, Bool, ◌&&◌, ◌||◌, ◌==◌, nat_le, if◌then◌else◌, List, [], ◌∷◌, ◌++◌, length, take, drop, position, Option, Some, None, IsTrue}
use Rattle.std.specs.Char.{is_ascii_digit}
use Rattle.std.specs.List.{list_all}

-- one or more decimal digits
abbrev pub is_numeral : List ℕ → Bool
is_numeral text = nat_le 1 (length text) && list_all is_ascii_digit text

-- the text behind its sign, if it has one
abbrev pub unsigned_part : List ℕ → List ℕ
unsigned_part [] = []
unsigned_part (x ∷ xs) = if (x == 43) || (x == 45) then xs else x ∷ xs

-- digits on both sides of the point, or digits alone where there is none
abbrev pub has_numerals : List ℕ → Option ℕ → Bool
has_numerals text None = is_numeral text
has_numerals text (Some point) = is_numeral (take point text) && is_numeral (drop (point + 1) text)

-- digits, with a point between them or none
abbrev pub is_unsigned_decimal : List ℕ → Bool
is_unsigned_decimal text = has_numerals text (position (λ b. b == 46) text)

-- whether a text is a decimal number
abbrev pub is_decimal : List ℕ → Bool
is_decimal text = is_unsigned_decimal (unsigned_part text)

-- a sign, or none
pub data IsSign : List ℕ → Type 0 where
  no_sign : IsSign []
  plus_sign : IsSign (43 ∷ [])
  minus_sign : IsSign (45 ∷ [])

-- a point and digits, or nothing
pub data IsFraction : List ℕ → Type 0 where
  no_fraction : IsFraction []
  point_digits : (digits : List ℕ) → IsTrue (is_numeral digits) → IsFraction (46 ∷ digits)

-- a text is a decimal number: a sign or none, digits, and a fraction or none
pub record IsDecimal (text : List ℕ) : Type 0 where
  pub sign : List ℕ
  pub whole : List ℕ
  pub fraction : List ℕ
  pub is_sign : IsSign sign
  pub is_whole : IsTrue (is_numeral whole)
  pub is_fraction : IsFraction fraction
  pub is : text ≡ sign ++ whole ++ fraction
