-- RFC 8259, section 7: strings. Characters stand in UTF-8 (section 8.1), and the escape of a surrogate stands in a pair alone.
use Rattle.std.specs.Prelude.{ℕ, ◌+◌, ◌-◌, ◌*◌, List, [], ◌∷◌, ◌++◌, Bool, true, cond, ◌≡◌, ◌&&◌, ◌||◌, ◌==◌, nat_le, Option, Some, None, encode_utf8}
use Rattle.std.specs.Char.{IsScalar, is_digit, digit_value}

-- One char of a string: as it is, or escaped by a backslash. What follows `\u` is four hexadecimal digits; the numbers
-- beside them are what the digits spell.
pub data Char : Type 0 where
  -- a character as it is
  unescaped : ℕ → Char
  -- the letter after a backslash, and the character that it stands for
  short : ℕ → ℕ → Char
  -- `\uXXXX`, and the character
  unicode : ℕ → ℕ → ℕ → ℕ → ℕ → Char
  -- `\uXXXX\uXXXX`, and the high and the low surrogate after their digits
  surrogates : ℕ → ℕ → ℕ → ℕ → ℕ → ℕ → ℕ → ℕ → ℕ → ℕ → Char

-- unescaped = %x20-21 / %x23-5B / %x5D-10FFFF
abbrev pub is_unescaped : ℕ → Bool
is_unescaped c = (nat_le 0x20 c && nat_le c 0x21) || (nat_le 0x23 c && nat_le c 0x5B) || nat_le 0x5D c

-- what a backslash and a letter other than `u` stand for
unfoldable pub short_escape : ℕ → Option ℕ
short_escape x =
    cond ((x == 0x22) || (x == 0x5C) || (x == 0x2F)) (Some x)
    (cond (x == 0x62) (Some 0x08)
    (cond (x == 0x66) (Some 0x0C)
    (cond (x == 0x6E) (Some 0x0A)
    (cond (x == 0x72) (Some 0x0D)
    (cond (x == 0x74) (Some 0x09) None)))))

-- the number that four hexadecimal digits spell
unfoldable pub code_unit : ℕ → ℕ → ℕ → ℕ → Option ℕ
code_unit a b c d =
    cond (is_digit a 16 && is_digit b 16 && is_digit c 16 && is_digit d 16)
    (Some (digit_value a * 4096 + digit_value b * 256 + digit_value c * 16 + digit_value d)) None

abbrev pub is_high_surrogate : ℕ → Bool
is_high_surrogate u = nat_le 0xD800 u && nat_le u 0xDBFF

abbrev pub is_low_surrogate : ℕ → Bool
is_low_surrogate u = nat_le 0xDC00 u && nat_le u 0xDFFF

-- the character of a surrogate pair
abbrev pub surrogate_pair : ℕ → ℕ → ℕ
surrogate_pair high low = 0x10000 + (high - 0xD800) * 0x400 + (low - 0xDC00)

-- char = unescaped / escape ( .. )
abbrev pub IsChar : Char → Type 0
IsChar (unescaped c) = IsScalar c × (is_unescaped c ≡ true)
IsChar (short x c) = short_escape x ≡ Some c
IsChar (unicode a b c d u) = (code_unit a b c d ≡ Some u) × IsScalar u
IsChar (surrogates a b c d u e f g h v) =
    (code_unit a b c d ≡ Some u) × (is_high_surrogate u ≡ true) × (code_unit e f g h ≡ Some v) × (is_low_surrogate v ≡ true)

-- the bytes that a char takes in the text
abbrev pub spelled : Char → List ℕ
spelled (unescaped c) = encode_utf8 c
spelled (short x c) = 0x5C ∷ x ∷ []
spelled (unicode a b c d u) = 0x5C ∷ 0x75 ∷ a ∷ b ∷ c ∷ d ∷ []
spelled (surrogates a b c d u e f g h v) = 0x5C ∷ 0x75 ∷ a ∷ b ∷ c ∷ d ∷ 0x5C ∷ 0x75 ∷ e ∷ f ∷ g ∷ h ∷ []

-- the character that a char stands for
abbrev pub code_point : Char → ℕ
code_point (unescaped c) = c
code_point (short x c) = c
code_point (unicode a b c d u) = u
code_point (surrogates a b c d u e f g h v) = surrogate_pair u v

abbrev pub AreChars : List Char → Type 0
AreChars [] = Unit {0}
AreChars (p ∷ ps) = IsChar p × AreChars ps

abbrev pub all_spelled : List Char → List ℕ
all_spelled [] = []
all_spelled (p ∷ ps) = spelled p ++ all_spelled ps

-- the characters of all, in UTF-8
abbrev pub all_utf8 : List Char → List ℕ
all_utf8 [] = []
all_utf8 (p ∷ ps) = encode_utf8 (code_point p) ++ all_utf8 ps

-- string = quotation-mark *char quotation-mark
pub record IsString (content text : List ℕ) : Type 0 where
  pub chars : List Char
  pub are_chars : AreChars chars
  pub text_is : text ≡ 0x22 ∷ (all_spelled chars ++ 0x22 ∷ [])
  pub content_is : content ≡ all_utf8 chars
