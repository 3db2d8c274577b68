-- The text of a time: a sign, 1 to 16 digits of the year, `-MM-DDT`, `hh:mm:ss` and `Z`.
use Rattle.std.specs.Prelude.{◌≡◌, ℕ, ◌-◌, Bool, false, ◌&&◌, ◌==◌, nat_lt, nat_le, if◌then◌else◌, List, [], ◌∷◌, ◌++◌, length, take, drop, Option, Some, None, option_map, option_and_then, IsTrue, ℤ, pos, neg_ℤ}
use Rattle.std.specs.Char.{is_ascii_digit}
use Rattle.std.specs.Option.{option_map_or}
use Rattle.std.specs.List.{list_all, before_first, after_first}
use Rattle.digits.specs.Number.{decimal_value, two_digits}
use Rattle.wb_values.specs.declared.calendar.CalendarDate.{CalendarDate}

-- two decimal digits that write a number below n
abbrev pub are_below : ℕ → ℕ → ℕ → Bool
are_below n tens ones = option_map_or (λ value. nat_lt value n) (two_digits tens ones) false

-- `hh:mm:ssZ`, with hours to 23, minutes and seconds to 59
abbrev pub is_clock : List ℕ → Bool
is_clock (h₁ ∷ h₂ ∷ colon ∷ m₁ ∷ m₂ ∷ point ∷ s₁ ∷ s₂ ∷ zone ∷ []) =
    (colon == 58) && (point == 58) && (zone == 90) && are_below 24 h₁ h₂ && are_below 60 m₁ m₂ && are_below 60 s₁ s₂
is_clock _ = false

-- 1 to 16 decimal digits
abbrev pub is_year : List ℕ → Bool
is_year digits = nat_le 1 (length digits) && nat_le (length digits) 16 && list_all is_ascii_digit digits

-- the number behind a sign, which is `+` or `-`
abbrev pub signed : ℕ → ℕ → Option ℤ
signed sign n = if sign == 43 then Some (pos n) else (if sign == 45 then Some (neg_ℤ (pos n)) else None)

-- a sign and a year
abbrev pub signed_year : List ℕ → Option ℤ
signed_year [] = None
signed_year (sign ∷ digits) = if is_year digits then signed sign (decimal_value digits) else None

-- the date of a year with the text `-MM-DD`
abbrev pub date_in_year : ℤ → List ℕ → Option CalendarDate
date_in_year year (dash ∷ m₁ ∷ m₂ ∷ hyphen ∷ d₁ ∷ d₂ ∷ []) =
    if (dash == 45) && (hyphen == 45)
    then option_and_then (λ month. option_map (λ day. record { year = year; month = month; day = day }) (two_digits d₁ d₂)) (two_digits m₁ m₂)
    else None
date_in_year _ _ = None

-- a year and `-MM-DD`, which are the last six bytes
abbrev pub written_date : List ℕ → Option CalendarDate
written_date text = option_and_then (λ year. date_in_year year (drop (length text - 6) text)) (signed_year (take (length text - 6) text))

-- what stands before the first `T`, and behind it
abbrev pub date_part : List ℕ → List ℕ
date_part text = before_first (λ b. b == 84) text

abbrev pub clock_part : List ℕ → List ℕ
clock_part text = after_first (λ b. b == 84) text

-- the date that a time's text writes, as it stands there, and its clock
abbrev pub written_time : List ℕ → Option (CalendarDate × List ℕ)
written_time text =
    if is_clock (clock_part text) then option_map (λ date. (date, clock_part text)) (written_date (date_part text)) else None

-- a text is a sign, 1 to 16 digits of a year, and `-MM-DD`, and this is the date that they write
pub record IsWrittenDate (text : List ℕ) (written : CalendarDate) : Type 0 where
  pub sign : ℕ
  pub digits : List ℕ
  pub m₁ : ℕ
  pub m₂ : ℕ
  pub d₁ : ℕ
  pub d₂ : ℕ
  pub is_year : IsTrue (is_year digits)
  pub year : signed sign (decimal_value digits) ≡ Some written.year
  pub month : two_digits m₁ m₂ ≡ Some written.month
  pub day : two_digits d₁ d₂ ≡ Some written.day
  pub is : text ≡ sign ∷ (digits ++ (45 ∷ m₁ ∷ m₂ ∷ 45 ∷ d₁ ∷ d₂ ∷ []))

-- a text is a date, `T` and a clock
pub record IsWrittenTime (text : List ℕ) (written : CalendarDate) (clock : List ℕ) : Type 0 where
  pub date : List ℕ
  pub is_date : IsWrittenDate date written
  pub is_clock : IsTrue (is_clock clock)
  pub is : text ≡ date ++ 84 ∷ clock
