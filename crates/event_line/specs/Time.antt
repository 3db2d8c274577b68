-- The texts of times, after ISO 8601: `YYYY-MM-DDThh:mm:ssZ`, perhaps with a point and 1 to 6 digits in front of the `Z`.
use Rattle.std.specs.Prelude.{ℕ, ◌+◌, ◌-◌, ◌*◌, ◌/◌, ◌%◌, ◌^◌, ◌<◌, ◌≡◌, Bool, ◌&&◌, ◌==◌, nat_lt, nat_le, if◌then◌else◌, List, [], ◌∷◌, ◌++◌, length, take, drop, slice_index, Option, Some, None, option_map, option_and_then, ℤ, pos, ◌+ℤ◌, ◌*ℤ◌}
use Rattle.std.specs.Char.{is_ascii_digit}
use Rattle.std.specs.Int.{IsInRange}
use Rattle.std.specs.List.{list_all}
use Rattle.jiff_core.specs.Calendar.{days_in_month, days_from_civil}
use Rattle.digits.specs.Number.{decimal_value, two_digits, two_digits_of}

-- the number that four decimal digits write
abbrev pub four_digits : ℕ → ℕ → ℕ → ℕ → Option ℕ
four_digits a b c d = option_and_then (λ high. option_map (λ low. 100 * high + low) (two_digits c d)) (two_digits a b)

-- a number that is below the limit
abbrev pub if_below : ℕ → ℕ → Option ℕ
if_below limit n = if nat_lt n limit then Some n else None

-- the number that two decimal digits write, where it is below the limit
abbrev pub digits_below : ℕ → ℕ → ℕ → Option ℕ
digits_below limit tens ones = option_and_then (if_below limit) (two_digits tens ones)

-- years are from 1, and the Gregorian calendar has the day
abbrev pub is_date : ℕ → ℕ → ℕ → Bool
is_date year month day =
    nat_le 1 year && nat_le 1 month && nat_le month 12 && nat_le 1 day && nat_le day (days_in_month (pos year) month)

-- the day number of a date: 0 for 1970-01-01, and negative before it
abbrev pub day_number : ℕ → ℕ → ℕ → Option ℤ
day_number year month day = if is_date year month day then Some (days_from_civil (pos year) month day) else None

-- the day number of `YYYY-MM-DD`
abbrev pub day_of : List ℕ → Option ℤ
day_of (y₁ ∷ y₂ ∷ y₃ ∷ y₄ ∷ dash ∷ m₁ ∷ m₂ ∷ hyphen ∷ d₁ ∷ d₂ ∷ []) =
    if (dash == 45) && (hyphen == 45) then
    option_and_then (λ year. option_and_then (λ month. option_and_then (λ day.
    day_number year month day)
    (two_digits d₁ d₂)) (two_digits m₁ m₂)) (four_digits y₁ y₂ y₃ y₄)
    else None
day_of _ = None

-- the second of the day that `Thh:mm:ss` says, with hours to 23, minutes and seconds to 59
abbrev pub second_of : List ℕ → Option ℕ
second_of (t ∷ h₁ ∷ h₂ ∷ colon ∷ m₁ ∷ m₂ ∷ mark ∷ s₁ ∷ s₂ ∷ []) =
    if (t == 84) && (colon == 58) && (mark == 58) then
    option_and_then (λ hour. option_and_then (λ minute. option_map (λ second.
    3600 * hour + 60 * minute + second)
    (digits_below 60 s₁ s₂)) (digits_below 60 m₁ m₂)) (digits_below 24 h₁ h₂)
    else None
second_of _ = None

-- 1 to 6 decimal digits
abbrev pub is_fraction : List ℕ → Bool
is_fraction digits = nat_le 1 (length digits) && nat_le (length digits) 6 && list_all is_ascii_digit digits

-- the microseconds of a fraction of a second: a point and 1 to 6 digits, or nothing
abbrev pub microsecond_of : List ℕ → Option ℕ
microsecond_of [] = Some 0
microsecond_of (point ∷ digits) =
    if (point == 46) && is_fraction digits then Some (decimal_value digits * 10 ^ (6 - length digits)) else None

-- the microseconds since 1970-01-01T00:00:00Z of a day, a second of it and a microsecond of that
abbrev pub in_microseconds : ℤ → ℕ → ℕ → ℤ
in_microseconds day second microsecond = pos 86_400_000_000 *ℤ day +ℤ pos (1_000_000 * second) +ℤ pos microsecond

-- the time of a text without its `Z`: 10 bytes of a date, 9 bytes of a clock, and a fraction
abbrev pub time_before_zone : List ℕ → Option ℤ
time_before_zone text =
    option_and_then (λ day. option_and_then (λ second. option_map (λ microsecond.
    in_microseconds day second microsecond)
    (microsecond_of (drop 19 text))) (second_of (take 9 (drop 10 text)))) (day_of (take 10 text))

-- the time that a text says, in microseconds since 1970-01-01T00:00:00Z
abbrev pub time_of : List ℕ → Option ℤ
time_of text = if slice_index text (length text - 1) == 90 then time_before_zone (take (length text - 1) text) else None

-- how a number below 10,000 is written in four digits
abbrev pub four_digits_of : ℕ → List ℕ
four_digits_of n = two_digits_of (n / 100) ++ two_digits_of (n % 100)

-- `YYYY-MM-DD`
abbrev pub date_text : ℕ → ℕ → ℕ → List ℕ
date_text year month day = four_digits_of year ++ 45 ∷ (two_digits_of month ++ 45 ∷ two_digits_of day)

-- `Thh:mm:ss`
abbrev pub clock_text : ℕ → ℕ → ℕ → List ℕ
clock_text hour minute second = 84 ∷ (two_digits_of hour ++ 58 ∷ (two_digits_of minute ++ 58 ∷ two_digits_of second))

-- a text is the time of a day of the Gregorian calendar, with the year, the month, the day and the clock written out,
-- perhaps a fraction, and `Z`
pub record IsTimeText (text : List ℕ) (time : ℤ) : Type 0 where
  pub year : ℕ
  pub month : ℕ
  pub day : ℕ
  pub hour : ℕ
  pub minute : ℕ
  pub second : ℕ
  pub fraction : List ℕ
  pub microsecond : ℕ
  pub year_in : IsInRange 1 9999 year
  pub month_in : IsInRange 1 12 month
  pub day_in : IsInRange 1 (days_in_month (pos year) month) day
  pub hour_in : hour < 24
  pub minute_in : minute < 60
  pub second_in : second < 60
  pub fraction_is : microsecond_of fraction ≡ Some microsecond
  pub text_is : text ≡ (date_text year month day ++ (clock_text hour minute second ++ fraction)) ++ 90 ∷ []
  pub time_is : time ≡ in_microseconds (days_from_civil (pos year) month day) (3600 * hour + 60 * minute + second) microsecond
