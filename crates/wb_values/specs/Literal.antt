-- The literal that a time becomes.
use Rattle.std.specs.Prelude.{◌≡◌, ℕ, ◌-◌, Bool, List, [], ◌∷◌, ◌++◌, length, replicate, if◌then◌else◌, Option, Some, None, option_map, option_and_then, ℤ, pos, unsigned_abs, int_lt}
use Rattle.std.specs.Fmt.{decimal}
use Rattle.wb_values.specs.declared.calendar.CalendarDate.{CalendarDate}
use Rattle.wb_values.specs.declared.literal.TimeText.{TimeText}
use Rattle.wb_values.specs.declared.literal.TimeText.TheVariants.{DateTime, Plain}
use Rattle.wb_values.specs.GregorianDay.{gregorian_day, MeansDay}
use Rattle.wb_values.specs.Written.{written_time, IsWrittenTime}

-- the digits of n, padded with zeros in front
abbrev pub zero_padded : ℕ → ℕ → List ℕ
zero_padded width n = replicate (width - length (decimal n)) 48 ++ decimal n

-- `-` in front of the year where it is negative
abbrev pub sign_text : ℤ → List ℕ
sign_text year = if int_lt year (pos 0) then 45 ∷ [] else []

-- the text of a day and a clock, as xsd:dateTime writes it
abbrev pub date_time_text : CalendarDate → List ℕ → List ℕ
date_time_text date clock = sign_text date.year ++ zero_padded 4 (unsigned_abs date.year)
    ++ 45 ∷ zero_padded 2 date.month ++ 45 ∷ zero_padded 2 date.day ++ 84 ∷ clock

-- the day that a time's text means, and its clock
abbrev pub meant_time : List ℕ → ℕ → Bool → Option (CalendarDate × List ℕ)
meant_time text precision julian =
    option_and_then (λ time. option_map (λ day. (day, time.1)) (gregorian_day time.0 precision julian)) (written_time text)

-- a date and time, or the text as it is
abbrev pub literal_meant : List ℕ → Option (CalendarDate × List ℕ) → TimeText
literal_meant text None = Plain text
literal_meant text (Some (day, clock)) = DateTime (date_time_text day clock)

-- the literal of a time's text: a date and time if it means a day, and the text as it is otherwise
abbrev pub time_literal : List ℕ → ℕ → Bool → TimeText
time_literal text precision julian = literal_meant text (meant_time text precision julian)

-- the literal of a time's text, by its parts: where the text writes a date that means a day, that day and the clock as
-- they stand in xsd:dateTime; and else the text
pub data IsLiteral (text : List ℕ) (precision : ℕ) (julian : Bool) (literal : TimeText) : Type 0 where
  date_time : (written : CalendarDate) (clock : List ℕ) (day : CalendarDate) → IsWrittenTime text written clock → MeansDay written precision julian day
      → literal ≡ DateTime (date_time_text day clock) → IsLiteral text precision julian literal
  plain : ((written : CalendarDate) (clock : List ℕ) (day : CalendarDate) → IsWrittenTime text written clock → ¬ (MeansDay written precision julian day))
      → literal ≡ Plain text → IsLiteral text precision julian literal

-- it is a literal of the text, and the text has no other
pub record IsOnlyLiteral (text : List ℕ) (precision : ℕ) (julian : Bool) (literal : TimeText) : Type 0 where
  pub is : IsLiteral text precision julian literal
  pub only : (other : TimeText) → IsLiteral text precision julian other → other ≡ literal
