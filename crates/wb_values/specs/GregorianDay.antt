-- Which day of the proleptic Gregorian calendar a written date means.
use Rattle.std.specs.Prelude.{◌≡◌, ◌≢◌, ℕ, ◌<◌, ◌≤◌, Bool, IsTrue, ◌&&◌, ◌||◌, ◌==◌, nat_lt, nat_le, if◌then◌else◌, Option, Some, None, ℤ, pos, ◌+ℤ◌, unsigned_abs, int_lt}
use Rattle.std.specs.Bool.{IsFalse}
use Rattle.wb_values.specs.declared.calendar.Calendar.{Calendar}
use Rattle.wb_values.specs.declared.calendar.Calendar.TheVariants.{Julian, Gregorian}
use Rattle.wb_values.specs.declared.calendar.CalendarDate.{CalendarDate}
use Rattle.wb_values.specs.Calendar.{has_day, gregorian_date_of, IsDate, IsSameDay}

-- a date of no calendar: its year is 0, its month is above 12 or its day above 31
abbrev pub is_undated : CalendarDate → Bool
is_undated written = (unsigned_abs written.year == 0) || nat_lt 12 written.month || nat_lt 31 written.day

-- the year that is 0 where the written year is -1
abbrev pub astronomical_year : ℤ → ℤ
astronomical_year year = if int_lt (pos 0) year then year else (year +ℤ pos 1)

-- 1 January of the year
abbrev pub january_first : CalendarDate → CalendarDate
january_first written = record { year = astronomical_year written.year; month = 1; day = 1 }

-- a month of 0 is January and its first day, and a day of 0 the first
abbrev pub first_date_in : CalendarDate → CalendarDate
first_date_in written =
    if written.month == 0 then january_first written
    else record { year = astronomical_year written.year; month = written.month; day = if written.day == 0 then 1 else written.day }

-- the date is one of the Julian calendar that is converted
abbrev pub is_converted : CalendarDate → ℕ → Bool → Bool
is_converted written precision julian = julian && nat_le 11 precision && nat_le (unsigned_abs written.year) 9998

-- the date where the calendar has it
abbrev pub if_there : Calendar → CalendarDate → Option CalendarDate
if_there calendar date = if has_day calendar date then Some date else None

-- the day that a written date means, if there is one
abbrev pub gregorian_day : CalendarDate → ℕ → Bool → Option CalendarDate
gregorian_day written precision julian =
    if is_undated written then None
    else (if nat_lt 9999 (unsigned_abs written.year) then Some (january_first written)
    else (if is_converted written precision julian
    then (if has_day Julian (first_date_in written) then Some (gregorian_date_of (first_date_in written)) else None)
    else if_there Gregorian (first_date_in written)))

-- a date of some calendar: its year is not 0, its month at most 12 and its day at most 31
pub record IsDated (written : CalendarDate) : Type 0 where
  pub year : written.year ≢ pos 0
  pub month : written.month ≤ 12
  pub day : written.day ≤ 31

-- a written date means this day of the Gregorian calendar: years above 9999 or below -9999 have no month and no day;
-- a date that is converted is the same day in the Julian calendar; and every other date is a Gregorian one already
pub data MeansDay (written : CalendarDate) (precision : ℕ) (julian : Bool) (day : CalendarDate) : Type 0 where
  long_year : IsDated written → 9999 < unsigned_abs written.year → day ≡ january_first written → MeansDay written precision julian day
  converted : IsDated written → IsTrue (is_converted written precision julian) → IsDate Julian (first_date_in written)
      → IsDate Gregorian day → IsSameDay (first_date_in written) day → MeansDay written precision julian day
  kept : IsDated written → unsigned_abs written.year ≤ 9999 → IsFalse (is_converted written precision julian)
      → IsDate Gregorian (first_date_in written) → day ≡ first_date_in written → MeansDay written precision julian day
