-- The Julian and the proleptic Gregorian calendar, day by day. The year before 1 is 0, and the year before that is -1.
use Rattle.std.specs.Prelude.{◌≡◌, ℕ, zero, suc, ◌+◌, ◌-◌, ◌%◌, Bool, not, ◌&&◌, ◌||◌, ◌==◌, nat_lt, nat_le, if◌then◌else◌, ℤ, pos, neg_ℤ, ◌+ℤ◌, ◌-ℤ◌, ◌≤ℤ◌, unsigned_abs}
use Rattle.std.specs.Int.{IsInRange}
use Rattle.wb_values.specs.declared.calendar.Calendar.{Calendar}
use Rattle.wb_values.specs.declared.calendar.Calendar.TheVariants.{Julian, Gregorian}
use Rattle.wb_values.specs.declared.calendar.CalendarDate.{CalendarDate}

-- every fourth year; but of the centuries, the Gregorian calendar has only every fourth
abbrev pub is_leap_year : Calendar → ℤ → Bool
is_leap_year Julian year = unsigned_abs year % 4 == 0
is_leap_year Gregorian year =
    (unsigned_abs year % 4 == 0) && (not (unsigned_abs year % 100 == 0) || (unsigned_abs year % 400 == 0))

-- the days of a year
abbrev pub days_in_year : Calendar → ℤ → ℕ
days_in_year calendar year = if is_leap_year calendar year then 366 else 365

-- thirty days have September, April, June and November
abbrev pub days_in_month : Calendar → ℤ → ℕ → ℕ
days_in_month calendar year month =
    if month == 2 then (if is_leap_year calendar year then 29 else 28)
    else (if (month == 4) || (month == 6) || (month == 9) || (month == 11) then 30 else 31)

-- the month of the date has that many days
abbrev pub has_day : Calendar → CalendarDate → Bool
has_day calendar date = nat_le date.day (days_in_month calendar date.year date.month)

-- the calendar has this day, and counts it: counts begin with the year -10000
pub record IsDate (calendar : Calendar) (date : CalendarDate) : Type 0 where
  pub year_from : neg_ℤ (pos 10000) ≤ℤ date.year
  pub month_in : IsInRange 1 12 date.month
  pub day_in : IsInRange 1 (days_in_month calendar date.year date.month) date.day

-- the days of the first n years from the year -10000 on
unfoldable pub days_of_years : Calendar → ℕ → ℕ
days_of_years calendar zero = 0
days_of_years calendar (suc n) = days_of_years calendar n + days_in_year calendar (pos n -ℤ pos 10000)

-- the days of the first n months of a year
unfoldable pub days_of_months : Calendar → ℤ → ℕ → ℕ
days_of_months calendar year zero = 0
days_of_months calendar year (suc n) =
    days_of_months calendar year n + days_in_month calendar year (suc n)

-- how many days lie between 1 January of the year -10000 and the date, in its own calendar
unfoldable pub day_count : Calendar → CalendarDate → ℕ
day_count calendar date = days_of_years calendar (unsigned_abs (date.year +ℤ pos 10000))
    + (days_of_months calendar date.year (date.month - 1) + date.day - 1)

-- the days that are the same: Julian 5 October 1582 and Gregorian 15 October 1582
abbrev pub last_julian_day : CalendarDate
last_julian_day = record { year = pos 1582; month = 10; day = 5 }

abbrev pub first_gregorian_day : CalendarDate
first_gregorian_day = record { year = pos 1582; month = 10; day = 15 }

-- a Julian and a Gregorian date are the same day: they are equally many days after those two
abbrev pub IsSameDay : CalendarDate → CalendarDate → Type 0
IsSameDay julian gregorian = day_count Julian julian + day_count Gregorian first_gregorian_day
    ≡ day_count Gregorian gregorian + day_count Julian last_julian_day

-- the next day of a calendar
abbrev pub next_day : Calendar → CalendarDate → CalendarDate
next_day calendar date =
    if nat_lt date.day (days_in_month calendar date.year date.month) then record date { day = suc date.day }
    else (if nat_lt date.month 12 then record { year = date.year; month = suc date.month; day = 1 }
    else record { year = date.year +ℤ pos 1; month = 1; day = 1 })

-- the date n days after 1 January of the year -10000, one by one
unfoldable pub nth_date : Calendar → ℕ → CalendarDate
nth_date calendar zero = record { year = pos 0 -ℤ pos 10000; month = 1; day = 1 }
nth_date calendar (suc n) = next_day calendar (nth_date calendar n)

-- the Gregorian date of the same day as a Julian date
abbrev pub gregorian_date_of : CalendarDate → CalendarDate
gregorian_date_of julian = nth_date Gregorian
    (day_count Julian julian + day_count Gregorian first_gregorian_day - day_count Julian last_julian_day)
