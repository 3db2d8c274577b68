-- How the days of the Julian and the Gregorian calendar are counted.
use Rattle.std.proofs.Common.{◌≡◌, ℕ, zero, suc, ◌+◌, ◌-◌, ◌*◌, ◌/◌, ◌<◌, ◌≤◌, inl, inr, Bool, true, false, cond, nat_lt, refl, sym, ap, ◌∙◌, arith, add-one, ℤ, pos, negsuc, neg_ℤ, ◌+ℤ◌, ◌-ℤ◌, ◌≤ℤ◌, ◌<ℤ◌, unsigned_abs}
use Rattle.std.specs.Int.{IsInRange}
use Rattle.std.proofs.lemmas.Bool.{cases_order}
use Rattle.std.proofs.lemmas.Bool.Decides.{nat_tests}
use Rattle.std.proofs.lemmas.Int.{by_lt_z}
use Rattle.jiff_core.specs.Calendar.{days_of_years as jiff_days_of_years, days_of_months as jiff_days_of_months, days_in_month as jiff_days_in_month, day_count as jiff_day_count}
use Rattle.jiff_core.specs.declared.civil.date.Date.{Date}
use Rattle.jiff_core.specs.Date.{epoch_day}
use Rattle.jiff_core.proofs.SignedLemmas.{signed_arith, unsigned_abs-parts}
use Rattle.jiff_core.proofs.MarchLemmas.{day_count-late}
use Rattle.jiff_core.proofs.CalendarLemmas.{days_from_civil-day_count, day_count-day, day_count-next_month, day_count-next_year, day_count-later_year, day_count-day_of_year, day_of_year_before, days_in_month_bounds, days_of_months_all, days_of_months_more}
use Rattle.wb_values.specs.declared.calendar.Calendar.{Calendar}
use Rattle.wb_values.specs.declared.calendar.Calendar.TheVariants.{Julian, Gregorian}
use Rattle.wb_values.specs.declared.calendar.CalendarDate.{CalendarDate}
use Rattle.wb_values.specs.Calendar.{is_leap_year, days_in_year, days_in_month, days_of_years, days_of_months, day_count, last_julian_day, first_gregorian_day, nth_date, gregorian_date_of, IsDate, IsSameDay}
use borrow.Author.Tests.{ltb-true, ltb-false}

-- 1 for a Julian leap year, and 0 otherwise
abbrev pub julian_leap_day : ℤ → ℕ
julian_leap_day year = cond (is_leap_year Julian year) 1 0

julian_leap_day-shift : (n : ℕ) → julian_leap_day (pos n -ℤ pos 10000) ≡ julian_leap_day (pos n)
julian_leap_day-shift n = leap_day-shift_at (pos n -ℤ pos 10000) n (omega (arith, signed_arith))
  where
    leap_day-shift_at : (y : ℤ) (n : ℕ) → y +ℤ pos 10000 ≡ pos n → julian_leap_day y ≡ julian_leap_day (pos n)
    leap_day-shift_at (pos a) n e = let h : a + 10000 ≡ n = omega (arith, signed_arith) in grind (arith, nat_tests)
    leap_day-shift_at (negsuc a) n e = let h : n + suc a ≡ 10000 = omega (arith, signed_arith) in grind (arith, nat_tests)

-- the first n Julian years have 365 days each, and a leap day for each four of them that begin
pub days_of_years-julian : (n : ℕ) → days_of_years Julian n ≡ 365 * n + (n + 3) / 4
unfolding days_of_years
days_of_years-julian zero = refl
days_of_years-julian (suc n) =
    let shift = julian_leap_day-shift n in
    let before = days_of_years-julian n in
    let year : days_in_year Julian (pos n -ℤ pos 10000) ≡ 365 + julian_leap_day (pos n) = grind arith in
    let leap : julian_leap_day (pos n) + (n + 3) / 4 ≡ (suc n + 3) / 4 = grind (arith, nat_tests) in
    omega arith

-- the Gregorian count is that of `jiff`
pub days_of_years-gregorian : (n : ℕ) → days_of_years Gregorian n ≡ jiff_days_of_years n
unfolding days_of_years jiff_days_of_years
days_of_years-gregorian zero = refl
days_of_years-gregorian (suc n) = ap (λ k. k + days_in_year Gregorian (pos n -ℤ pos 10000)) (days_of_years-gregorian n)

pub days_of_months-gregorian : (year : ℤ) (n : ℕ) → days_of_months Gregorian year n ≡ jiff_days_of_months year n
unfolding days_of_months jiff_days_of_months
days_of_months-gregorian year zero = refl
days_of_months-gregorian year (suc n) = ap (λ k. k + days_in_month Gregorian year (suc n)) (days_of_months-gregorian year n)

pub day_count-gregorian : (date : CalendarDate) → 1 ≤ date.day → day_count Gregorian date ≡ jiff_day_count date.year date.month date.day
unfolding day_count jiff_day_count
day_count-gregorian date first =
    omega (arith, days_of_years-gregorian (unsigned_abs (date.year +ℤ pos 10000)), days_of_months-gregorian date.year (date.month - 1))

-- the years from the year -10000 on are counted from 0
pub years_from : (years : ℤ) → pos 0 ≤ℤ years → years ≡ pos (unsigned_abs years)
years_from (pos n) h = refl
years_from (negsuc n) h = absurd (omega (arith, signed_arith))

-- a Julian date's count, in closed form up to its months
pub day_count-julian : (date : CalendarDate) (n : ℕ) → date.year +ℤ pos 10000 ≡ pos n → day_count Julian date ≡ 365 * n + (n + 3) / 4 + (days_of_months Julian date.year (date.month - 1) + date.day - 1)
unfolding day_count
day_count-julian date n e = rw (e, days_of_years-julian n)

-- the two days that are the same, counted from 1 January of the year -10000
pub day_count-last_julian_day : day_count Julian last_julian_day ≡ 4_230_603
unfolding days_of_months
day_count-last_julian_day = day_count-julian last_julian_day 11582 refl

pub day_count-first_gregorian_day : day_count Gregorian first_gregorian_day ≡ 4_230_526
day_count-first_gregorian_day =
    day_count-gregorian first_gregorian_day (omega arith)
    ∙ day_count-late (pos 1582) 11582 10 15 refl (omega arith) (omega arith) (omega arith)

-- the days of a year lie before the next month's, and at most 31 a month
pub days_of_months_bound : (calendar : Calendar) (year : ℤ) (n : ℕ) → days_of_months calendar year n ≤ 31 * n
unfolding days_of_months
days_of_months_bound calendar year zero = omega arith
days_of_months_bound calendar year (suc n) =
    let before = days_of_months_bound calendar year n in
    let month : days_in_month calendar year (suc n) ≤ 31 = grind arith in
    omega arith

-- a Gregorian date from the year -10000 on, and how many days lie before it
record IsCounted (n : ℕ) (date : CalendarDate) : Type 0 where
  month_in : IsInRange 1 12 date.month
  day_in : IsInRange 1 (jiff_days_in_month date.year date.month) date.day
  year_from : neg_ℤ (pos 10000) ≤ℤ date.year
  count : jiff_day_count date.year date.month date.day ≡ n

same_day_after : (n : ℕ) (date : CalendarDate) → IsCounted n date → date.day < jiff_days_in_month date.year date.month → IsCounted (suc n) (record date { day = suc date.day })
same_day_after n date here more = record {
  month_in = here.month_in;
  day_in = (omega arith, omega arith);
  year_from = here.year_from;
  count = omega (arith, here.count, here.day_in.0, day_count-day date.year date.month date.day (suc date.day) here.day_in.0 (omega arith));
}

next_month_after : (n : ℕ) (date : CalendarDate) → IsCounted n date → jiff_days_in_month date.year date.month ≤ date.day → date.month < 12 → IsCounted (suc n) (record { year = date.year; month = suc date.month; day = 1 })
next_month_after n date here last more =
    let next = day_count-next_month date.year date.month here.month_in.0 in
    let first = day_count-day date.year date.month date.day 1 here.day_in.0 (omega arith) in
    let bounds = days_in_month_bounds date.year (suc date.month) in
    record {
      month_in = (omega arith, omega arith);
      day_in = (omega arith, omega arith);
      year_from = here.year_from;
      count = omega (arith, here.count, here.day_in.1, rw add-one at next);
    }

next_year_after : (n : ℕ) (date : CalendarDate) → IsCounted n date → jiff_days_in_month date.year date.month ≤ date.day → 12 ≤ date.month → IsCounted (suc n) (record { year = date.year +ℤ pos 1; month = 1; day = 1 })
next_year_after n date here last more =
    let december : date.month ≡ 12 = omega (arith, here.month_in.1) in
    let whole = day_count-day_of_year date.year date.month date.day here.day_in.0 in
    let next = day_count-next_year date.year (date.year +ℤ pos 1) here.year_from refl in
    let all = days_of_months_all date.year in
    let more = days_of_months_more date.year date.month here.month_in.0 in
    let length = ap (jiff_days_of_months date.year) december in
    record {
      month_in = (omega arith, omega arith);
      day_in = (omega arith, omega (arith, days_in_month_bounds (date.year +ℤ pos 1) 1));
      year_from = omega (arith, signed_arith, here.year_from);
      count = omega (arith, here.count, here.day_in.1);
    }

counted_next : (day month : Bool) (n : ℕ) (date : CalendarDate) → IsCounted n date → nat_lt date.day (jiff_days_in_month date.year date.month) ≡ day → nat_lt date.month 12 ≡ month → IsCounted (suc n) (cond day (record date { day = suc date.day }) (cond month (record { year = date.year; month = suc date.month; day = 1 }) (record { year = date.year +ℤ pos 1; month = 1; day = 1 })))
counted_next true month n date here is_day is_month = same_day_after n date here (omega (arith, ltb-true _ _ is_day))
counted_next false true n date here is_day is_month = next_month_after n date here (omega (arith, ltb-false _ _ is_day)) (omega (arith, ltb-true _ _ is_month))
counted_next false false n date here is_day is_month = next_year_after n date here (omega (arith, ltb-false _ _ is_day)) (omega (arith, ltb-false _ _ is_month))

first_counted : IsCounted 0 (record { year = neg_ℤ (pos 10000); month = 1; day = 1 })
unfolding jiff_day_count jiff_days_of_years jiff_days_of_months
first_counted = record {
  month_in = (omega arith, omega arith);
  day_in = (omega arith, omega arith);
  year_from = omega (arith, signed_arith);
  count = refl;
}

-- going on day by day counts the days
nth_date_counted : (n : ℕ) → IsCounted n (nth_date Gregorian n)
unfolding nth_date
nth_date_counted zero = first_counted
nth_date_counted (suc n) = counted_next _ _ n (nth_date Gregorian n) (nth_date_counted n) refl refl

-- a later year has a greater count
later_year : (m n : ℕ) (a b : CalendarDate) → IsCounted m a → IsCounted n b → a.year <ℤ b.year → m < n
later_year m n a b one two later =
    omega (arith, one.count, two.count, day_count-day_of_year a.year a.month a.day one.day_in.0, day_count-day_of_year b.year b.month b.day two.day_in.0, day_of_year_before a.year a.month a.day 12 one.month_in.0 one.day_in.1 one.month_in.1, days_of_months_all a.year, day_count-later_year a.year b.year one.year_from later)

-- a later month of one year has a greater count
later_month : (m n : ℕ) (a b : CalendarDate) → IsCounted m a → IsCounted n b → a.year ≡ b.year → a.month < b.month → m < n
later_month m n a b one two year later =
    let same : jiff_day_count a.year b.month b.day ≡ n = ap (λ y. jiff_day_count y b.month b.day) year ∙ two.count in
    omega (arith, one.count, day_count-day_of_year a.year a.month a.day one.day_in.0, day_count-day_of_year a.year b.month b.day two.day_in.0, day_of_year_before a.year a.month a.day (b.month - 1) one.month_in.0 one.day_in.1 (omega arith))

-- a later day of one month has a greater count
same_month : (m n : ℕ) (a b : CalendarDate) → IsCounted m a → IsCounted n b → a.year ≡ b.year → a.month ≡ b.month → m + b.day ≡ n + a.day
same_month m n a b one two year month =
    let same : jiff_day_count a.year a.month b.day ≡ n = ap (λ y. jiff_day_count y a.month b.day) year ∙ ap (λ k. jiff_day_count b.year k b.day) month ∙ two.count in
    omega (arith, one.count, day_count-day a.year a.month a.day b.day one.day_in.0 two.day_in.0)

-- two dates with one count are one date
counted_once : (n : ℕ) (a b : CalendarDate) → IsCounted n a → IsCounted n b → (a.year ≡ b.year) × (a.month ≡ b.month) × (a.day ≡ b.day)
counted_once n a b one two =
    by_lt_z a.year b.year (λ lt. absurd (omega (arith, later_year n n a b one two lt)))
    (λ ge. by_lt_z b.year a.year (λ gt. absurd (omega (arith, later_year n n b a two one gt)))
    (λ le. let year : a.year ≡ b.year = omega (arith, signed_arith) in
    elim (cases_order a.month b.month) [
      | inl month ↦ (year, month, omega (arith, same_month n n a b one two year month))
      | inr (inl lt) ↦ absurd (omega (arith, later_month n n a b one two year lt))
      | inr (inr gt) ↦ absurd (omega (arith, later_month n n b a two one (sym year) gt))
    ]))

-- the date of these parts
abbrev pub dated : ℤ → ℕ → ℕ → CalendarDate
dated year month day = record { year = year; month = month; day = day }

same_date : (a b : CalendarDate) → (a.year ≡ b.year) × (a.month ≡ b.month) × (a.day ≡ b.day) → a ≡ b
same_date a b e = ap (λ y. dated y a.month a.day) e.0 ∙ ap (λ m. dated b.year m a.day) e.1 ∙ ap (dated b.year b.month) e.2

-- the day of a Julian date from the year -9997 on, found by `jiff` or day by day, is one
pub gregorian_date_of_is : (julian date : CalendarDate) (days : ℕ) → IsInRange 1 12 date.month → IsInRange 1 (jiff_days_in_month date.year date.month) date.day → neg_ℤ (pos 10000) ≤ℤ date.year → jiff_day_count date.year date.month date.day ≡ days → days + 77 ≡ day_count Julian julian → (date ≡ gregorian_date_of julian) × IsSameDay julian date
gregorian_date_of_is julian date days month_in day_in year_from count e =
    let here : IsCounted days date = record { month_in = month_in; day_in = day_in; year_from = year_from; count = count } in
    let same : day_count Julian julian + day_count Gregorian first_gregorian_day - day_count Julian last_julian_day ≡ days = omega (arith, day_count-last_julian_day, day_count-first_gregorian_day) in (
      rw same (same_date date (nth_date Gregorian days) (counted_once days date (nth_date Gregorian days) here (nth_date_counted days))),
      omega (arith, day_count-last_julian_day, day_count-first_gregorian_day, day_count-gregorian date day_in.0),
    )

-- the days before a month are those before the month before, and that month's
pub days_of_months-more : (calendar : Calendar) (year : ℤ) (month : ℕ) → 1 ≤ month → days_of_months calendar year month ≡ days_of_months calendar year (month - 1) + days_in_month calendar year month
unfolding days_of_months
days_of_months-more calendar year zero first = absurd (omega arith)
days_of_months-more calendar year (suc month) first = let back : suc month - 1 ≡ month = omega arith in rw back

pub days_of_months-none : (calendar : Calendar) (year : ℤ) → days_of_months calendar year 0 ≡ 0
unfolding days_of_months
days_of_months-none calendar year = refl

-- the date that `jiff` finds for the day of a Julian date
pub gregorian_date_is : (julian : CalendarDate) (date : Date) (year : ℤ) (days : ℕ) → year ≡ date.year → epoch_day date +ℤ pos 4_371_587 ≡ pos days → days + 443 ≡ day_count Julian julian → (dated year date.month date.day ≡ gregorian_date_of julian) × IsSameDay julian (dated year date.month date.day)
gregorian_date_is julian date year days same found e =
    let count : jiff_day_count date.year date.month date.day ≡ days + 366 = omega (arith, signed_arith, days_from_civil-day_count date.year date.month date.day) in
    rw same (gregorian_date_of_is julian (record { year = date.year; month = date.month; day = date.day }) (days + 366) date.month_in date.day_in (omega (arith, signed_arith, date.year_in)) count (omega arith))

-- the Gregorian date that is found for a Julian one is a date, and the same day
pub gregorian_date_of_there : (julian : CalendarDate) → IsDate Julian julian → neg_ℤ (pos 9998) ≤ℤ julian.year → IsDate Gregorian (gregorian_date_of julian) × IsSameDay julian (gregorian_date_of julian)
gregorian_date_of_there julian here low =
    let days = day_count Julian julian + day_count Gregorian first_gregorian_day - day_count Julian last_julian_day in
    let there = nth_date_counted days in
    let date = nth_date Gregorian days in
    let enough = day_count-julian julian (unsigned_abs (julian.year +ℤ pos 10000)) (years_from (julian.year +ℤ pos 10000) (omega (arith, signed_arith))) in
    let years : 2 ≤ unsigned_abs (julian.year +ℤ pos 10000) = omega (arith, signed_arith, unsigned_abs-parts (julian.year +ℤ pos 10000)) in (
      record { year_from = there.year_from; month_in = there.month_in; day_in = there.day_in },
      omega (arith, day_count-last_julian_day, day_count-first_gregorian_day, day_count-gregorian date there.day_in.0, there.count),
    )

-- and no other Gregorian date is the same day
pub only_same_day : (julian date : CalendarDate) → neg_ℤ (pos 9998) ≤ℤ julian.year → IsDate Gregorian date → IsSameDay julian date → gregorian_date_of julian ≡ date
only_same_day julian date low there same =
    sym (gregorian_date_of_is julian date (jiff_day_count date.year date.month date.day) there.month_in there.day_in there.year_from refl (omega (arith, day_count-last_julian_day, day_count-first_gregorian_day, day_count-gregorian date there.day_in.0))).0
