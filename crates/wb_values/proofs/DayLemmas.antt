-- The day that is found for a written date is the one day that the date means.
use Rattle.std.proofs.Common.{◌≡◌, ◌≢◌, ℕ, ◌≤◌, Bool, true, false, cond, nat_eq, nat_lt, Some, None, ℤ, pos, negsuc, neg_ℤ, ◌+ℤ◌, ◌≤ℤ◌, unsigned_abs, int_lt, refl, sym, ap, arith}
use Rattle.std.specs.Int.{IsInRange}
use Rattle.std.proofs.lemmas.Bool.Decides.{nat_tests}
use Rattle.std.proofs.lemmas.Option.{cond_some, same_Some}
use Rattle.jiff_core.proofs.SignedLemmas.{signed_arith, unsigned_abs-parts}
use Rattle.wb_values.specs.declared.calendar.Calendar.{Calendar}
use Rattle.wb_values.specs.declared.calendar.Calendar.TheVariants.{Julian, Gregorian}
use Rattle.wb_values.specs.declared.calendar.CalendarDate.{CalendarDate}
use Rattle.wb_values.specs.Calendar.{has_day, gregorian_date_of, IsDate}
use Rattle.wb_values.proofs.CalendarLemmas.{gregorian_date_of_there, only_same_day}
use Rattle.wb_values.specs.GregorianDay.{astronomical_year, january_first, first_date_in, gregorian_day, is_converted, is_undated, IsDated, MeansDay, long_year, converted, kept}

is_dated : (written : CalendarDate) → is_undated written ≡ false → IsDated written
is_dated written e = record {
  year = λ zero_year. grind (arith, nat_tests, ap unsigned_abs zero_year);
  month = grind (arith, nat_tests);
  day = grind (arith, nat_tests);
}

abs_zero : (year : ℤ) → unsigned_abs year ≡ 0 → year ≡ pos 0
abs_zero (pos n) e = ap pos e
abs_zero (negsuc n) e = absurd (omega arith)

not_undated : (written : CalendarDate) → IsDated written → is_undated written ≡ false
not_undated written here =
    let year : unsigned_abs written.year ≢ 0 = λ e. here.year (abs_zero written.year e) in
    grind (arith, nat_tests)

-- what holds of both choices holds of the choice
by_choice : (P : CalendarDate → Type 0) (b : Bool) (x y : CalendarDate) → (b ≡ true → P x) → (b ≡ false → P y) → P (cond b x y)
by_choice P true x y p q = p refl
by_choice P false x y p q = q refl

-- a date of some calendar has a month and a day, where 0 is read as the first
first_month : (written : CalendarDate) → IsDated written → IsInRange 1 12 (first_date_in written).month
first_month written here =
    by_choice (λ d. IsInRange 1 12 d.month) (nat_eq written.month 0) _ _
    (λ _. (omega arith, omega arith)) (λ e. (grind (arith, nat_tests), here.month))

first_day : (written : CalendarDate) → 1 ≤ (first_date_in written).day
first_day written =
    by_choice (λ d. 1 ≤ d.day) (nat_eq written.month 0) _ _ (λ _. omega arith) (λ e. grind (arith, nat_tests))

first_year : (written : CalendarDate) → (first_date_in written).year ≡ astronomical_year written.year
first_year written =
    by_choice (λ d. d.year ≡ astronomical_year written.year) (nat_eq written.month 0) _ _ (λ _. refl) (λ _. refl)

either_from : (b : Bool) (x y : ℤ) → neg_ℤ (pos 10000) ≤ℤ x → neg_ℤ (pos 10000) ≤ℤ y → neg_ℤ (pos 10000) ≤ℤ cond b x y
either_from true x y p q = p
either_from false x y p q = q

either_low : (b : Bool) (x y : ℤ) → neg_ℤ (pos 9998) ≤ℤ x → neg_ℤ (pos 9998) ≤ℤ y → neg_ℤ (pos 9998) ≤ℤ cond b x y
either_low true x y p q = p
either_low false x y p q = q

astronomical_from : (year : ℤ) → unsigned_abs year ≤ 9999 → neg_ℤ (pos 10000) ≤ℤ astronomical_year year
astronomical_from year h =
    either_from (int_lt (pos 0) year) year (year +ℤ pos 1)
    (omega (arith, signed_arith, unsigned_abs-parts year)) (omega (arith, signed_arith, unsigned_abs-parts year))

-- the calendar has the date, where its month has that many days
is_date : (calendar : Calendar) (written : CalendarDate) → IsDated written → unsigned_abs written.year ≤ 9999 → has_day calendar (first_date_in written) ≡ true → IsDate calendar (first_date_in written)
is_date calendar written here short e = record {
  year_from = rw first_year (astronomical_from written.year short);
  month_in = first_month written here;
  day_in = (first_day written, grind (arith, nat_tests));
}

-- and only there
has_its_day : (calendar : Calendar) (date : CalendarDate) → IsDate calendar date → has_day calendar date ≡ true
has_its_day calendar date here = let last = here.day_in.1 in grind (arith, nat_tests)

is_short : (written : CalendarDate) (precision : ℕ) (julian : Bool) → is_converted written precision julian ≡ true → unsigned_abs written.year ≤ 9998
is_short written precision true e = grind (arith, nat_tests)
is_short written precision false e = cc

-- a converted date is from the year -9997 on
first_low : (written : CalendarDate) → unsigned_abs written.year ≤ 9998 → neg_ℤ (pos 9998) ≤ℤ (first_date_in written).year
first_low written short = rw first_year (either_low (int_lt (pos 0) written.year) written.year (written.year +ℤ pos 1) (omega (arith, signed_arith, unsigned_abs-parts written.year)) (omega (arith, signed_arith, unsigned_abs-parts written.year)))

-- which way each choice went, of those that find the day
found_by : (undated long conv : Bool) (written : CalendarDate) (precision : ℕ) (julian : Bool) (day : CalendarDate) → is_undated written ≡ undated → nat_lt 9999 (unsigned_abs written.year) ≡ long → is_converted written precision julian ≡ conv
    → cond undated None (cond long (Some (january_first written)) (cond conv (cond (has_day Julian (first_date_in written)) (Some (gregorian_date_of (first_date_in written))) None) (cond (has_day Gregorian (first_date_in written)) (Some (first_date_in written)) None))) ≡ Some day → MeansDay written precision julian day
found_by true long conv written precision julian day u l k e = cc
found_by false true conv written precision julian day u l k e =
    long_year (is_dated written u) (grind (arith, nat_tests)) (sym (same_Some _ _ e))
found_by false false true written precision julian day u l k e =
    let dated = is_dated written u in
    let short = is_short written precision julian k in
    let g = cond_some (has_day Julian (first_date_in written)) _ day e in
    let date = is_date Julian written dated (omega arith) g.0 in
    let there = gregorian_date_of_there (first_date_in written) date (first_low written short) in
    converted dated k date (rw (← g.1) there.0) (rw (← g.1) there.1)
found_by false false false written precision julian day u l k e =
    let dated = is_dated written u in
    let short : unsigned_abs written.year ≤ 9999 = grind (arith, nat_tests) in
    let g = cond_some (has_day Gregorian (first_date_in written)) _ day e in
    kept dated short k (is_date Gregorian written dated short g.0) (sym g.1)

-- the day that is found is meant
pub found_is_meant : (written : CalendarDate) (precision : ℕ) (julian : Bool) (day : CalendarDate) → gregorian_day written precision julian ≡ Some day → MeansDay written precision julian day
found_is_meant written precision julian day e = found_by _ _ _ written precision julian day refl refl refl e

-- the day that is meant is found
pub meant_is_found : (written : CalendarDate) (precision : ℕ) (julian : Bool) (day : CalendarDate) → MeansDay written precision julian day → gregorian_day written precision julian ≡ Some day
meant_is_found written precision julian day (long_year dated long e) =
    let test : nat_lt 9999 (unsigned_abs written.year) ≡ true = grind (arith, nat_tests) in
    rw (not_undated written dated, test, e)
meant_is_found written precision julian day (converted dated k first there same) =
    let short = is_short written precision julian k in
    let test : nat_lt 9999 (unsigned_abs written.year) ≡ false = grind (arith, nat_tests) in
    rw (not_undated written dated, test, k, has_its_day Julian (first_date_in written) first) (ap Some (only_same_day (first_date_in written) day (first_low written short) there same))
meant_is_found written precision julian day (kept dated short k there e) =
    let test : nat_lt 9999 (unsigned_abs written.year) ≡ false = grind (arith, nat_tests) in
    rw (not_undated written dated, test, k, has_its_day Gregorian (first_date_in written) there, e)
