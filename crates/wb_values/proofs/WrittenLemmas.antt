-- The parts of a time's text: the numbers that its digits write, and that the reading of the parts finds just them.
use Rattle.std.proofs.Common.{◌≡◌, ℕ, ◌-◌, ◌<◌, inl, inr, Bool, true, not, ◌&&◌, nat_eq, List, [], ◌∷◌, ◌++◌, length, take, drop, get_or, Some, ℤ, refl, sym, ap, ◌∙◌, arith}
use Rattle.std.proofs.Math.ListN.{drop_of_length-le}
use Rattle.std.proofs.Math.Seq.{take-append_seam, drop-append_seam, drop-append-add}
use Rattle.std.proofs.lemmas.Bool.Decides.{nat_tests}
use Rattle.std.proofs.lemmas.Bool.{false≢true, cases_lt, and_parts}
use Rattle.std.proofs.lemmas.List.{take-append-drop, length-append}
use Rattle.std.proofs.lemmas.List.Folds.{list_all-append}
use Rattle.std.proofs.lemmas.List.Sums.{split_at_first, passes_at_first}
use Rattle.std.specs.Char.{is_ascii_digit}
use Rattle.std.specs.List.{list_all, position_or_len}
use Rattle.digits.specs.Number.{decimal_value, two_digits}
use Rattle.digits.proofs.Choices.{guarded, mapped, chained}
use Rattle.digits.proofs.Pairs.{pair_are}
use Rattle.wb_values.specs.declared.calendar.CalendarDate.{CalendarDate}
use Rattle.wb_values.specs.Written.{is_clock, is_year, signed, signed_year, date_in_year, written_date, date_part, clock_part, written_time, IsWrittenDate, IsWrittenTime}

-- a sign and a year, from a text that has them
record IsSignedYear (text : List ℕ) (year : ℤ) : Type 0 where
  sign : ℕ
  digits : List ℕ
  is_digits : is_year digits ≡ true
  number : signed sign (decimal_value digits) ≡ Some year
  is : text ≡ sign ∷ digits

year_sound : (text : List ℕ) (year : ℤ) → signed_year text ≡ Some year → IsSignedYear text year
year_sound [] year e = cc
year_sound (sign ∷ digits) year e =
    let g = guarded (is_year digits) (signed sign (decimal_value digits)) year e in
    record { sign = sign; digits = digits; is_digits = g.0; number = g.1; is = refl }

-- a month and a day, from a text that has them
record IsMonthAndDay (text : List ℕ) (year : ℤ) (date : CalendarDate) : Type 0 where
  m₁ : ℕ
  m₂ : ℕ
  d₁ : ℕ
  d₂ : ℕ
  year_is : date.year ≡ year
  month : two_digits m₁ m₂ ≡ Some date.month
  day : two_digits d₁ d₂ ≡ Some date.day
  is : text ≡ 45 ∷ m₁ ∷ m₂ ∷ 45 ∷ d₁ ∷ d₂ ∷ []

month_and_day_sound : (year : ℤ) (text : List ℕ) (date : CalendarDate) → date_in_year year text ≡ Some date → IsMonthAndDay text year date
month_and_day_sound year [] date e = cc
month_and_day_sound year (a ∷ []) date e = cc
month_and_day_sound year (a ∷ m₁ ∷ []) date e = cc
month_and_day_sound year (a ∷ m₁ ∷ m₂ ∷ []) date e = cc
month_and_day_sound year (a ∷ m₁ ∷ m₂ ∷ b ∷ []) date e = cc
month_and_day_sound year (a ∷ m₁ ∷ m₂ ∷ b ∷ d₁ ∷ []) date e = cc
month_and_day_sound year (a ∷ m₁ ∷ m₂ ∷ b ∷ d₁ ∷ d₂ ∷ more ∷ rest) date e = cc
month_and_day_sound year (a ∷ m₁ ∷ m₂ ∷ b ∷ d₁ ∷ d₂ ∷ []) date e =
    let g = guarded ((nat_eq a 45) && (nat_eq b 45)) _ date e in
    let dashes = and_parts (nat_eq a 45) (nat_eq b 45) g.0 in
    let month = chained _ (two_digits m₁ m₂) date g.1 in
    let day = mapped _ (two_digits d₁ d₂) date month.2 in
    let first : a ≡ 45 = grind (arith, nat_tests, dashes.0) in
    let second : b ≡ 45 = grind (arith, nat_tests, dashes.1) in
    record {
      m₁ = m₁;
      m₂ = m₂;
      d₁ = d₁;
      d₂ = d₂;
      year_is = sym (ap (λ d. d.year) day.2);
      month = month.1 ∙ ap Some (ap (λ d. d.month) day.2);
      day = day.1 ∙ ap Some (ap (λ d. d.day) day.2);
      is = rw (first, second);
    }

date_sound : (text : List ℕ) (date : CalendarDate) → written_date text ≡ Some date → IsWrittenDate text date
date_sound text date e =
    let cut = length text - 6 in
    let year = chained _ (signed_year (take cut text)) date e in
    let front = year_sound (take cut text) year.0 year.1 in
    let back = month_and_day_sound year.0 (drop cut text) date year.2 in
    record {
      sign = front.sign;
      digits = front.digits;
      m₁ = back.m₁;
      m₂ = back.m₂;
      d₁ = back.d₁;
      d₂ = back.d₂;
      is_year = front.is_digits;
      year = front.number ∙ ap Some (sym back.year_is);
      month = back.month;
      day = back.day;
      is = sym (take-append-drop cut text) ∙ ap (λ xs. xs ++ drop cut text) front.is ∙ ap (λ ys. front.sign ∷ (front.digits ++ ys)) back.is;
    }

-- a byte is `T`
abbrev is_t : ℕ → Bool
is_t b = nat_eq b 84

digit_no_t : (x : ℕ) → is_ascii_digit x ≡ true → not (is_t x) ≡ true
digit_no_t x h = grind (arith, nat_tests)

-- where a clock stands behind the first `T`, there is a `T`
position_in : (text : List ℕ) → is_clock (clock_part text) ≡ true → position_or_len is_t text < length text
position_in text h = elim (cases_lt (position_or_len is_t text) (length text)) [
  | inl lt ↦ lt
  | inr le ↦ let none : clock_part text ≡ [] = drop_of_length-le text (omega arith) in absurd (false≢true (ap is_clock (sym none) ∙ h))
]

-- what is read from a text stands there
pub written_sound : (text : List ℕ) (date : CalendarDate) (clock : List ℕ) → written_time text ≡ Some (date, clock) → IsWrittenTime text date clock
written_sound text date clock e =
    let g = guarded (is_clock (clock_part text)) _ (date, clock) e in
    let m = mapped _ (written_date (date_part text)) (date, clock) g.1 in
    let same : m.0 ≡ date = ap (λ p. p.0) m.2 in
    let tail : clock_part text ≡ clock = ap (λ p. p.1) m.2 in
    let here = position_in text g.0 in
    let mark : get_or text (position_or_len is_t text) 0 ≡ 84 = grind (arith, nat_tests, passes_at_first is_t text 0 here) in
    record {
      date = date_part text;
      is_date = date_sound (date_part text) date (m.1 ∙ ap Some same);
      is_clock = rw (← tail) g.0;
      is = split_at_first is_t text 0 here ∙ ap (λ t. date_part text ++ (t ∷ clock_part text)) mark ∙ ap (λ c. date_part text ++ (84 ∷ c)) tail;
    }

-- a list of which no element passes, and then one that does
pub first_index : (p : ℕ → Bool) (xs : List ℕ) (y : ℕ) (ys : List ℕ) → list_all (λ x. not (p x)) xs ≡ true → p y ≡ true → position_or_len p (xs ++ (y ∷ ys)) ≡ length xs
first_index p [] y ys none here = rw here
first_index p (x ∷ xs) y ys none here =
    let n = and_parts (not (p x)) (list_all (λ x. not (p x)) xs) none in
    rw n.0 (omega (arith, first_index p xs y ys n.1 here))

digits_hold_no_t : (xs : List ℕ) → list_all is_ascii_digit xs ≡ true → list_all (λ x. not (is_t x)) xs ≡ true
digits_hold_no_t [] h = refl
digits_hold_no_t (x ∷ xs) h =
    let n = and_parts (is_ascii_digit x) (list_all is_ascii_digit xs) h in
    let other : not (is_t x) ≡ true = digit_no_t x n.0 in
    rw (other, digits_hold_no_t xs n.1)

sign_no_t : (sign n : ℕ) (year : ℤ) → signed sign n ≡ Some year → not (is_t sign) ≡ true
sign_no_t sign n year e = grind (arith, nat_tests)

-- a date has no `T`
date_no_t : (text : List ℕ) (date : CalendarDate) → IsWrittenDate text date → list_all (λ x. not (is_t x)) text ≡ true
date_no_t text date r =
    let m = pair_are r.m₁ r.m₂ date.month r.month in
    let d = pair_are r.d₁ r.d₂ date.day r.day in
    let digits : list_all (λ x. not (is_t x)) r.digits ≡ true = digits_hold_no_t r.digits (and_parts _ (list_all is_ascii_digit r.digits) r.is_year).1 in
    rw (r.is, list_all-append (λ x. not (is_t x)) r.digits (45 ∷ r.m₁ ∷ r.m₂ ∷ 45 ∷ r.d₁ ∷ r.d₂ ∷ []), sign_no_t r.sign _ _ r.year, digits, digit_no_t r.m₁ m.0, digit_no_t r.m₂ m.1, digit_no_t r.d₁ d.0, digit_no_t r.d₂ d.1)

-- a text that stands for a date is read as it
date_complete : (text : List ℕ) (date : CalendarDate) → IsWrittenDate text date → written_date text ≡ Some date
date_complete text date r =
    let front = r.sign ∷ r.digits in
    let back = 45 ∷ r.m₁ ∷ r.m₂ ∷ 45 ∷ r.d₁ ∷ r.d₂ ∷ [] in
    let cut : length (front ++ back) - 6 ≡ length front = omega (arith, length-append front back) in
    let year : take (length (front ++ back) - 6) (front ++ back) ≡ front = rw cut (take-append_seam front back) in
    let day : drop (length (front ++ back) - 6) (front ++ back) ≡ back = rw cut (drop-append_seam front back) in
    rw (r.is, year, day, r.is_year, r.year, r.month, r.day)

-- what stands in a text is read from it
pub written_complete : (text : List ℕ) (date : CalendarDate) (clock : List ℕ) → IsWrittenTime text date clock → written_time text ≡ Some (date, clock)
written_complete text date clock r =
    let index : position_or_len is_t (r.date ++ (84 ∷ clock)) ≡ length r.date = first_index is_t r.date 84 clock (date_no_t r.date date r.is_date) refl in
    let front : date_part (r.date ++ (84 ∷ clock)) ≡ r.date = rw index (take-append_seam r.date (84 ∷ clock)) in
    let back : clock_part (r.date ++ (84 ∷ clock)) ≡ clock = rw index (drop-append-add r.date (84 ∷ clock) 1) in
    rw (r.is, back, front, r.is_clock, date_complete r.date date r.is_date)
