-- A time's literal is not much longer than its text.
use Rattle.std.proofs.Common.{◌≡◌, ℕ, ◌+◌, ◌-◌, ◌<◌, ◌≤◌, Bool, true, false, cond, List, [], ◌∷◌, ◌++◌, length, Option, Some, None, refl, ap, arith}
use Rattle.std.specs.Prelude.{replicate, unsigned_abs, int_lt, pos}
use Rattle.std.proofs.lemmas.List.{length-append, length-replicate}
use Rattle.std.specs.Fmt.{decimal}
use Rattle.digits.proofs.Decimals.{decimal_short}
use Rattle.wb_values.specs.declared.calendar.CalendarDate.{CalendarDate}
use Rattle.wb_values.specs.declared.literal.TimeText.{TimeText}
use Rattle.wb_values.specs.declared.literal.TimeText.TheVariants.{DateTime, Plain}
use Rattle.wb_values.specs.Literal.{zero_padded, sign_text, date_time_text, meant_time, literal_meant, time_literal}
use Rattle.wb_values.proofs.LiteralLemmas.{meant_sound}

zero_padded_short : (width n : ℕ) → length (zero_padded width n) ≤ width + 64
zero_padded_short width n =
    omega (arith, decimal_short n, length-append (replicate (width - length (decimal n)) 48) (decimal n), length-replicate {A = ℕ} (width - length (decimal n)) 48)

sign_short : (b : Bool) → length {A = ℕ} (cond b (45 ∷ []) []) ≤ 1
sign_short true = omega arith
sign_short false = omega arith

clock_short : (text : List ℕ) (precision : ℕ) (julian : Bool) (day : CalendarDate) (clock : List ℕ) → meant_time text precision julian ≡ Some (day, clock) → length clock < length text
clock_short text precision julian day clock e =
    let m = meant_sound text precision julian day clock e in
    omega (arith, ap length m.1.is, length-append m.1.date (84 ∷ clock))

date_time_short : (day : CalendarDate) (clock : List ℕ) → length (date_time_text day clock) ≤ length clock + 210
date_time_short day clock =
    let sign = sign_text day.year in
    let year = zero_padded 4 (unsigned_abs day.year) in
    let month = 45 ∷ zero_padded 2 day.month in
    let date = 45 ∷ zero_padded 2 day.day in
    omega (arith, sign_short (int_lt day.year (pos 0)), zero_padded_short 4 (unsigned_abs day.year), zero_padded_short 2 day.month, zero_padded_short 2 day.day, length-append sign year, length-append (sign ++ year) month, length-append (sign ++ year ++ month) date, length-append (sign ++ year ++ month ++ date) (84 ∷ clock))

-- the text of a literal
abbrev pub literal_text : TimeText → List ℕ
literal_text (DateTime text) = text
literal_text (Plain text) = text

short_by : (text : List ℕ) (precision : ℕ) (julian : Bool) (meant : Option (CalendarDate × List ℕ)) → meant_time text precision julian ≡ meant → length (literal_text (literal_meant text meant)) ≤ length text + 210
short_by text precision julian None e = omega arith
short_by text precision julian (Some (day, clock)) e =
    omega (arith, date_time_short day clock, clock_short text precision julian day clock e)

-- a time's literal has at most 210 bytes more than its text
pub time_literal_short : (text : List ℕ) (precision : ℕ) (julian : Bool) → length (literal_text (time_literal text precision julian)) ≤ length text + 210
time_literal_short text precision julian = short_by text precision julian (meant_time text precision julian) refl
