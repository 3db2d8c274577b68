-- A time's text has one literal. What the formats `{:04}` and `{:02}` write, and the text of a date with its parts joined from the right.
use Rattle.std.proofs.Common.{◌≡◌, ℕ, List, [], ◌∷◌, ◌++◌, refl, sym, ap, ◌∙◌, append_assoc, Bool, Option, Some, None}
use Rattle.std.specs.Prelude.{unsigned_abs}
use Rattle.std.proofs.Math.Nat.{sub-zero}
use Rattle.std.proofs.lemmas.List.{append-nil}
use Rattle.std.specs.Fmt.{char_count, padded_integral, format_spec, styled_decimal}
use Rattle.wb_values.specs.declared.calendar.CalendarDate.{CalendarDate}
use Rattle.std.proofs.lemmas.Option.{none-some}
use Rattle.wb_values.specs.declared.literal.TimeText.{TimeText}
use Rattle.wb_values.specs.GregorianDay.{gregorian_day, MeansDay}
use Rattle.wb_values.specs.Written.{written_time, IsWrittenTime}
use Rattle.wb_values.specs.Literal.{zero_padded, sign_text, date_time_text, meant_time, literal_meant, time_literal, IsLiteral, date_time, plain, IsOnlyLiteral}
use Rattle.wb_values.proofs.DayLemmas.{found_is_meant, meant_is_found}
use Rattle.digits.proofs.Choices.{chained, mapped}
use Rattle.wb_values.proofs.WrittenLemmas.{written_sound, written_complete}

pub padded_to_four : (n : ℕ) → styled_decimal (format_spec 32 0 4 4 18446744073709551615) n ≡ zero_padded 4 n
unfolding padded_integral char_count
padded_to_four n = simp (sub-zero, append-nil)

pub padded_to_two : (n : ℕ) → styled_decimal (format_spec 32 0 4 2 18446744073709551615) n ≡ zero_padded 2 n
unfolding padded_integral char_count
padded_to_two n = simp (sub-zero, append-nil)

pub clock_behind : (date : CalendarDate) (clock : List ℕ) → (sign_text date.year ++ zero_padded 4 (unsigned_abs date.year) ++ 45 ∷ zero_padded 2 date.month ++ 45 ∷ zero_padded 2 date.day) ++ ((84 ∷ []) ++ clock) ≡ date_time_text date clock
clock_behind date clock = refl

pub meant_sound : (text : List ℕ) (precision : ℕ) (julian : Bool) (day : CalendarDate) (clock : List ℕ) → meant_time text precision julian ≡ Some (day, clock) → (written : CalendarDate) × IsWrittenTime text written clock × MeansDay written precision julian day
meant_sound text precision julian day clock e =
    let found = chained _ (written_time text) (day, clock) e in
    let m = mapped _ (gregorian_day found.0.0 precision julian) (day, clock) found.2 in
    let here : m.0 ≡ day = ap (λ p. p.0) m.2 in
    let tail : found.0.1 ≡ clock = ap (λ p. p.1) m.2 in (
      found.0.0,
      written_sound text found.0.0 clock (found.1 ∙ ap (λ c. Some (found.0.0, c)) tail),
      found_is_meant found.0.0 precision julian day (m.1 ∙ ap Some here),
    )

meant_complete : (text : List ℕ) (precision : ℕ) (julian : Bool) (written : CalendarDate) (clock : List ℕ) (day : CalendarDate) → IsWrittenTime text written clock → MeansDay written precision julian day → meant_time text precision julian ≡ Some (day, clock)
meant_complete text precision julian written clock day there means =
    rw (written_complete text written clock there, meant_is_found written precision julian day means)

-- the literal, by what the text means
literal_by : (text : List ℕ) (precision : ℕ) (julian : Bool) (meant : Option (CalendarDate × List ℕ)) → meant_time text precision julian ≡ meant → IsLiteral text precision julian (literal_meant text meant)
literal_by text precision julian None e =
    plain (λ written clock day there means. absurd (none-some (day, clock) (sym e ∙ meant_complete text precision julian written clock day there means))) refl
literal_by text precision julian (Some (day, clock)) e =
    let m = meant_sound text precision julian day clock e in
    date_time m.0 clock day m.1 m.2 refl

only_by : (text : List ℕ) (precision : ℕ) (julian : Bool) (literal : TimeText) → IsLiteral text precision julian literal → literal ≡ time_literal text precision julian
only_by text precision julian literal (date_time written clock day there means e) =
    e ∙ sym (ap (literal_meant text) (meant_complete text precision julian written clock day there means))
only_by text precision julian literal (plain none e) = e ∙ sym (ap (literal_meant text) (no_meaning (meant_time text precision julian) refl))
  where
    no_meaning : (meant : Option (CalendarDate × List ℕ)) → meant_time text precision julian ≡ meant → meant_time text precision julian ≡ None
    no_meaning None m = m
    no_meaning (Some (day, clock)) m = let s = meant_sound text precision julian day clock m in absurd (none s.0 clock day s.1 s.2)

-- what the rules compute is the one literal that they allow
pub only_literal : (text : List ℕ) (precision : ℕ) (julian : Bool) (literal : TimeText) → literal ≡ time_literal text precision julian → IsOnlyLiteral text precision julian literal
only_literal text precision julian literal e = record {
  is = rw e (literal_by text precision julian (meant_time text precision julian) refl);
  only = λ other o. only_by text precision julian other o ∙ sym e;
}

pub the_literal : (text : List ℕ) (precision : ℕ) (julian : Bool) → IsOnlyLiteral text precision julian (time_literal text precision julian)
the_literal text precision julian = only_literal text precision julian (time_literal text precision julian) refl
