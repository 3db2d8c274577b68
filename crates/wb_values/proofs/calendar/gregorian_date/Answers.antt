use Rattle.std.proofs.Common.{◌≡◌, ◌∙◌, arith, FitsSigned, w64, to_z, of_z, to_z-of_z}
use Rattle.std.specs.Int.{w16}
use Rattle.jiff_core.proofs.SignedLemmas.{signed_arith}
use Rattle.wb_values.proofs.CalendarLemmas.{gregorian_date_is}
use Rattle.wb_values.proofs.calendar.gregorian_date.Goals as goal

pub returns-clause-date : goal.returns-clause-date
returns-clause-date c =
    let date = c.from_days_since_min-date.result in
    let fits : FitsSigned w64 c.from.result = omega (arith, signed_arith, date.year_in) in
    let short : FitsSigned w16 date.year = omega (arith, signed_arith, date.year_in) in
    let year : to_z w64 (of_z w64 c.from.result) ≡ date.year = to_z-of_z fits ∙ c.from.ensures ∙ to_z-of_z short in
    (gregorian_date_is c.args.julian date _ _ year c.from_days_since_min-date.ensures (omega (arith, c.julian_day_count-days.ensures.value))).0

pub returns-clause-same_day : goal.returns-clause-same_day
returns-clause-same_day c =
    let date = c.from_days_since_min-date.result in
    let fits : FitsSigned w64 c.from.result = omega (arith, signed_arith, date.year_in) in
    let short : FitsSigned w16 date.year = omega (arith, signed_arith, date.year_in) in
    let year : to_z w64 (of_z w64 c.from.result) ≡ date.year = to_z-of_z fits ∙ c.from.ensures ∙ to_z-of_z short in
    (gregorian_date_is c.args.julian date _ _ year c.from_days_since_min-date.ensures (omega (arith, c.julian_day_count-days.ensures.value))).1
