use Rattle.std.proofs.Common.{◌+ℤ◌, pos, arith, FitsSigned, unsigned_abs, w64, to_z-of_z}
use Rattle.jiff_core.proofs.SignedLemmas.{signed_arith}
use Rattle.wb_values.proofs.CalendarLemmas.{day_count-julian, years_from}
use Rattle.wb_values.proofs.calendar.julian_day_count.Goals as goal

pub returns-clause-value : goal.returns-clause-value
returns-clause-value c =
    let year = c.args.date.year in
    let fits : FitsSigned w64 year = omega (arith, signed_arith) in
    let later_fits : FitsSigned w64 (year +ℤ pos 10000) = omega (arith, signed_arith) in
    let count = day_count-julian c.args.date (unsigned_abs (year +ℤ pos 10000)) (years_from (year +ℤ pos 10000) (omega (arith, signed_arith))) in
    let months = simp to_z-of_z at c.days_before_month-months.ensures.value in
    let first = c.requires.date.day_in.0 in
    simp to_z-of_z (omega arith)
