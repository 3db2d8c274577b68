use Rattle.std.proofs.Common.{◌≡◌, ◌-◌}
use Rattle.wb_values.specs.Calendar.{days_of_months}
use Rattle.wb_values.proofs.calendar.Calendar.days_before_month.Given as goal

abbrev pub invariant-loop-earlier : goal.invariant-loop-earlier
invariant-loop-earlier l = l.days ≡ days_of_months l.self l.year (l.earlier - 1)
