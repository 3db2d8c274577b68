use Rattle.std.proofs.Common.{◌≡◌, ◌+◌, ◌-◌, ◌∙◌, ap, sym, arith, ℤ, to_z, of_z, w64, to_z-of_z}
use Rattle.wb_values.specs.Calendar.{days_of_months}
use Rattle.wb_values.proofs.CalendarLemmas.{days_of_months-none, days_of_months-more, days_of_months_bound}
use Rattle.wb_values.proofs.calendar.Calendar.days_before_month.Goals as goal

pub loop-earlier-init : goal.loop-earlier-init
loop-earlier-init c = sym (days_of_months-none c.args.self _)

pub overflow_add-days : goal.overflow_add-days
overflow_add-days c =
    omega (arith, days_of_months_bound c.args.self (to_z w64 (of_z w64 c.args.year)) (c.loop-earlier.earlier - 1))

pub loop-earlier-preserved : goal.loop-earlier-preserved
loop-earlier-preserved c =
    let back : c.loop-earlier.earlier + 1 - 1 ≡ c.loop-earlier.earlier = omega arith in
    rw back (omega (arith, days_of_months-more c.args.self (to_z w64 (of_z w64 c.args.year)) c.loop-earlier.earlier (omega arith)))

pub returns-clause-value : goal.returns-clause-value
returns-clause-value c =
    let last : c.loop-earlier.earlier - 1 ≡ c.args.month - 1 = omega arith in
    c.loop-earlier.invariant ∙ ap (days_of_months c.args.self (to_z w64 (of_z w64 c.args.year))) last ∙ ap (λ (y : ℤ). days_of_months c.args.self y (c.args.month - 1)) (to_z-of_z c.ranges.year)

pub returns-clause-bound : goal.returns-clause-bound
returns-clause-bound c =
    omega (arith, days_of_months_bound c.args.self (to_z w64 (of_z w64 c.args.year)) (c.loop-earlier.earlier - 1))
