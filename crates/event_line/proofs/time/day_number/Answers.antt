use Rattle.std.proofs.Common.{◌≡◌, ◌≤◌, ap, sym, ◌∙◌, Some, w8, w16, w32, w64, pos, to_z, of_z, arith}
use Rattle.std.specs.Int.{IsInRange}
use Rattle.std.proofs.lemmas.Int.{to_z_pos, to_z-of_z, ints}
use Rattle.jiff_core.specs.Calendar.{days_in_month, days_from_civil}
use Rattle.event_line.proofs.TimeLemmas.{day_number-of_date}
use Rattle.event_line.proofs.time.day_number.Goals as goal

pub returns-in-Ok-clause-value : goal.returns-in-Ok-clause-value
returns-in-Ok-clause-value c =
    let found : to_z w64 (of_z w64 c.from.result) ≡ days_from_civil c.in-Ok.date.year c.in-Ok.date.month c.in-Ok.date.day =
    to_z-of_z w64 c.from.result (omega (arith, ints)) ∙ (c.from.ensures ∙ (to_z-of_z w32 c.to_unix_epoch_day.result (omega (arith, ints)) ∙ c.to_unix_epoch_day.ensures.value)) in
    let year : c.in-Ok.date.year ≡ pos c.args.year = c.in-Ok.ensures.value.0 ∙ to_z_pos w16 c.args.year (omega arith) in
    let month_pos : pos c.in-Ok.date.month ≡ pos c.args.month = c.in-Ok.ensures.value.1 ∙ to_z_pos w8 c.args.month (omega arith) in
    let day_pos : pos c.in-Ok.date.day ≡ pos c.args.day = c.in-Ok.ensures.value.2 ∙ to_z_pos w8 c.args.day (omega arith) in
    let month : c.in-Ok.date.month ≡ c.args.month = cc in
    let day : c.in-Ok.date.day ≡ c.args.day = cc in
    let months : IsInRange 1 12 c.args.month = rw month at c.in-Ok.date.month_in in
    let within : IsInRange 1 (days_in_month (pos c.args.year) c.args.month) c.args.day = rw (year, month, day) at c.in-Ok.date.day_in in
    let days : days_from_civil c.in-Ok.date.year c.in-Ok.date.month c.in-Ok.date.day ≡ days_from_civil (pos c.args.year) c.args.month c.args.day = cc (year, month, day) in
    let low : 1 ≤ c.args.year = omega arith in
    ap Some (found ∙ days) ∙ sym (day_number-of_date c.args.year c.args.month c.args.day low months within)
