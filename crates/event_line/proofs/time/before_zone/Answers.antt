use Rattle.std.proofs.Common.{◌≡◌, ap, sym, ◌∙◌, Some, take, drop, w64, to_z, of_z, arith}
use Rattle.std.proofs.lemmas.Int.{to_z-of_z, ints}
use Rattle.event_line.specs.Time.{day_of, second_of, microsecond_of, in_microseconds}
use Rattle.event_line.proofs.TimeLemmas.{time_before_zone-of_parts}
use Rattle.event_line.proofs.time.before_zone.Goals as goal

pub returns : goal.returns
returns c =
    let day : day_of (take 10 c.args.time.now) ≡ Some c.in_ok-day.day = ap day_of (sym c.split_at.ensures.front) ∙ sym c.in_ok-day.ensures.value in
    let second : second_of (take 9 (drop 10 c.args.time.now)) ≡ Some c.in_ok-second.second =
    ap (λ rest. second_of (take 9 rest)) (sym c.split_at.ensures.back) ∙ (ap second_of (sym c.split_at-2.ensures.front) ∙ sym c.in_ok-second.ensures.value) in
    let microsecond : microsecond_of (drop 9 (drop 10 c.args.time.now)) ≡ Some c.in_ok-microsecond.microsecond =
    ap (λ rest. microsecond_of (drop 9 rest)) (sym c.split_at.ensures.back) ∙ (ap microsecond_of (sym c.split_at-2.ensures.back) ∙ sym c.in_ok-microsecond.ensures.value) in
    let same_day : to_z w64 (of_z w64 c.in_ok-day.day) ≡ c.in_ok-day.day = to_z-of_z w64 c.in_ok-day.day (omega (arith, ints, c.in_ok-day.ensures.bound)) in
    let same_time = ap (λ d. in_microseconds d c.in_ok-second.second c.in_ok-microsecond.microsecond) same_day in
    ap Some (to_z-of_z w64 c.in_microseconds.result (omega (arith, ints)) ∙ (c.in_microseconds.ensures ∙ same_time))
    ∙ sym (time_before_zone-of_parts c.args.time.now _ _ _ day second microsecond)
