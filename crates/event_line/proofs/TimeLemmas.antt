-- The day number of a date that the calendar has, and bounds of what the digits of a time write.
use Rattle.std.proofs.Common.{◌≡◌, ℕ, ◌+◌, ◌-◌, ◌*◌, ◌^◌, ◌<◌, ◌≤◌, true, ◌&&◌, nat_le, List, take, drop, Some, ℤ, pos, refl, sym, ap, ◌∙◌, arith}
use Rattle.std.specs.Int.{IsInRange}
use Rattle.std.proofs.Math.Nat.{mul-lt-mul_of_pos_right, pow-le-pow_right}
use Rattle.std.proofs.lemmas.Bool.Decides.{nat_tests}
use Rattle.std.proofs.lemmas.List.{drop-drop}
use Rattle.std.proofs.lemmas.Nat.{pow-add}
use Rattle.jiff_core.specs.Calendar.{days_in_month, days_from_civil}
use Rattle.event_line.specs.Time.{is_date, day_number, day_of, second_of, microsecond_of, in_microseconds, time_before_zone}

in_ranges : (year month day days : ℕ) → 1 ≤ year → IsInRange 1 12 month → IsInRange 1 days day →
    (nat_le 1 year && nat_le 1 month && nat_le month 12 && nat_le 1 day && nat_le day days) ≡ true
in_ranges year month day days low months within = grind (arith, nat_tests)

-- a date that the calendar has, from the year 1
pub day_number-of_date : (year month day : ℕ) → 1 ≤ year → IsInRange 1 12 month → IsInRange 1 (days_in_month (pos year) month) day →
    day_number year month day ≡ Some (days_from_civil (pos year) month day)
day_number-of_date year month day low months within =
    let date : is_date year month day ≡ true = in_ranges year month day (days_in_month (pos year) month) low months within in
    rw date refl

-- what up to six digits write behind a point, in millionths
pub scaled : (n k scale : ℕ) → n < 10 ^ k → k ≤ 6 → scale ≡ 10 ^ (6 - k) → n * scale < 1_000_000
scaled n k scale low short is =
    let positive : 0 < 10 ^ (6 - k) = pow-le-pow_right {n = 10} (omega arith) {i = 0} {j = 6 - k} (omega arith) in
    let total : k + (6 - k) ≡ 6 = omega arith in
    let whole : 10 ^ k * 10 ^ (6 - k) ≡ 10 ^ 6 = sym (pow-add 10 k (6 - k)) ∙ ap (λ m. 10 ^ m) total in
    let below : n * 10 ^ (6 - k) < 10 ^ k * 10 ^ (6 - k) = mul-lt-mul_of_pos_right low positive in
    rw is (omega (arith, below, whole))

-- the time of a text's parts
pub time_before_zone-of_parts : (text : List ℕ) (day : ℤ) (second microsecond : ℕ) → day_of (take 10 text) ≡ Some day →
    second_of (take 9 (drop 10 text)) ≡ Some second → microsecond_of (drop 9 (drop 10 text)) ≡ Some microsecond →
    time_before_zone text ≡ Some (in_microseconds day second microsecond)
time_before_zone-of_parts text day second microsecond is_day is_second is_microsecond =
    let rest : drop 9 (drop 10 text) ≡ drop 19 text = drop-drop 9 10 text in
    let fraction : microsecond_of (drop 19 text) ≡ Some microsecond = ap microsecond_of (sym rest) ∙ is_microsecond in
    rw (is_day, is_second, fraction) refl
