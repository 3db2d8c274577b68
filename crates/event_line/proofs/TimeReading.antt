-- What is read from a text of a time is the time that its parts write, and each such time is read.
use Rattle.std.proofs.Common.{◌≡◌, ℕ, ◌+◌, ◌-◌, ◌*◌, ◌/◌, ◌%◌, ◌<◌, ◌≤◌, Bool, true, false, ◌&&◌, nat_eq, nat_lt, nat_le, cond, List, [], ◌∷◌, ◌++◌, length, take, drop, get_or, Option, Some, None, option_map, option_and_then, ℤ, pos, refl, sym, ap, ◌∙◌, suc, IfSome, arith}
use Rattle.std.specs.Int.{IsInRange}
use Rattle.std.proofs.Math.Seq.{split_at, take-append_seam, get_or-append_seam}
use Rattle.std.proofs.Math.ListN.{drop_of_length-le}
use Rattle.std.proofs.lemmas.Bool.Decides.{nat_tests}
use Rattle.std.proofs.lemmas.Bool.{and_parts}
use Rattle.std.proofs.lemmas.List.{take-append-drop, length-append, drop-drop}
use Rattle.jiff_core.specs.Calendar.{days_in_month, days_from_civil}
use Rattle.digits.specs.Number.{two_digits, two_digits_of}
use Rattle.digits.proofs.Choices.{guarded, mapped, chained}
use Rattle.digits.proofs.Pairs.{pair_sound, pair_complete}
use Rattle.event_line.specs.Time.{four_digits, if_below, digits_below, is_date, day_number, day_of, second_of, microsecond_of, in_microseconds, time_before_zone, time_of, four_digits_of, date_text, clock_text, IsTimeText}
use Rattle.event_line.proofs.TimeLemmas.{day_number-of_date, time_before_zone-of_parts}
use Rattle.event_line.proofs.TimeDigits.{four_sound, four_complete}

-- the day of a date
record IsDay (text : List ℕ) (number : ℤ) : Type 0 where
  year : ℕ
  month : ℕ
  day : ℕ
  year_in : IsInRange 1 9999 year
  month_in : IsInRange 1 12 month
  day_in : IsInRange 1 (days_in_month (pos year) month) day
  text_is : date_text year month day ≡ text
  number_is : number ≡ days_from_civil (pos year) month day

date_sound : (year month day days : ℕ) → (nat_le 1 year && nat_le 1 month && nat_le month 12 && nat_le 1 day && nat_le day days) ≡ true →
    (1 ≤ year) × IsInRange 1 12 month × IsInRange 1 days day
date_sound year month day days e =
    let low : 1 ≤ year = grind (arith, nat_tests) in
    let month_from : 1 ≤ month = grind (arith, nat_tests) in
    let month_to : month ≤ 12 = grind (arith, nat_tests) in
    let day_from : 1 ≤ day = grind (arith, nat_tests) in
    let day_to : day ≤ days = grind (arith, nat_tests) in
    (low, (month_from, month_to), (day_from, day_to))

date_text_is : (y₁ y₂ y₃ y₄ m₁ m₂ d₁ d₂ year month day : ℕ) → four_digits_of year ≡ y₁ ∷ y₂ ∷ y₃ ∷ y₄ ∷ [] →
    two_digits_of month ≡ m₁ ∷ m₂ ∷ [] → two_digits_of day ≡ d₁ ∷ d₂ ∷ [] →
    date_text year month day ≡ y₁ ∷ y₂ ∷ y₃ ∷ y₄ ∷ 45 ∷ m₁ ∷ m₂ ∷ 45 ∷ d₁ ∷ d₂ ∷ []
date_text_is y₁ y₂ y₃ y₄ m₁ m₂ d₁ d₂ year month day is_year is_month is_day =
    ap (λ ys. ys ++ 45 ∷ (two_digits_of month ++ 45 ∷ two_digits_of day)) is_year
    ∙ (ap (λ ms. y₁ ∷ y₂ ∷ y₃ ∷ y₄ ∷ 45 ∷ (ms ++ 45 ∷ two_digits_of day)) is_month
    ∙ ap (λ ds. y₁ ∷ y₂ ∷ y₃ ∷ y₄ ∷ 45 ∷ m₁ ∷ m₂ ∷ 45 ∷ ds) is_day)

numbers_sound : (y₁ y₂ y₃ y₄ m₁ m₂ d₁ d₂ : ℕ) (number : ℤ) →
    option_and_then (λ year. option_and_then (λ month. option_and_then (λ day. day_number year month day)
    (two_digits d₁ d₂)) (two_digits m₁ m₂)) (four_digits y₁ y₂ y₃ y₄) ≡ Some number →
    IsDay (y₁ ∷ y₂ ∷ y₃ ∷ y₄ ∷ 45 ∷ m₁ ∷ m₂ ∷ 45 ∷ d₁ ∷ d₂ ∷ []) number
numbers_sound y₁ y₂ y₃ y₄ m₁ m₂ d₁ d₂ number e =
    let year = chained _ (four_digits y₁ y₂ y₃ y₄) number e in
    let month = chained _ (two_digits m₁ m₂) number year.2 in
    let day = chained _ (two_digits d₁ d₂) number month.2 in
    let date = guarded (is_date year.0 month.0 day.0) (Some (days_from_civil (pos year.0) month.0 day.0)) number day.2 in
    let year_text = four_sound y₁ y₂ y₃ y₄ year.0 year.1 in
    let month_text = pair_sound m₁ m₂ month.0 month.1 in
    let day_text = pair_sound d₁ d₂ day.0 day.1 in
    let parts = date_sound year.0 month.0 day.0 (days_in_month (pos year.0) month.0) date.0 in
    let below : year.0 < 10_000 = year_text.0 in
    let high : year.0 ≤ 9999 = omega (arith, below) in
    record {
      year = year.0;
      month = month.0;
      day = day.0;
      year_in = (parts.0, high);
      month_in = parts.1;
      day_in = parts.2;
      text_is = date_text_is y₁ y₂ y₃ y₄ m₁ m₂ d₁ d₂ year.0 month.0 day.0 year_text.1 month_text.1 day_text.1;
      number_is = let s = date.1 in cc;
    }

day_sound : (text : List ℕ) (number : ℤ) → day_of text ≡ Some number → IsDay text number
day_sound [] number e = cc
day_sound (a ∷ []) number e = cc
day_sound (a ∷ b ∷ []) number e = cc
day_sound (a ∷ b ∷ c ∷ []) number e = cc
day_sound (a ∷ b ∷ c ∷ d ∷ []) number e = cc
day_sound (a ∷ b ∷ c ∷ d ∷ f ∷ []) number e = cc
day_sound (a ∷ b ∷ c ∷ d ∷ f ∷ g ∷ []) number e = cc
day_sound (a ∷ b ∷ c ∷ d ∷ f ∷ g ∷ h ∷ []) number e = cc
day_sound (a ∷ b ∷ c ∷ d ∷ f ∷ g ∷ h ∷ i ∷ []) number e = cc
day_sound (a ∷ b ∷ c ∷ d ∷ f ∷ g ∷ h ∷ i ∷ j ∷ []) number e = cc
day_sound (a ∷ b ∷ c ∷ d ∷ f ∷ g ∷ h ∷ i ∷ j ∷ k ∷ more ∷ rest) number e = cc
day_sound (y₁ ∷ y₂ ∷ y₃ ∷ y₄ ∷ dash ∷ m₁ ∷ m₂ ∷ hyphen ∷ d₁ ∷ d₂ ∷ []) number e =
    let g = guarded ((nat_eq dash 45) && (nat_eq hyphen 45)) _ number e in
    let dashes = and_parts (nat_eq dash 45) (nat_eq hyphen 45) g.0 in
    let first : dash ≡ 45 = grind (arith, nat_tests, dashes.0) in
    let second : hyphen ≡ 45 = grind (arith, nat_tests, dashes.1) in
    rw (first, second) (numbers_sound y₁ y₂ y₃ y₄ m₁ m₂ d₁ d₂ number g.1)

-- the second of a clock
record IsSecond (text : List ℕ) (number : ℕ) : Type 0 where
  hour : ℕ
  minute : ℕ
  second : ℕ
  hour_in : hour < 24
  minute_in : minute < 60
  second_in : second < 60
  text_is : clock_text hour minute second ≡ text
  number_is : 3600 * hour + 60 * minute + second ≡ number

below_sound : (limit a b n : ℕ) → digits_below limit a b ≡ Some n → (n < limit) × (two_digits_of n ≡ a ∷ b ∷ [])
below_sound limit a b n e =
    let read = chained (if_below limit) (two_digits a b) n e in
    let g = guarded (nat_lt read.0 limit) (Some read.0) n read.2 in
    let same : read.0 ≡ n = let s = g.1 in cc in
    let test = g.0 in
    let below : read.0 < limit = grind (arith, nat_tests) in
    (rw same at below, rw same at (pair_sound a b read.0 read.1).1)

clock_text_is : (h₁ h₂ m₁ m₂ s₁ s₂ hour minute second : ℕ) → two_digits_of hour ≡ h₁ ∷ h₂ ∷ [] →
    two_digits_of minute ≡ m₁ ∷ m₂ ∷ [] → two_digits_of second ≡ s₁ ∷ s₂ ∷ [] →
    clock_text hour minute second ≡ 84 ∷ h₁ ∷ h₂ ∷ 58 ∷ m₁ ∷ m₂ ∷ 58 ∷ s₁ ∷ s₂ ∷ []
clock_text_is h₁ h₂ m₁ m₂ s₁ s₂ hour minute second is_hour is_minute is_second =
    ap (λ hs. 84 ∷ (hs ++ 58 ∷ (two_digits_of minute ++ 58 ∷ two_digits_of second))) is_hour
    ∙ (ap (λ ms. 84 ∷ h₁ ∷ h₂ ∷ 58 ∷ (ms ++ 58 ∷ two_digits_of second)) is_minute
    ∙ ap (λ ss. 84 ∷ h₁ ∷ h₂ ∷ 58 ∷ m₁ ∷ m₂ ∷ 58 ∷ ss) is_second)

clock_sound : (h₁ h₂ m₁ m₂ s₁ s₂ number : ℕ) →
    option_and_then (λ hour. option_and_then (λ minute. option_map (λ second. 3600 * hour + 60 * minute + second)
    (digits_below 60 s₁ s₂)) (digits_below 60 m₁ m₂)) (digits_below 24 h₁ h₂) ≡ Some number →
    IsSecond (84 ∷ h₁ ∷ h₂ ∷ 58 ∷ m₁ ∷ m₂ ∷ 58 ∷ s₁ ∷ s₂ ∷ []) number
clock_sound h₁ h₂ m₁ m₂ s₁ s₂ number e =
    let hour = chained _ (digits_below 24 h₁ h₂) number e in
    let minute = chained _ (digits_below 60 m₁ m₂) number hour.2 in
    let second = mapped _ (digits_below 60 s₁ s₂) number minute.2 in
    let hour_text = below_sound 24 h₁ h₂ hour.0 hour.1 in
    let minute_text = below_sound 60 m₁ m₂ minute.0 minute.1 in
    let second_text = below_sound 60 s₁ s₂ second.0 second.1 in
    record {
      hour = hour.0;
      minute = minute.0;
      second = second.0;
      hour_in = hour_text.0;
      minute_in = minute_text.0;
      second_in = second_text.0;
      text_is = clock_text_is h₁ h₂ m₁ m₂ s₁ s₂ hour.0 minute.0 second.0 hour_text.1 minute_text.1 second_text.1;
      number_is = second.2;
    }

second_sound : (text : List ℕ) (number : ℕ) → second_of text ≡ Some number → IsSecond text number
second_sound [] number e = cc
second_sound (a ∷ []) number e = cc
second_sound (a ∷ b ∷ []) number e = cc
second_sound (a ∷ b ∷ c ∷ []) number e = cc
second_sound (a ∷ b ∷ c ∷ d ∷ []) number e = cc
second_sound (a ∷ b ∷ c ∷ d ∷ f ∷ []) number e = cc
second_sound (a ∷ b ∷ c ∷ d ∷ f ∷ g ∷ []) number e = cc
second_sound (a ∷ b ∷ c ∷ d ∷ f ∷ g ∷ h ∷ []) number e = cc
second_sound (a ∷ b ∷ c ∷ d ∷ f ∷ g ∷ h ∷ i ∷ []) number e = cc
second_sound (a ∷ b ∷ c ∷ d ∷ f ∷ g ∷ h ∷ i ∷ j ∷ more ∷ rest) number e = cc
second_sound (t ∷ h₁ ∷ h₂ ∷ colon ∷ m₁ ∷ m₂ ∷ mark ∷ s₁ ∷ s₂ ∷ []) number e =
    let g = guarded ((nat_eq t 84) && (nat_eq colon 58) && (nat_eq mark 58)) _ number e in
    let marks = and_parts ((nat_eq t 84) && (nat_eq colon 58)) (nat_eq mark 58) g.0 in
    let fronts = and_parts (nat_eq t 84) (nat_eq colon 58) marks.0 in
    let first : t ≡ 84 = grind (arith, nat_tests, fronts.0) in
    let second : colon ≡ 58 = grind (arith, nat_tests, fronts.1) in
    let third : mark ≡ 58 = grind (arith, nat_tests, marks.1) in
    rw (first, second, third) (clock_sound h₁ h₂ m₁ m₂ s₁ s₂ number g.1)

-- a text that ends in `Z`
zoned_sound : (text : List ℕ) (time : ℤ) → time_of text ≡ Some time →
    (text ≡ take (length text - 1) text ++ 90 ∷ []) × (time_before_zone (take (length text - 1) text) ≡ Some time)
zoned_sound [] time e = cc
zoned_sound (x ∷ xs) time e =
    let text = x ∷ xs in
    let j = length (x ∷ xs) - 1 in
    let g = guarded (nat_eq (get_or text j 0) 90) (time_before_zone (take j text)) time e in
    let test = g.0 in
    let last : get_or text j 0 ≡ 90 = grind (arith, nat_tests) in
    let none : drop (suc j) text ≡ [] = drop_of_length-le text {i = suc j} (omega arith) in
    let parts = split_at text j 0 (omega arith) in
    (parts ∙ (ap (λ b. take j text ++ (b ∷ drop (suc j) text)) last ∙ ap (λ rest. take j text ++ (90 ∷ rest)) none), g.1)

zoned_complete : (front : List ℕ) → time_of (front ++ 90 ∷ []) ≡ time_before_zone front
zoned_complete front =
    let cut : length (front ++ 90 ∷ []) - 1 ≡ length front = omega (arith, length-append front (90 ∷ [])) in
    let last : get_or (front ++ 90 ∷ []) (length front) 0 ≡ 90 = get_or-append_seam front 90 [] 0 in
    let start : take (length front) (front ++ 90 ∷ []) ≡ front = take-append_seam front (90 ∷ []) in
    rw (cut, last, start) refl

front_parts : (front date clock : List ℕ) → date ≡ take 10 front → clock ≡ take 9 (drop 10 front) → front ≡ date ++ (clock ++ drop 19 front)
front_parts front date clock is_date is_clock =
    let rest : drop 10 front ≡ clock ++ drop 19 front =
    sym (take-append-drop 9 (drop 10 front)) ∙ (ap (λ r. take 9 (drop 10 front) ++ r) (drop-drop 9 10 front) ∙ ap (λ c. c ++ drop 19 front) (sym is_clock)) in
    sym (take-append-drop 10 front) ∙ (ap (λ d. d ++ drop 10 front) (sym is_date) ∙ ap (λ r. date ++ r) rest)

-- what is read from a text is the time that its parts write
pub time_sound : (text : List ℕ) (time : ℤ) → time_of text ≡ Some time → IsTimeText text time
time_sound text time e =
    let zone = zoned_sound text time e in
    let front = take (length text - 1) text in
    let day = chained _ (day_of (take 10 front)) time zone.1 in
    let second = chained _ (second_of (take 9 (drop 10 front))) time day.2 in
    let fraction = mapped _ (microsecond_of (drop 19 front)) time second.2 in
    let date = day_sound (take 10 front) day.0 day.1 in
    let clock = second_sound (take 9 (drop 10 front)) second.0 second.1 in
    record {
      year = date.year;
      month = date.month;
      day = date.day;
      hour = clock.hour;
      minute = clock.minute;
      second = clock.second;
      fraction = drop 19 front;
      microsecond = fraction.0;
      year_in = date.year_in;
      month_in = date.month_in;
      day_in = date.day_in;
      hour_in = clock.hour_in;
      minute_in = clock.minute_in;
      second_in = clock.second_in;
      fraction_is = fraction.1;
      text_is = zone.0 ∙ ap (λ xs. xs ++ 90 ∷ []) (front_parts front _ _ date.text_is clock.text_is);
      time_is = sym fraction.2 ∙ (ap (λ d. in_microseconds d second.0 fraction.0) date.number_is
          ∙ ap (λ s. in_microseconds (days_from_civil (pos date.year) date.month date.day) s fraction.0) (sym clock.number_is));
    }

month_lengths : (february leap short : Bool) → cond february (cond leap 29 28) (cond short 30 31) ≤ 31
month_lengths true true short = omega arith
month_lengths true false short = omega arith
month_lengths false leap true = omega arith
month_lengths false leap false = omega arith

day_complete : (year month day : ℕ) → IsInRange 1 9999 year → IsInRange 1 12 month → IsInRange 1 (days_in_month (pos year) month) day →
    day_of (date_text year month day) ≡ Some (days_from_civil (pos year) month day)
day_complete year month day years months days =
    let low : 1 ≤ year = years.0 in
    let high : year ≤ 9999 = years.1 in
    let month_to : month ≤ 12 = months.1 in
    let day_in : day ≤ days_in_month (pos year) month = days.1 in
    let longest : days_in_month (pos year) month ≤ 31 = month_lengths _ _ _ in
    let day_to : day ≤ 31 = omega (arith, day_in, longest) in
    let is_year = four_complete year (omega arith) in
    let is_month = pair_complete month (omega arith) in
    let is_day = pair_complete day (omega arith) in
    rw (is_year, is_month, is_day) (day_number-of_date year month day low months days)

below_complete : (limit n : ℕ) → n < limit → limit ≤ 100 → digits_below limit (48 + n / 10) (48 + n % 10) ≡ Some n
below_complete limit n below small =
    let test : nat_lt n limit ≡ true = grind (arith, nat_tests) in
    let number = pair_complete n (omega arith) in
    rw (number, test) refl

second_complete : (hour minute second : ℕ) → hour < 24 → minute < 60 → second < 60 →
    second_of (clock_text hour minute second) ≡ Some (3600 * hour + 60 * minute + second)
second_complete hour minute second hours minutes seconds =
    let is_hour = below_complete 24 hour hours (omega arith) in
    let is_minute = below_complete 60 minute minutes (omega arith) in
    let is_second = below_complete 60 second seconds (omega arith) in
    rw (is_hour, is_minute, is_second) refl

-- each time that a text's parts write is read from it
pub time_complete : (text : List ℕ) (time : ℤ) → IsTimeText text time → time_of text ≡ Some time
time_complete text time is =
    let date = date_text is.year is.month is.day in
    let clock = clock_text is.hour is.minute is.second in
    let front : List ℕ = date ++ (clock ++ is.fraction) in
    let day : day_of (take 10 front) ≡ Some (days_from_civil (pos is.year) is.month is.day) =
    day_complete is.year is.month is.day is.year_in is.month_in is.day_in in
    let second : second_of (take 9 (drop 10 front)) ≡ Some (3600 * is.hour + 60 * is.minute + is.second) =
    second_complete is.hour is.minute is.second is.hour_in is.minute_in is.second_in in
    ap time_of is.text_is ∙ (zoned_complete front
    ∙ (time_before_zone-of_parts front _ _ _ day second is.fraction_is ∙ ap Some (sym is.time_is)))

-- the same of an answer
pub sound_answer : (text : List ℕ) (answer : Option ℤ) → answer ≡ time_of text → IfSome answer (IsTimeText text)
sound_answer text None is = tt
sound_answer text (Some time) is = time_sound text time (sym is)
