-- Numbers in a fixed number of digits, with zeros in front.
use Rattle.std.proofs.Common.{◌≡◌, ℕ, zero, suc, ◌+◌, ◌*◌, ◌/◌, ◌%◌, ◌-◌, ◌<◌, ◌≤◌, ◌^◌, List, [], ◌∷◌, ◌++◌, length, refl, sym, ap, ◌∙◌, append_assoc, arith}
use Rattle.std.proofs.Common.{⊎_elim, Some}
use Rattle.std.proofs.lemmas.Bool.{cases_lt}
use Rattle.std.specs.Prelude.{replicate, ℤ, pos, unsigned_abs, int_lt, nat_eq, true, false}
use Rattle.std.specs.Fmt.{decimal}
use Rattle.std.proofs.lemmas.List.{length-append}
use Rattle.std.proofs.lemmas.Slice.Eq.{bytes_eq-Decides}
use Rattle.std.specs.Str.{bytes_eq}
use Rattle.std.proofs.lemmas.Bool.Decides.{nat_tests}
use Rattle.digits.specs.Number.{two_digits, two_digits_of}
use Rattle.digits.proofs.Pairs.{pair_sound}
use Rattle.std.proofs.lemmas.Fmt.{decimal_digit, decimal_step}
use Rattle.wb_values.specs.declared.calendar.CalendarDate.{CalendarDate}
use Rattle.wb_values.specs.Literal.{date_time_text, sign_text, zero_padded}

-- one more at the end is one more in front
zeros-snoc : (z k : ℕ) → replicate k z ++ (z ∷ []) ≡ replicate (suc k) z
zeros-snoc z zero = refl
zeros-snoc z (suc k) = ap (λ zeros. z ∷ zeros) (zeros-snoc z k)

-- the last digit stands behind the others, in one place less
zero_padded-one_digit : (w n : ℕ) → n < 10 → zero_padded (suc (suc w)) n ≡ zero_padded (suc w) (n / 10) ++ ((48 + n % 10) ∷ [])
zero_padded-one_digit w n small =
    let front : n / 10 ≡ 0 = omega arith in
    let last : n % 10 ≡ n = omega arith in
    let wide : suc (suc w) - 1 ≡ suc w = omega arith in
    let narrow : suc w - 1 ≡ w = omega arith in
    rw (front, last, decimal_digit n small, decimal_digit 0 (omega arith), wide, narrow) (ap (λ zeros. zeros ++ ((48 + n) ∷ [])) (sym (zeros-snoc 48 w)))

zero_padded-more_digits : (w n : ℕ) → 10 ≤ n → n < 2 ^ 64 → zero_padded (suc w) n ≡ zero_padded w (n / 10) ++ ((48 + n % 10) ∷ [])
zero_padded-more_digits w n wide small =
    let step = decimal_step n wide small in
    let places : suc w - length (decimal n) ≡ w - length (decimal (n / 10)) = omega (arith, ap length step, length-append (decimal (n / 10)) ((48 + n % 10) ∷ [])) in
    rw (places, step) (sym (append_assoc (replicate (w - length (decimal (n / 10))) 48) (decimal (n / 10)) ((48 + n % 10) ∷ [])))

zero_padded-step : (w n : ℕ) → n < 2 ^ 64 → zero_padded (suc (suc w)) n ≡ zero_padded (suc w) (n / 10) ++ ((48 + n % 10) ∷ [])
zero_padded-step w n small = ⊎_elim (zero_padded-one_digit w n) (λ wide. zero_padded-more_digits (suc w) n wide small) (cases_lt n 10)

zero_padded-one : (n : ℕ) → n < 10 → zero_padded 1 n ≡ (48 + n) ∷ []
zero_padded-one n small = rw (decimal_digit n small) refl

-- a number below 100 in two digits
two_places : (n : ℕ) → n < 100 → zero_padded 2 n ≡ two_digits_of n
two_places n small = zero_padded-step 0 n (omega arith) ∙ rw (zero_padded-one (n / 10) (omega arith)) refl

-- a number below 10000 in four
four_places : (n : ℕ) → n < 10000 → zero_padded 4 n ≡ zero_padded 2 (n / 100) ++ zero_padded 2 (n % 100)
four_places n small =
    let front : n / 10 / 10 ≡ n / 100 = omega arith in
    let tens : n / 10 % 10 ≡ n % 100 / 10 = omega arith in
    let ones : n % 10 ≡ n % 100 % 10 = omega arith in
    zero_padded-step 2 n (omega arith) ∙ ap (λ ds. ds ++ ((48 + n % 10) ∷ [])) (zero_padded-step 1 (n / 10) (omega arith))
    ∙ rw (front, tens, ones, two_places (n % 100) (omega arith)) (append_assoc (zero_padded 2 (n / 100)) ((48 + n % 100 / 10) ∷ []) ((48 + n % 100 % 10) ∷ []))

-- the same behind a text, a digit or two at a time
pub pair_in_digits : (text : List ℕ) (n : ℕ) → n < 100 → (text ++ ((48 + n / 10) ∷ [])) ++ ((48 + n % 10) ∷ []) ≡ text ++ zero_padded 2 n
pair_in_digits text n small = append_assoc text ((48 + n / 10) ∷ []) ((48 + n % 10) ∷ []) ∙ ap (λ ds. text ++ ds) (sym (two_places n small))

pub four_in_pairs : (text : List ℕ) (n : ℕ) → n < 10000 → (text ++ zero_padded 2 (n / 100)) ++ zero_padded 2 (n % 100) ≡ text ++ zero_padded 4 n
four_in_pairs text n small = append_assoc text (zero_padded 2 (n / 100)) (zero_padded 2 (n % 100)) ∙ ap (λ ds. text ++ ds) (sym (four_places n small))

-- two digits that write a number are the number in two digits
pair_in_two : (a b n : ℕ) → two_digits a b ≡ Some n → zero_padded 2 n ≡ a ∷ b ∷ []
pair_in_two a b n e = let sound = pair_sound a b n e in two_places n sound.0 ∙ sound.1

pub pair_padded : (a b value n : ℕ) → two_digits a b ≡ Some value → nat_eq value n ≡ true → zero_padded 2 n ≡ a ∷ b ∷ []
pair_padded a b value n e same =
    let is : value ≡ n = grind (arith, nat_tests, same) in
    ap (zero_padded 2) (sym is) ∙ pair_in_two a b value e

-- four digits that write a number are the number in four digits
pairs_in_four : (a b c d high low : ℕ) → two_digits a b ≡ Some high → two_digits c d ≡ Some low → zero_padded 4 (100 * high + low) ≡ a ∷ b ∷ c ∷ d ∷ []
pairs_in_four a b c d high low e f =
    let left = pair_sound a b high e in
    let right = pair_sound c d low f in
    let n : ℕ = 100 * high + low in
    let front : n / 10 / 10 ≡ high = omega (arith, left.0, right.0) in
    let tens : n / 10 % 10 ≡ low / 10 = omega (arith, left.0, right.0) in
    let ones : n % 10 ≡ low % 10 = omega (arith, left.0, right.0) in
    zero_padded-step 2 n (omega (arith, left.0, right.0)) ∙ ap (λ ds. ds ++ ((48 + n % 10) ∷ [])) (zero_padded-step 1 (n / 10) (omega (arith, left.0, right.0)))
    ∙ rw (front, tens, ones, pair_in_two a b high e) (ap (λ ds. a ∷ b ∷ ds) right.1)

pub pairs_padded : (a b c d high low n : ℕ) (year : ℤ) → two_digits a b ≡ Some high → two_digits c d ≡ Some low → int_lt year (pos 0) ≡ false
    → n ≡ unsigned_abs year → nat_eq n (100 * high + low) ≡ true → sign_text year ++ zero_padded 4 (unsigned_abs year) ≡ a ∷ b ∷ c ∷ d ∷ []
pairs_padded a b c d high low n year e f plus is same =
    let value : n ≡ 100 * high + low = grind (arith, nat_tests, same) in
    rw (plus, ← is, value) (pairs_in_four a b c d high low e f)

-- the text of a day and a clock, by the digits of its parts
pub pair_first : (number tens ones : ℕ) (rest tail : List ℕ) → zero_padded 2 number ≡ tens ∷ ones ∷ [] → rest ≡ tail → 45 ∷ tens ∷ ones ∷ rest ≡ 45 ∷ zero_padded 2 number ++ tail
pair_first number tens ones rest tail is same = rw (is, same) refl

pub year_first : (date : CalendarDate) (clock rest : List ℕ) (y1 y2 y3 y4 : ℕ) → sign_text date.year ++ zero_padded 4 (unsigned_abs date.year) ≡ y1 ∷ y2 ∷ y3 ∷ y4 ∷ []
    → rest ≡ 45 ∷ zero_padded 2 date.month ++ (45 ∷ zero_padded 2 date.day ++ 84 ∷ clock) → y1 ∷ y2 ∷ y3 ∷ y4 ∷ rest ≡ date_time_text date clock
year_first date clock rest y1 y2 y3 y4 is same =
    rw (is, same) (ap (λ bytes. y1 ∷ y2 ∷ y3 ∷ y4 ∷ bytes) (sym (append_assoc (45 ∷ zero_padded 2 date.month) (45 ∷ zero_padded 2 date.day) (84 ∷ clock))))

-- texts that are the same by their bytes
pub same_bytes : (left right : List ℕ) → bytes_eq left right ≡ true → left ≡ right
same_bytes left right = (bytes_eq-Decides left right).0
