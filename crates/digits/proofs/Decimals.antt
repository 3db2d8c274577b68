-- Numbers as they are written in decimal, and what `parse` reads of them.
use Rattle.std.proofs.Common.{◌≡◌, ℕ, zero, suc, ◌+◌, ◌/◌, ◌%◌, ◌<◌, ◌≤◌, ◌^◌, ◌==◌, Bool, true, false, cond, List, [], ◌∷◌, length, IfSome, Result, Ok, Err, get_or, arith}
use Rattle.std.specs.Result.{result_ok}
use Rattle.std.specs.Fmt.{decimal, digits, digits_onto, digit_glyph}
use Rattle.std.specs.Str.Parse.{ParsesUnsigned, AllDigits, digits_value}
use Rattle.std.proofs.Math.Nat.{pow-le-pow_right}
use Rattle.std.proofs.lemmas.Str.Parse.{IsNumeralModel, numerals_by_value, tells_digits, parse_plain, digit_at}
use Rattle.std.proofs.lemmas.Fmt.{decimal-digits_value, decimal_digit, first_decimal, digits_decimal, decimal_nonempty}

-- decimal digits and their value
pub decimal_numerals : IsNumeralModel (AllDigits 10) (digits_value 10)
decimal_numerals = numerals_by_value (AllDigits 10) tells_digits

-- what `parse` reads of a text that doesn't begin with a sign or 0 is the number that is written so
pub number_read : {E : Type 0} (bits : ℕ) (bs : List ℕ) (r : Result ℕ E) → bits ≤ 64 → ParsesUnsigned bits 10 bs r → 49 ≤ get_or bs 0 0 → IfSome (result_ok r) (λ n. (n < 2 ^ bits) × (decimal n ≡ bs))
number_read {E} bits bs (Err e) narrow parsed first = tt
number_read {E} bits bs (Ok n) narrow parsed first =
    let digits = parse_plain decimal_numerals {E = E} bits bs (Ok n) parsed (λ plus. omega arith) in
    let all : 2 ^ bits ≤ 2 ^ 64 = pow-le-pow_right {n = 2} (omega arith) {i = bits} {j = 64} narrow in
    let written : decimal (digits_value 10 bs) ≡ bs = decimal-digits_value decimal_numerals bs digits.0.0 digits.0.1 (λ zero. absurd (omega arith)) (omega (arith, digits.0.2, all)) in
    let is : decimal n ≡ bs = rw digits.1 written in
    (omega (arith, digits.0.2, digits.1), is)

-- a number above 0 begins with a digit from 1 to 9
pub first_digit : (n : ℕ) (bs : List ℕ) → 0 < n → n < 2 ^ 64 → decimal n ≡ bs → (49 ≤ get_or bs 0 0) × (get_or bs 0 0 ≤ 57)
first_digit n bs low small is =
    let some : 0 < length (decimal n) = decimal_nonempty n small in
    let range = digit_at (decimal n) 0 (digits_decimal decimal_numerals n small) some in
    rw (← is) (first_decimal n low small, range.1)

-- 0 is written as one digit
pub zero_written : decimal 0 ≡ 48 ∷ []
zero_written = decimal_digit 0 (omega arith)

digits_onto_short : (k n : ℕ) (acc : List ℕ) → length (digits_onto k 10 false n acc) ≤ k + length acc
digits_onto_short zero n acc = omega arith
digits_onto_short (suc k) n acc = by_choice (n / 10 == 0) _ _ (omega arith) (omega (arith, digits_onto_short k (n / 10) (digit_glyph false (n % 10) ∷ acc)))
  where
    by_choice : {m : ℕ} (b : Bool) (x y : List ℕ) → length x ≤ m → length y ≤ m → length (cond b x y) ≤ m
    by_choice true x y p q = p
    by_choice false x y p q = q

-- a number in decimal has at most 64 digits, as far as numbers are written
pub decimal_short : (n : ℕ) → length (decimal n) ≤ 64
unfolding digits
decimal_short n = omega (arith, digits_onto_short 64 n [])
