-- Two digits that write a number are its digits, and the digits of a number write it.
use Rattle.std.proofs.Common.{◌≡◌, ℕ, ◌+◌, ◌-◌, ◌*◌, ◌/◌, ◌%◌, ◌<◌, ◌≤◌, true, ◌&&◌, [], ◌∷◌, Some, refl, ap, arith}
use Rattle.std.specs.Char.{is_ascii_digit}
use Rattle.std.proofs.lemmas.Bool.Decides.{nat_tests}
use Rattle.std.proofs.lemmas.Bool.{and_parts}
use Rattle.digits.specs.Number.{two_digits, two_digits_of}
use Rattle.digits.proofs.Choices.{guarded}

-- what writes a number are digits
pub pair_are : (a b n : ℕ) → two_digits a b ≡ Some n → (is_ascii_digit a ≡ true) × (is_ascii_digit b ≡ true)
pair_are a b n e = and_parts (is_ascii_digit a) (is_ascii_digit b) (guarded (is_ascii_digit a && is_ascii_digit b) (Some (10 * (a - 48) + (b - 48))) n e).0

-- two digits that write a number are its digits
pub pair_sound : (a b n : ℕ) → two_digits a b ≡ Some n → (n < 100) × (two_digits_of n ≡ a ∷ b ∷ [])
pair_sound a b n e =
    let g = guarded (is_ascii_digit a && is_ascii_digit b) (Some (10 * (a - 48) + (b - 48))) n e in
    let digits = and_parts (is_ascii_digit a) (is_ascii_digit b) g.0 in
    let a_from : 48 ≤ a = grind (arith, nat_tests, digits.0) in
    let a_to : a ≤ 57 = grind (arith, nat_tests, digits.0) in
    let b_from : 48 ≤ b = grind (arith, nat_tests, digits.1) in
    let b_to : b ≤ 57 = grind (arith, nat_tests, digits.1) in
    let value : 10 * (a - 48) + (b - 48) ≡ n = let s = g.1 in cc in
    let tens : 48 + n / 10 ≡ a = omega arith in
    let ones : 48 + n % 10 ≡ b = omega arith in
    let small : n < 100 = omega arith in
    (small, rw (tens, ones) refl)

-- the digits of a number write it
pub pair_complete : (n : ℕ) → n < 100 → two_digits (48 + n / 10) (48 + n % 10) ≡ Some n
pair_complete n small =
    let tens : is_ascii_digit (48 + n / 10) ≡ true = grind (arith, nat_tests) in
    let ones : is_ascii_digit (48 + n % 10) ≡ true = grind (arith, nat_tests) in
    let value : 10 * (48 + n / 10 - 48) + (48 + n % 10 - 48) ≡ n = omega arith in
    rw (tens, ones) (ap Some value)
