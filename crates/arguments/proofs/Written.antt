-- How a number is written.
use Rattle.std.proofs.Common.{refl, sym, ap, ◌∙◌, ◌≡◌, ℕ, zero, suc, ◌<◌, ◌≤◌, ◌^◌, ◌&&◌, Bool, true, false, cond, nat_le, List, [], ◌∷◌, Option, None, Some, IfSome, arith}
use Rattle.std.specs.Fmt.{decimal}
use Rattle.std.specs.Str.{bytes_eq}
use Rattle.std.specs.Str.Parse.{digits_value}
use Rattle.std.proofs.lemmas.Fmt.{decimal_is_IsNumeral}
use Rattle.std.proofs.lemmas.Bool.Decides.{nat_tests}
use Rattle.std.proofs.lemmas.Bool.{and_parts}
use Rattle.std.proofs.lemmas.Slice.Eq.{bytes_eq-Decides}
use Rattle.digits.proofs.Decimals.{zero_written}
use Rattle.arguments.specs.Numbers.{between, number_between}

chosen : (b : Bool) (x y : ℕ) → cond b (Some x) None ≡ Some y → (b ≡ true) × (x ≡ y)
chosen true x y is = (refl, cc)
chosen false x y is = cc

written : (b : Bool) (o : Option ℕ) (y : ℕ) → cond b o None ≡ Some y → (b ≡ true) × (o ≡ Some y)
written true o y is = (refl, is)
written false o y is = cc

-- a number from the least to the greatest is within, and no other
between-Some : (least greatest n : ℕ) → least ≤ n → n ≤ greatest → between least greatest (Some n) ≡ Some n
between-Some least greatest n low high =
    let above : nat_le least n ≡ true = grind (arith, nat_tests) in
    let below : nat_le n greatest ≡ true = grind (arith, nat_tests) in
    rw (above, below) refl

between-sound : (least greatest n m : ℕ) → between least greatest (Some n) ≡ Some m → (least ≤ n) × (n ≤ greatest) × (n ≡ m)
between-sound least greatest n m is =
    let choice = chosen (nat_le least n && nat_le n greatest) n m is in
    let parts = and_parts (nat_le least n) (nat_le n greatest) choice.0 in
    let above = parts.0 in
    let below = parts.1 in
    (grind (arith, nat_tests), grind (arith, nat_tests), choice.1)

-- the number that is written so is read again
pub number_between-decimal : (least greatest n : ℕ) → least ≤ n → n ≤ greatest → n < 2 ^ 64 → number_between least greatest (decimal n) ≡ Some n
number_between-decimal least greatest n low high small =
    let value : digits_value 10 (decimal n) ≡ n = (decimal_is_IsNumeral n small).1 in
    let same : bytes_eq (decimal n) (decimal n) ≡ true = (bytes_eq-Decides (decimal n) (decimal n)).1 refl in
    rw (value, same) (between-Some least greatest n low high)

number_between-sound : (least greatest : ℕ) (digits : List ℕ) (n : ℕ) → number_between least greatest digits ≡ Some n → (least ≤ n) × (n ≤ greatest) × (decimal n ≡ digits)
number_between-sound least greatest digits n is =
    let v : ℕ = digits_value 10 digits in
    let choice = written (bytes_eq (decimal v) digits) (between least greatest (Some v)) n is in
    let same : decimal v ≡ digits = (bytes_eq-Decides (decimal v) digits).0 choice.0 in
    let range = between-sound least greatest v n choice.1 in
    (omega arith, omega arith, ap decimal (sym range.2) ∙ same)

-- what is written as no other number is
module _ (least greatest : ℕ) (digits : List ℕ) (small : greatest < 2 ^ 64) where
  none_read : (answer read : Option ℕ) → number_between least greatest digits ≡ read → IfSome answer (λ n. (least ≤ n) → (n ≤ greatest) → ⊥)
      → ((n : ℕ) → n < 2 ^ 64 → decimal n ≡ digits → answer ≡ Some n) → ◌≡◌ {A = Option ℕ} None read
  none_read answer None is outside complete = refl
  none_read answer (Some n) is outside complete =
      let sound = number_between-sound least greatest digits n is in
      let there = complete n (omega arith) sound.2 in
      let never : ⊥ = (rw there at outside) sound.0 sound.1 in
      absurd never

  -- an answer that is sound and complete is the number that the text is, where it lies in the range
  pub between-value : (answer : Option ℕ) → IfSome answer (λ n. decimal n ≡ digits) → ((n : ℕ) → n < 2 ^ 64 → decimal n ≡ digits → answer ≡ Some n)
      → between least greatest answer ≡ number_between least greatest digits
  between-value None sound complete = none_read None (number_between least greatest digits) refl tt complete
  between-value (Some n) sound complete = by (nat_le least n && nat_le n greatest) refl
    where
      by : (b : Bool) → (nat_le least n && nat_le n greatest) ≡ b → cond b (Some n) None ≡ number_between least greatest digits
      by true inside =
          let parts = and_parts (nat_le least n) (nat_le n greatest) inside in
          let above = parts.0 in
          let below = parts.1 in
          let low : least ≤ n = grind (arith, nat_tests) in
          let high : n ≤ greatest = grind (arith, nat_tests) in
          sym (ap (number_between least greatest) (sym sound) ∙ number_between-decimal least greatest n low high (omega arith))
      by false outside = none_read (Some n) (number_between least greatest digits) refl (λ low high. never low high outside) complete
        where
          never : least ≤ n → n ≤ greatest → (nat_le least n && nat_le n greatest) ≡ false → ⊥
          never low high outside =
              let above : nat_le least n ≡ true = grind (arith, nat_tests) in
              let below : nat_le n greatest ≡ true = grind (arith, nat_tests) in
              let both : (nat_le least n && nat_le n greatest) ≡ true = rw (above, below) refl in
              cc

-- nothing but 0 is written as one digit 0
pub zero_alone : (n : ℕ) (bs : List ℕ) → n < 2 ^ 64 → decimal n ≡ bs → bs ≡ 48 ∷ [] → n ≡ 0
zero_alone n bs low is digit =
    let of_zero : digits_value 10 (decimal 0) ≡ 0 = (decimal_is_IsNumeral 0 (omega arith)).1 in
    let of_n : digits_value 10 (decimal n) ≡ n = (decimal_is_IsNumeral n low).1 in
    sym of_n ∙ ap (digits_value 10) (is ∙ digit ∙ sym zero_written) ∙ of_zero

-- a number that isn't written as 0 is above it
pub above_zero : (n : ℕ) (bs : List ℕ) → decimal n ≡ bs → (bs ≡ 48 ∷ [] → ⊥) → 0 < n
above_zero zero bs is other = absurd (other (sym is ∙ zero_written))
above_zero (suc n) bs is other = omega arith
