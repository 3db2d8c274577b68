-- RFC 8259, section 6: numbers.
use Rattle.std.specs.Prelude.{ℕ, List, [], ◌∷◌, ◌++◌, Bool, true, ◌≡◌, ◌⊎◌, ◌&&◌, ◌||◌, ◌==◌, nat_le}
use Rattle.std.specs.Char.{is_ascii_digit}
use Rattle.sorted_sets.specs.Rising.{Each}

-- each byte passes the test
abbrev pub EachPasses : (ℕ → Bool) → List ℕ → Type 0
EachPasses test = Each (λ x. test x ≡ true)

-- digit1-9
abbrev pub is_digit1_9 : ℕ → Bool
is_digit1_9 x = nat_le 0x31 x && nat_le x 0x39

-- minus
abbrev pub is_minus : ℕ → Bool
is_minus x = x == 0x2D

-- minus / plus
abbrev pub is_sign : ℕ → Bool
is_sign x = (x == 0x2D) || (x == 0x2B)

-- decimal-point
abbrev pub is_point : ℕ → Bool
is_point x = x == 0x2E

-- e
abbrev pub is_e : ℕ → Bool
is_e x = (x == 0x65) || (x == 0x45)

-- 1*DIGIT
abbrev pub AreDigits : List ℕ → Type 0
AreDigits [] = ⊥
AreDigits (x ∷ xs) = (is_ascii_digit x ≡ true) × EachPasses is_ascii_digit xs

-- [ minus ], and likewise [ minus / plus ]
abbrev pub IsOptional : (ℕ → Bool) → List ℕ → Type 0
IsOptional test [] = Unit {0}
IsOptional test (x ∷ xs) = (test x ≡ true) × (xs ≡ [])

-- int = zero / ( digit1-9 *DIGIT )
abbrev pub IsInt : List ℕ → Type 0
IsInt [] = ⊥
IsInt (x ∷ xs) = ((x ≡ 0x30) × (xs ≡ [])) ⊎ ((is_digit1_9 x ≡ true) × EachPasses is_ascii_digit xs)

-- [ frac ], with frac = decimal-point 1*DIGIT
abbrev pub IsFrac : List ℕ → Type 0
IsFrac [] = Unit {0}
IsFrac (x ∷ xs) = (is_point x ≡ true) × AreDigits xs

-- [ minus / plus ] 1*DIGIT
pub record AreSignedDigits (text : List ℕ) : Type 0 where
  pub sign : List ℕ
  pub digits : List ℕ
  pub optional_sign : IsOptional is_sign sign
  pub are_digits : AreDigits digits
  pub is : text ≡ sign ++ digits

-- [ exp ], with exp = e [ minus / plus ] 1*DIGIT
abbrev pub IsExp : List ℕ → Type 0
IsExp [] = Unit {0}
IsExp (x ∷ xs) = (is_e x ≡ true) × AreSignedDigits xs

-- number = [ minus ] int [ frac ] [ exp ]
pub record IsNumber (text : List ℕ) : Type 0 where
  pub minus : List ℕ
  pub int : List ℕ
  pub frac : List ℕ
  pub exp : List ℕ
  pub optional_minus : IsOptional is_minus minus
  pub int_holds : IsInt int
  pub frac_holds : IsFrac frac
  pub exp_holds : IsExp exp
  pub is : text ≡ minus ++ (int ++ (frac ++ exp))
