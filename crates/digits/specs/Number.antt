-- The numbers that decimal digits write, in ASCII.
use Rattle.std.specs.Prelude.{ℕ, ◌+◌, ◌-◌, ◌*◌, ◌/◌, ◌%◌, ◌&&◌, if◌then◌else◌, List, [], ◌∷◌, fold, Option, Some, None}
use Rattle.std.specs.Char.{is_ascii_digit}

-- the number that decimal digits write
abbrev pub decimal_value : List ℕ → ℕ
decimal_value digits = fold (λ n digit. 10 * n + (digit - 48)) 0 digits

-- the number that two decimal digits write
abbrev pub two_digits : ℕ → ℕ → Option ℕ
two_digits tens ones = if is_ascii_digit tens && is_ascii_digit ones then Some (10 * (tens - 48) + (ones - 48)) else None

-- how a number below 100 is written in two digits
abbrev pub two_digits_of : ℕ → List ℕ
two_digits_of n = (48 + n / 10) ∷ (48 + n % 10) ∷ []
