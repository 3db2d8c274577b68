-- How the length of a text, or that there is none, is kept as one number.
use Rattle.std.specs.Prelude.{◌≡◌, ℕ, zero, suc, Option, Some, None, refl}

-- 0 stands for none, and any other number for the length below it
abbrev pub len_of : ℕ → Option ℕ
len_of zero = None
len_of (suc len) = Some len

-- the number that a length, or none, is kept as
abbrev pub kept_as : Option ℕ → ℕ
kept_as None = 0
kept_as (Some len) = suc len

-- it gives the number back
pub kept_as-len_of : (number : ℕ) → kept_as (len_of number) ≡ number
kept_as-len_of zero = refl
kept_as-len_of (suc len) = refl
