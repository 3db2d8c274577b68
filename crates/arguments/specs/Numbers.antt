-- The numbers that arguments have.
use Rattle.std.specs.Prelude.{ℕ, ◌&&◌, nat_le, cond, List, Option, None, Some}
use Rattle.std.specs.Fmt.{decimal}
use Rattle.std.specs.Str.{bytes_eq}
use Rattle.std.specs.Str.Parse.{digits_value}

-- the number, where it lies from the least to the greatest
abbrev pub between : ℕ → ℕ → Option ℕ → Option ℕ
between least greatest None = None
between least greatest (Some n) = cond (nat_le least n && nat_le n greatest) (Some n) None

-- the number from the least to the greatest that the text is in decimal, without sign and without a leading zero
abbrev pub number_between : ℕ → ℕ → List ℕ → Option ℕ
number_between least greatest digits =
    cond (bytes_eq (decimal (digits_value 10 digits)) digits) (between least greatest (Some (digits_value 10 digits))) None
