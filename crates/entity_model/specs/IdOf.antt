-- The id that a text is, computed; the law that ties it to the text of an id is beside it.
use Rattle.std.specs.Prelude.{ℕ, ◌&&◌, ◌==◌, ◌^◌, nat_lt, cond, List, [], ◌∷◌, Option, None, Some}
use Rattle.std.specs.Fmt.{decimal}
use Rattle.std.specs.Str.{bytes_eq}
use Rattle.std.specs.Str.Parse.{digits_value}
use Rattle.entity_model.specs.declared.id.IdKind.{IdKind}
use Rattle.entity_model.specs.declared.id.IdKind.TheVariants.{P, Q, L}
use Rattle.entity_model.specs.declared.id.EntityId.{EntityId}
use Rattle.entity_model.specs.IdKind.{letter_of}

-- the id with this number, where the digits are how the number is written
abbrev pub id_with_number : IdKind → ℕ → List ℕ → Option EntityId
id_with_number kind n digits =
    cond (nat_lt 0 n && (nat_lt n (2 ^ 32) && bytes_eq (decimal n) digits)) (Some (record { kind = kind; number = n })) None

-- the id that a text is: the letter, and then a number from 1 to 4,294,967,295 in decimal without a leading zero
abbrev pub id_of : List ℕ → Option EntityId
id_of [] = None
id_of (letter ∷ digits) =
    cond (letter == letter_of P) (id_with_number P (digits_value 10 digits) digits)
    (cond (letter == letter_of Q) (id_with_number Q (digits_value 10 digits) digits)
    (cond (letter == letter_of L) (id_with_number L (digits_value 10 digits) digits) None))
