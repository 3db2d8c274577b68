-- Numbers from 0 to 255: an answer that is sound and complete is the number that a text spells.
use Rattle.std.proofs.Common.{◌≡◌, ℕ, zero, suc, ◌<◌, ◌≤◌, Bool, true, false, ◌&&◌, nat_lt, cond, List, [], ◌∷◌, Option, Some, None, IfSome, get_or, refl, sym, ap, ◌∙◌, arith}
use Rattle.std.specs.Fmt.{decimal}
use Rattle.std.specs.Str.{bytes_eq}
use Rattle.std.specs.Str.Parse.{digits_value}
use Rattle.std.proofs.lemmas.Bool.{and_parts}
use Rattle.std.proofs.lemmas.Bool.Decides.{nat_tests}
use Rattle.std.proofs.lemmas.Slice.Eq.{bytes_eq-Decides}
use Rattle.std.proofs.lemmas.Fmt.{digits_value-decimal}
use Rattle.digits.proofs.Decimals.{decimal_numerals, first_digit, zero_written}
use Rattle.entity_json.specs.Leaves.{small_of}

written : (n : ℕ) → n < 256 → small_of (decimal n) ≡ Some n
written n small =
    let fits : nat_lt n 256 ≡ true = grind (arith, nat_tests) in
    let same : bytes_eq (decimal n) (decimal n) ≡ true = (bytes_eq-Decides (decimal n) (decimal n)).1 refl in
    let value : digits_value 10 (decimal n) ≡ n = digits_value-decimal decimal_numerals n (omega arith) in
    rw (value, fits, same) refl

spelled : (bs : List ℕ) (n m : ℕ) (b : Bool) → (nat_lt n 256 && bytes_eq (decimal n) bs) ≡ b → cond b (Some n) None ≡ Some m → (m < 256) × (decimal m ≡ bs)
spelled bs n m true e is =
    let parts = and_parts (nat_lt n 256) (bytes_eq (decimal n) bs) e in
    let same : n ≡ m = cc in
    let fits : n < 256 = let t = parts.0 in grind (arith, nat_tests) in
    rw (← same) (fits, (bytes_eq-Decides (decimal n) bs).0 parts.1)
spelled bs n m false e is = absurd cc

none-read : (bs : List ℕ) (o : Option ℕ) → small_of bs ≡ o → ((n : ℕ) → n < 256 → decimal n ≡ bs → ◌≡◌ {A = Option ℕ} None (Some n)) → ◌≡◌ {A = Option ℕ} None o
none-read bs None e complete = refl
none-read bs (Some m) e complete =
    let n = digits_value 10 bs in
    let s = spelled bs n m (nat_lt n 256 && bytes_eq (decimal n) bs) refl e in
    complete m s.0 s.1

-- an answer that is sound and complete is the number that the text spells
pub small-value : (bs : List ℕ) (answer : Option ℕ) → IfSome answer (λ n. (n < 256) × (decimal n ≡ bs)) → ((n : ℕ) → n < 256 → decimal n ≡ bs → answer ≡ Some n) → answer ≡ small_of bs
small-value bs None sound complete = none-read bs (small_of bs) refl complete
small-value bs (Some n) sound complete = sym (ap small_of (sym sound.1) ∙ written n sound.0)

-- the first digit of what isn't 0
pub small-starts : (n : ℕ) (bs : List ℕ) → n < 256 → decimal n ≡ bs → (bs ≡ 48 ∷ [] → ⊥) → (49 ≤ get_or bs 0 0) × (get_or bs 0 0 ≤ 57)
small-starts zero bs low is other = absurd (other (sym is ∙ zero_written))
small-starts (suc n) bs low is other = first_digit (suc n) bs (omega arith) (omega arith) is
