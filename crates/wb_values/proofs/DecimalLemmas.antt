-- The test for a decimal number tells just the texts of the grammar.
use Rattle.std.proofs.Common.{◌≡◌, ℕ, suc, ◌+◌, ◌<◌, Bool, true, false, not, ◌||◌, cond, nat_eq, nat_lt, IsTrue, List, [], ◌∷◌, ◌++◌, length, take, drop, get_or, Option, Some, None, refl, sym, ap, ◌∙◌, ◌↔◌, arith, add-one}
use Rattle.std.proofs.Math.Seq.{take-append_seam, drop-append-add, drop-cons}
use Rattle.std.proofs.lemmas.Bool.Decides.{nat_tests}
use Rattle.std.proofs.lemmas.Bool.{false≢true, and_parts}
use Rattle.std.proofs.lemmas.List.{append-nil, take-append-drop, length-append}
use Rattle.std.proofs.lemmas.List.Quantifiers.{position-Some}
use Rattle.std.specs.Char.{is_ascii_digit}
use Rattle.std.specs.List.{list_all, position, position_or_len}
use Rattle.wb_values.specs.Decimal.{is_numeral, has_numerals, is_unsigned_decimal, is_decimal, IsSign, no_sign, plus_sign, minus_sign, IsFraction, no_fraction, point_digits, IsDecimal}
use Rattle.wb_values.proofs.WrittenLemmas.{first_index}

-- a byte is a point
abbrev is_point : ℕ → Bool
is_point b = nat_eq b 46

-- digits, and a fraction or none
record IsUnsigned (text : List ℕ) : Type 0 where
  whole : List ℕ
  fraction : List ℕ
  is_whole : is_numeral whole ≡ true
  is_fraction : IsFraction fraction
  is : text ≡ whole ++ fraction

unsigned_by : (text : List ℕ) (index : Option ℕ) → position is_point text ≡ index → has_numerals text index ≡ true → IsUnsigned text
unsigned_by text None e h =
    record { whole = text; fraction = []; is_whole = h; is_fraction = no_fraction; is = sym (append-nil text) }
unsigned_by text (Some point) e h =
    let here = position-Some is_point text point 0 e in
    let mark : get_or text point 0 ≡ 46 = grind (arith, nat_tests, here.1) in
    let lt : point < length text = here.0 in
    let parts = and_parts (is_numeral (take point text)) (is_numeral (drop (point + 1) text)) h in
    let next : drop point text ≡ 46 ∷ drop (point + 1) text = rw (add-one) (drop-cons text point 0 lt ∙ ap (λ b. b ∷ drop (suc point) text) mark) in
    record {
      whole = take point text;
      fraction = 46 ∷ drop (point + 1) text;
      is_whole = parts.0;
      is_fraction = point_digits (drop (point + 1) text) parts.1;
      is = sym (take-append-drop point text) ∙ ap (λ t. take point text ++ t) next;
    }

decimal_sound : (text : List ℕ) → is_decimal text ≡ true → IsDecimal text
decimal_sound [] h = absurd (false≢true h)
decimal_sound (x ∷ xs) h = signed_by _ _ x xs refl refl h
  where
    signed_by : (plus minus : Bool) (x : ℕ) (xs : List ℕ) → nat_eq x 43 ≡ plus → nat_eq x 45 ≡ minus → is_unsigned_decimal (cond (plus || minus) xs (x ∷ xs)) ≡ true → IsDecimal (x ∷ xs)
    signed_by true minus x xs p m h =
        let u = unsigned_by xs _ refl h in
        let is_x : x ≡ 43 = grind (arith, nat_tests) in
        record { sign = 43 ∷ []; whole = u.whole; fraction = u.fraction; is_sign = plus_sign; is_whole = u.is_whole; is_fraction = u.is_fraction; is = rw (is_x, ← u.is) }
    signed_by false true x xs p m h =
        let u = unsigned_by xs _ refl h in
        let is_x : x ≡ 45 = grind (arith, nat_tests) in
        record { sign = 45 ∷ []; whole = u.whole; fraction = u.fraction; is_sign = minus_sign; is_whole = u.is_whole; is_fraction = u.is_fraction; is = rw (is_x, ← u.is) }
    signed_by false false x xs p m h =
        let u = unsigned_by (x ∷ xs) _ refl h in
        record { sign = []; whole = u.whole; fraction = u.fraction; is_sign = no_sign; is_whole = u.is_whole; is_fraction = u.is_fraction; is = u.is }

digit_no_point : (x : ℕ) → is_ascii_digit x ≡ true → not (is_point x) ≡ true
digit_no_point x h = grind (arith, nat_tests)

no_point : (xs : List ℕ) → list_all is_ascii_digit xs ≡ true → list_all (λ x. not (is_point x)) xs ≡ true
no_point [] h = refl
no_point (x ∷ xs) h =
    let n = and_parts (is_ascii_digit x) (list_all is_ascii_digit xs) h in
    let other : not (is_point x) ≡ true = digit_no_point x n.0 in
    rw (other, no_point xs n.1)

no_index : (p : ℕ → Bool) (xs : List ℕ) → list_all (λ x. not (p x)) xs ≡ true → position_or_len p xs ≡ length xs
no_index p [] none = refl
no_index p (x ∷ xs) none =
    let n = and_parts (not (p x)) (list_all (λ x. not (p x)) xs) none in
    rw n.0 (omega (arith, no_index p xs n.1))

unsigned_complete : (whole fraction : List ℕ) → is_numeral whole ≡ true → IsFraction fraction → is_unsigned_decimal (whole ++ fraction) ≡ true
unsigned_complete whole fraction w no_fraction =
    let n = no_point whole (and_parts _ (list_all is_ascii_digit whole) w).1 in
    let index = no_index is_point whole n in
    let past : nat_lt (length whole) (length whole) ≡ false = grind (arith, nat_tests) in
    rw (append-nil whole, index, past) w
unsigned_complete whole fraction w (point_digits digits d) =
    let n = no_point whole (and_parts _ (list_all is_ascii_digit whole) w).1 in
    let index = first_index is_point whole 46 digits n refl in
    let within : nat_lt (length whole) (length (whole ++ (46 ∷ digits))) ≡ true = grind (arith, nat_tests, length-append whole (46 ∷ digits)) in
    let front = take-append_seam whole (46 ∷ digits) in
    let back : drop (length whole + 1) (whole ++ (46 ∷ digits)) ≡ digits = drop-append-add whole (46 ∷ digits) 1 in
    rw (index, within, front, back, w, d)

no_sign_complete : (whole fraction : List ℕ) → is_numeral whole ≡ true → IsFraction fraction → is_decimal (whole ++ fraction) ≡ true
no_sign_complete [] fraction w f = absurd (false≢true w)
no_sign_complete (x ∷ xs) fraction w f =
    let digits = (and_parts _ (list_all is_ascii_digit (x ∷ xs)) w).1 in
    let first = (and_parts (is_ascii_digit x) (list_all is_ascii_digit xs) digits).0 in
    let other : (nat_eq x 43 || nat_eq x 45) ≡ false = grind (arith, nat_tests) in
    rw other (unsigned_complete (x ∷ xs) fraction w f)

decimal_complete : (text : List ℕ) → IsDecimal text → is_decimal text ≡ true
decimal_complete text r = rw (r.is) (by_sign r.sign r.whole r.fraction r.is_sign r.is_whole r.is_fraction)
  where
    by_sign : (sign whole fraction : List ℕ) → IsSign sign → is_numeral whole ≡ true → IsFraction fraction → is_decimal (sign ++ whole ++ fraction) ≡ true
    by_sign sign whole fraction no_sign w f = no_sign_complete whole fraction w f
    by_sign sign whole fraction plus_sign w f = unsigned_complete whole fraction w f
    by_sign sign whole fraction minus_sign w f = unsigned_complete whole fraction w f

-- the test says whether the text is a decimal number
pub is_decimal-is : (text : List ℕ) (answer : Bool) → answer ≡ is_decimal text → IsTrue answer ↔ IsDecimal text
is_decimal-is text answer e = (λ yes. decimal_sound text (sym e ∙ yes), λ r. e ∙ decimal_complete text r)
