-- The ids of forms and senses: what the test of a text finds is what they are.
use Rattle.std.proofs.Common.{◌≡◌, ◌≢◌, ℕ, ◌<◌, ◌^◌, Bool, true, false, ◌&&◌, nat_lt, List, ◌++◌, length, take, drop, decimal, Option, Some, None, IfSome, refl, sym, ◌∙◌, ap, arith}
use Rattle.std.specs.Prelude.{is_some}
use Rattle.std.specs.Str.{bytes_eq}
use Rattle.std.specs.Str.Parse.{digits_value}
use Rattle.std.proofs.lemmas.Bool.{and_parts}
use Rattle.std.proofs.lemmas.Bool.Decides.{nat_tests}
use Rattle.std.proofs.lemmas.Fmt.{decimal_is_IsNumeral}
use Rattle.std.proofs.lemmas.List.{take-append-drop}
use Rattle.std.proofs.lemmas.Slice.Eq.{bytes_eq-Decides}
use Rattle.std.proofs.Math.Seq.{drop-append_seam, take-append_seam}
use Rattle.entity_model.specs.declared.id.EntityId.{EntityId}
use Rattle.entity_model.specs.EntityId.{id_text}
use Rattle.entity_model.specs.Lexeme.{IsPartId, is_id_number, is_part_id}

same_text : (text : List ℕ) → bytes_eq text text ≡ true
same_text text = (bytes_eq-Decides text text).1 refl

-- where the text begins so, what follows decides
pub behind : (front text rest : List ℕ) → text ≡ front ++ rest → is_id_number rest ≡ is_part_id front text
behind front text rest e =
    rw (e, take-append_seam front rest, drop-append_seam front rest, same_text front) refl

-- and where it doesn't, it is no such id
pub not_behind : (front text : List ℕ) → ((rest : List ℕ) → text ≢ front ++ rest) → false ≡ is_part_id front text
not_behind front text none = by (bytes_eq (take (length front) text) front) refl
  where
    by : (b : Bool) → bytes_eq (take (length front) text) front ≡ b → false ≡ (b && is_id_number (drop (length front) text))
    by true e =
        let begins : take (length front) text ≡ front = (bytes_eq-Decides (take (length front) text) front).0 e in
        absurd (none (drop (length front) text) (sym (take-append-drop (length front) text) ∙ ap (λ f. f ++ drop (length front) text) begins))
    by false e = refl

-- digits that are found to be a number are that number in decimal
pub id_number-sound : (digits : List ℕ) → is_id_number digits ≡ true → (n : ℕ) × (0 < n) × (n < 2 ^ 32) × (digits ≡ decimal n)
id_number-sound digits is =
    let n = digits_value 10 digits in
    let parts = and_parts (nat_lt 0 n) (nat_lt n (2 ^ 32) && bytes_eq (decimal n) digits) is in
    let others = and_parts (nat_lt n (2 ^ 32)) (bytes_eq (decimal n) digits) parts.1 in
    let low : 0 < n = let t = parts.0 in grind (arith, nat_tests) in
    let high : n < 2 ^ 32 = let t = others.0 in grind (arith, nat_tests) in
    (n, low, high, sym ((bytes_eq-Decides (decimal n) digits).0 others.1))

pub id_number-complete : (n : ℕ) → 0 < n → n < 2 ^ 32 → is_id_number (decimal n) ≡ true
id_number-complete n low high =
    let value : digits_value 10 (decimal n) ≡ n = (decimal_is_IsNumeral n (omega arith)).1 in
    let positive : nat_lt 0 n ≡ true = grind (arith, nat_tests) in
    let small : nat_lt n (2 ^ 32) ≡ true = grind (arith, nat_tests) in
    rw (value, positive, small, same_text (decimal n)) refl

-- a text that passes is the id of a part
pub part_id-sound : (x : EntityId) (mark text : List ℕ) → is_part_id (id_text x ++ mark) text ≡ true → IsPartId x mark text
part_id-sound x mark text is =
    let front = id_text x ++ mark in
    let rest = drop (length front) text in
    let parts = and_parts (bytes_eq (take (length front) text) front) (is_id_number rest) is in
    let begins : take (length front) text ≡ front = (bytes_eq-Decides (take (length front) text) front).0 parts.0 in
    let found = id_number-sound rest parts.1 in
    record {
      number = found.0;
      low = found.1;
      high = found.2;
      is = sym (take-append-drop (length front) text) ∙ ap (λ f. f ++ rest) begins ∙ ap (λ r. front ++ r) found.3;
    }

-- and each id of a part passes
pub part_id-complete : (x : EntityId) (mark text : List ℕ) → IsPartId x mark text → is_part_id (id_text x ++ mark) text ≡ true
part_id-complete x mark text h = sym (behind (id_text x ++ mark) text (decimal h.number) h.is) ∙ id_number-complete h.number h.low h.high

-- an answer that gives the number that digits write, if there is one, tells whether there is one
pub number_told : (digits : List ℕ) (answer : Option ℕ) → IfSome answer (λ n. (0 < n) × (n < 2 ^ 32) × (decimal n ≡ digits))
    → ((n : ℕ) → 0 < n → n < 2 ^ 32 → decimal n ≡ digits → answer ≡ Some n) → is_some answer ≡ is_id_number digits
number_told digits (Some n) sound complete = sym (ap is_id_number (sym sound.2) ∙ id_number-complete n sound.0 sound.1)
number_told digits None sound complete = by (is_id_number digits) refl
  where
    by : (b : Bool) → is_id_number digits ≡ b → false ≡ b
    by true e = let found = id_number-sound digits e in let never = complete found.0 found.1 found.2 (sym found.3) in absurd cc
    by false e = refl
