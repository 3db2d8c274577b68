-- The id that a text is has that text, and the text of an id is that id.
use Rattle.std.proofs.Common.{refl, sym, ◌∙◌, ap, ◌≡◌, ℕ, ◌<◌, ◌^◌, Bool, true, false, ◌&&◌, ◌==◌, nat_lt, cond, List, [], ◌∷◌, Option, None, Some, IfSome, arith}
use Rattle.std.specs.Fmt.{decimal}
use Rattle.std.specs.Str.{bytes_eq}
use Rattle.std.specs.Str.Parse.{digits_value}
use Rattle.std.proofs.lemmas.Fmt.{decimal_is_IsNumeral}
use Rattle.std.proofs.lemmas.Bool.Decides.{nat_tests}
use Rattle.std.proofs.lemmas.Bool.{and_parts}
use Rattle.std.proofs.lemmas.Slice.Eq.{bytes_eq-Decides}
use Rattle.entity_model.specs.declared.id.IdKind.{IdKind}
use Rattle.entity_model.specs.declared.id.IdKind.TheVariants.{P, Q, L}
use Rattle.entity_model.specs.declared.id.EntityId.{EntityId}
use Rattle.entity_model.specs.IdKind.{letter_of}
use Rattle.entity_model.specs.EntityId.{IsId, id_text}
use Rattle.entity_model.specs.IdOf.{id_of, id_with_number}

-- a choice that gives something was made
chosen : (b : Bool) (x y : EntityId) → cond b (Some x) None ≡ Some y → (b ≡ true) × (x ≡ y)
chosen true x y is = (refl, cc)
chosen false x y is = cc

-- the number that a number's decimal text has
value_of : (n : ℕ) → n < 2 ^ 32 → digits_value 10 (decimal n) ≡ n
value_of n small = (decimal_is_IsNumeral n (omega arith)).1

id_with_number-text : (kind : IdKind) (n : ℕ) → 0 < n → n < 2 ^ 32 → id_with_number kind n (decimal n) ≡ Some (record { kind = kind; number = n })
id_with_number-text kind n low high =
    let positive : nat_lt 0 n ≡ true = grind (arith, nat_tests) in
    let small : nat_lt n (2 ^ 32) ≡ true = grind (arith, nat_tests) in
    let same : bytes_eq (decimal n) (decimal n) ≡ true = (bytes_eq-Decides (decimal n) (decimal n)).1 refl in
    rw (positive, small, same) refl

text_by_kind : (kind : IdKind) (n : ℕ) → 0 < n → n < 2 ^ 32 → id_of (letter_of kind ∷ decimal n) ≡ Some (record { kind = kind; number = n })
text_by_kind P n low high = rw (value_of n high) (id_with_number-text P n low high)
text_by_kind Q n low high = rw (value_of n high) (id_with_number-text Q n low high)
text_by_kind L n low high = rw (value_of n high) (id_with_number-text L n low high)

-- the text of an id is that id
pub id_of-text : (id : EntityId) → IsId id → id_of (id_text id) ≡ Some id
id_of-text id is = text_by_kind id.kind id.number is.0 is.1

id_with_number-sound : (kind : IdKind) (n : ℕ) (digits : List ℕ) (id : EntityId) → id_with_number kind n digits ≡ Some id →
    IsId id × (id_text id ≡ letter_of kind ∷ digits)
id_with_number-sound kind n digits id is =
    let made : EntityId = record { kind = kind; number = n } in
    let choice = chosen (nat_lt 0 n && (nat_lt n (2 ^ 32) && bytes_eq (decimal n) digits)) made id is in
    let parts = and_parts (nat_lt 0 n) (nat_lt n (2 ^ 32) && bytes_eq (decimal n) digits) choice.0 in
    let others = and_parts (nat_lt n (2 ^ 32)) (bytes_eq (decimal n) digits) parts.1 in
    let low : 0 < n = let t = parts.0 in grind (arith, nat_tests) in
    let high : n < 2 ^ 32 = let t = others.0 in grind (arith, nat_tests) in
    let same : decimal n ≡ digits = (bytes_eq-Decides (decimal n) digits).0 others.1 in
    rw (← choice.1) ((low, high), ap (λ ds. letter_of kind ∷ ds) same)

letters : (letter : ℕ) (digits : List ℕ) (id : EntityId) (p q l : Bool) → (letter == 80) ≡ p → (letter == 81) ≡ q → (letter == 76) ≡ l →
    cond p (id_with_number P (digits_value 10 digits) digits)
    (cond q (id_with_number Q (digits_value 10 digits) digits)
    (cond l (id_with_number L (digits_value 10 digits) digits) None)) ≡ Some id →
    IsId id × (id_text id ≡ letter ∷ digits)
letters letter digits id true q l is_p is_q is_l is =
    let same : letter ≡ 80 = grind (arith, nat_tests) in
    rw same (id_with_number-sound P (digits_value 10 digits) digits id is)
letters letter digits id false true l is_p is_q is_l is =
    let same : letter ≡ 81 = grind (arith, nat_tests) in
    rw same (id_with_number-sound Q (digits_value 10 digits) digits id is)
letters letter digits id false false true is_p is_q is_l is =
    let same : letter ≡ 76 = grind (arith, nat_tests) in
    rw same (id_with_number-sound L (digits_value 10 digits) digits id is)
letters letter digits id false false false is_p is_q is_l is = cc

-- what is read has that text
pub id_of-sound : (text : List ℕ) (id : EntityId) → id_of text ≡ Some id → IsId id × (id_text id ≡ text)
id_of-sound [] id is = cc
id_of-sound (letter ∷ digits) id is = letters letter digits id (letter == 80) (letter == 81) (letter == 76) refl refl refl is

none_read : (text : List ℕ) (read : Option EntityId) → id_of text ≡ read →
    ((id : EntityId) → IsId id → id_text id ≡ text → ◌≡◌ {A = Option EntityId} None (Some id)) → ◌≡◌ {A = Option EntityId} None read
none_read text None is complete = refl
none_read text (Some id) is complete =
    let sound = id_of-sound text id is in
    complete id sound.0 sound.1

-- an answer that is sound and complete is the id that the text is
pub id_of-value : (text : List ℕ) (answer : Option EntityId) →
    IfSome answer (λ id. IsId id × (id_text id ≡ text)) → ((id : EntityId) → IsId id → id_text id ≡ text → answer ≡ Some id) →
    answer ≡ id_of text
id_of-value text None sound complete = none_read text (id_of text) refl complete
id_of-value text (Some id) sound complete = sym (ap id_of (sym sound.1) ∙ id_of-text id sound.0)
