-- What is a content, piece by piece, is read.
use Rattle.std.proofs.Common.{◌≡◌, ℕ, ◌==◌, ◌-◌, ◌<◌, ◌≤◌, true, false, List, [], ◌∷◌, ◌++◌, Some, None, length, refl, sym, ap, ◌∙◌, arith, ⊎_elim, append_assoc, fold}
use Rattle.std.specs.Char.{is_digit}
use Rattle.std.specs.List.{list_all}
use Rattle.std.proofs.lemmas.Bool.{cases_lt, lt-ltb, le-ltb, le-leb, ne_eqb, false≢true, and_parts}
use Rattle.term_reading.specs.declared.content.Enclosure.{Enclosure}
use Rattle.term_reading.specs.declared.content.Enclosure.TheVariants.{Brackets, Quotes}
use Rattle.term_reading.specs.declared.content.State.TheVariants.{Between, Backslash, Digits}
use Rattle.term_reading.specs.declared.content.Effect.TheVariants.{Go, Keep, Put}
use Rattle.term_reading.specs.Reader.{step, step_between, step_backslash, content_of, with_front}
use Rattle.term_reading.specs.Written.{closing, stands, letter_char, escaped_char, next_value, IsPiece, IsEscapedText, itself, letter, short, long, nothing, more}
use lib.Utf8.{encode}

pub value_grows : (digits : List ℕ) (value : ℕ) → value ≤ fold next_value value digits
value_grows [] value = omega arith
value_grows (d ∷ ds) value = omega (arith, value_grows ds (next_value value d))

-- no character has a number above the greatest
pub none_above : (e : Enclosure) (n : ℕ) → 1114111 < n → escaped_char e n ≡ None
none_above Brackets n h = rw (le-ltb n 55296 (omega arith), le-leb 57344 n (omega arith), le-ltb n 1114112 (omega arith)) refl
none_above Quotes n h = rw (le-ltb n 55296 (omega arith), le-leb 57344 n (omega arith), le-ltb n 1114112 (omega arith)) refl

-- so the digits so far have no greater value
in_bounds : (e : Enclosure) (c : ℕ) (digits : List ℕ) (value : ℕ) → escaped_char e (fold next_value value digits) ≡ Some c → value ≤ 1114111
in_bounds e c digits value n = ⊎_elim
    (λ over. let none = none_above e (fold next_value value digits) (omega (arith, value_grows digits value)) in cc)
    (λ within. within)
    (cases_lt 1114111 value)

digits_read : (e : Enclosure) (c : ℕ) (tail digits : List ℕ) (left value : ℕ) → length digits ≡ left → 0 < left → list_all (λ digit. is_digit digit 16) digits ≡ true → escaped_char e (fold next_value value digits) ≡ Some c → content_of e (Digits left value) (digits ++ tail) ≡ with_front (encode c) (content_of e Between tail)
unfolding content_of step
digits_read e c tail [] left value l p h n = absurd (omega arith)
digits_read e c tail (d ∷ []) left value l p h n =
    let within = in_bounds e c (d ∷ []) value n in
    let digit = (and_parts (is_digit d 16) true h).0 in
    let last : left ≤ 1 = omega arith in
    rw (le-ltb 1114111 value within, digit, le-ltb 1 left last, n) refl
digits_read e c tail (d ∷ b ∷ bs) left value l p h n =
    let within = in_bounds e c (d ∷ b ∷ bs) value n in
    let parts = and_parts (is_digit d 16) (list_all (λ digit. is_digit digit 16) (b ∷ bs)) h in
    let others : 1 < left = omega arith in
    rw (le-ltb 1114111 value within, parts.0, lt-ltb 1 left others) (digits_read e c tail (b ∷ bs) (left - 1) (next_value value d) (omega arith) (omega arith) parts.1 n)

-- a character that may stand is none that may not
apart : (e : Enclosure) (b k : ℕ) → stands e b ≡ true → stands e k ≡ false → (b == k) ≡ false
apart e b k h n = ne_eqb b k (λ q. false≢true (sym n ∙ sym (ap (stands e) q) ∙ h))

kept : (e : Enclosure) (b : ℕ) → stands e b ≡ true → step_between e b ≡ Keep
kept Brackets b h = rw (h, apart Brackets b 62 h refl, apart Brackets b 92 h refl) refl
kept Quotes b h = rw (h, apart Quotes b 34 h refl, apart Quotes b 92 h refl) refl

begins : (e : Enclosure) → step_between e 92 ≡ Go Backslash
begins Brackets = refl
begins Quotes = refl

apart_letter : (e : Enclosure) (l c k : ℕ) → letter_char e l ≡ Some c → letter_char e k ≡ None → (l == k) ≡ false
apart_letter e l c k h n = ne_eqb l k (λ q. let a : letter_char e l ≡ letter_char e k = ap (letter_char e) q in cc)

put : (e : Enclosure) (l c : ℕ) → letter_char e l ≡ Some c → step_backslash e l ≡ Put c
put Brackets l c h = cc
put Quotes l c h = rw (h, apart_letter Quotes l c 117 h refl, apart_letter Quotes l c 85 h refl) refl

piece_read : (e : Enclosure) (piece meaning tail : List ℕ) → IsPiece e piece meaning → content_of e Between (piece ++ tail) ≡ with_front meaning (content_of e Between tail)
unfolding content_of step
piece_read e _ _ tail (itself b h) = rw (kept e b h) refl
piece_read e _ _ tail (letter l c h) = rw (begins e, put e l c h) refl
piece_read e _ _ tail (short digits c h) = rw (begins e) (digits_read e c tail digits 4 0 h.long (omega arith) h.hexadecimal h.number)
piece_read e _ _ tail (long digits c h) = rw (begins e) (digits_read e c tail digits 8 0 h.long (omega arith) h.hexadecimal h.number)

closed : (e : Enclosure) (rest : List ℕ) → content_of e Between (closing e ∷ rest) ≡ Some ([], rest)
unfolding content_of step
closed Brackets rest = refl
closed Quotes rest = refl

with_front-Some : (front text rest : List ℕ) → with_front front (Some (text, rest)) ≡ Some (front ++ text, rest)
unfolding with_front
with_front-Some front text rest = refl

pub content_read : (e : Enclosure) (pieces text rest : List ℕ) → IsEscapedText e pieces text → content_of e Between (pieces ++ closing e ∷ rest) ≡ Some (text, rest)
content_read e _ _ rest nothing = closed e rest
content_read e _ _ rest (more piece meaning pieces text p h) =
    ap (content_of e Between) (append_assoc piece pieces (closing e ∷ rest))
    ∙ piece_read e piece meaning (pieces ++ closing e ∷ rest) p
    ∙ ap (with_front meaning) (content_read e pieces text rest h)
    ∙ with_front-Some meaning text rest
