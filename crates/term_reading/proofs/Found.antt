-- What is read is a content, piece by piece.
use Rattle.std.proofs.Common.{◌≡◌, ℕ, ◌==◌, ◌-◌, ◌<◌, true, false, List, [], ◌∷◌, ◌++◌, Option, Some, None, length, refl, sym, ap, ◌∙◌, arith, ⊎_elim, append_assoc, nat_lt, fold, subst}
use Rattle.std.specs.Char.{is_digit}
use Rattle.std.specs.List.{list_all}
use Rattle.std.proofs.lemmas.Bool.{cases_Bool, ltb-true, ltb-false, eqb-true, and_from}
use Rattle.term_reading.specs.declared.content.Enclosure.{Enclosure}
use Rattle.term_reading.specs.declared.content.State.{State}
use Rattle.term_reading.specs.declared.content.State.TheVariants.{Between, Backslash, Digits}
use Rattle.term_reading.specs.declared.content.Effect.{Effect}
use Rattle.term_reading.specs.declared.content.Effect.TheVariants.{Close, Keep, Put}
use Rattle.term_reading.specs.Reader.{step, step_between, step_backslash, step_digits, put_or_refuse, content_of, with_front, follow}
use Rattle.term_reading.specs.Written.{closing, stands, letter_char, escaped_char, next_value, IsEscape, IsPiece, IsEscapedText, itself, letter, short, long, nothing, more}
use lib.Utf8.{encode}

-- the bytes begin with a content and what closes it
pub record IsRead (e : Enclosure) (xs text rest : List ℕ) : Type 0 where
  pub pieces : List ℕ
  pub content : IsEscapedText e pieces text
  pub is : xs ≡ pieces ++ closing e ∷ rest

-- the bytes begin with digits that end an escape, and with what follows it
record EndsEscape (e : Enclosure) (left value : ℕ) (xs text rest : List ℕ) : Type 0 where
  digits : List ℕ
  c : ℕ
  after : List ℕ
  meaning : List ℕ
  long_enough : length digits ≡ left
  hexadecimal : list_all (λ digit. is_digit digit 16) digits ≡ true
  number : escaped_char e (fold next_value value digits) ≡ Some c
  text_is : text ≡ encode c ++ meaning
  tail : IsRead e after meaning rest
  is : xs ≡ digits ++ after

-- what each state owes
abbrev Owed : Enclosure → State → List ℕ → List ℕ → List ℕ → Type 0
Owed e Between xs text rest = IsRead e xs text rest
Owed e Backslash xs text rest = IsRead e (92 ∷ xs) text rest
Owed e (Digits left value) xs text rest = 0 < left → EndsEscape e left value xs text rest

-- a piece in front of what was read
in_front : (e : Enclosure) (piece meaning xs text rest : List ℕ) → IsPiece e piece meaning → IsRead e xs text rest → IsRead e (piece ++ xs) (meaning ++ text) rest
in_front e piece meaning xs text rest p h = record {
  pieces = piece ++ h.pieces;
  content = more piece meaning h.pieces text p h.content;
  is = ap (λ l. piece ++ l) h.is ∙ sym (append_assoc piece h.pieces (closing e ∷ rest));
}

pub same_pair : (a b c d : List ℕ) → ◌≡◌ {A = Option (List ℕ × List ℕ)} (Some (a, b)) (Some (c, d)) → (a ≡ c) × (b ≡ d)
same_pair a b c d h =
    let both : ◌≡◌ {A = List ℕ × List ℕ} (a, b) (c, d) = cc in
    (ap (λ p. p.0) both, ap (λ p. p.1) both)

record Fronted (front : List ℕ) (read : Option (List ℕ × List ℕ)) (text rest : List ℕ) : Type 0 where
  inner : List ℕ
  is : read ≡ Some (inner, rest)
  text_is : text ≡ front ++ inner

fronted : (front : List ℕ) (read : Option (List ℕ × List ℕ)) (text rest : List ℕ) → with_front front read ≡ Some (text, rest) → Fronted front read text rest
unfolding with_front
fronted front None text rest h = cc
fronted front (Some p) text rest h =
    let same = same_pair (front ++ p.0) p.1 text rest h in
    record { inner = p.0; is = ap (λ l. Some (p.0, l)) same.1; text_is = sym same.0 }

-- an escape that its digits end, behind a backslash and `u` or `U`
escape : (e : Enclosure) (mark count : ℕ) (xs text rest : List ℕ) → ((digits : List ℕ) (c : ℕ) → IsEscape e count digits c → IsPiece e (92 ∷ mark ∷ digits) (encode c)) → EndsEscape e count 0 xs text rest → IsRead e (92 ∷ mark ∷ xs) text rest
escape e mark count xs text rest piece h =
    let p = piece h.digits h.c (record { long = h.long_enough; hexadecimal = h.hexadecimal; number = h.number }) in
    let read = in_front e _ _ h.after h.meaning rest p h.tail in
    subst (λ t. IsRead e (92 ∷ mark ∷ xs) t rest) (sym h.text_is) (subst (λ l. IsRead e (92 ∷ mark ∷ l) (encode h.c ++ h.meaning) rest) (sym h.is) read)

module _ (e : Enclosure) (x : ℕ) (xs text rest : List ℕ) (owed : (s : State) (inner : List ℕ) → content_of e s xs ≡ Some (inner, rest) → Owed e s xs inner rest) where
  abbrev does : Effect → Type 0
  does effect = follow (λ next. content_of e next xs) (x ∷ []) xs effect ≡ Some (text, rest)

  -- a character that stands for itself, or for which an escape ends
  put_read : (piece : List ℕ) (c : ℕ) → IsPiece e piece (encode c) → does (Put c) → IsRead e (piece ++ xs) text rest
  put_read piece c p h =
      let f = fronted (encode c) (content_of e Between xs) text rest h in
      subst (λ t. IsRead e (piece ++ xs) t rest) (sym f.text_is) (in_front e piece (encode c) xs f.inner rest p (owed Between f.inner f.is))

  keep_read : stands e x ≡ true → does Keep → IsRead e (x ∷ xs) text rest
  keep_read s h =
      let f = fronted (x ∷ []) (content_of e Between xs) text rest h in
      subst (λ t. IsRead e (x ∷ xs) t rest) (sym f.text_is) (in_front e (x ∷ []) (x ∷ []) xs f.inner rest (itself x s) (owed Between f.inner f.is))

  close_read : x ≡ closing e → does Close → IsRead e (x ∷ xs) text rest
  close_read is h =
      let same = same_pair [] xs text rest h in
      record {
        pieces = [];
        content = subst (IsEscapedText e []) same.0 nothing;
        is = ap (λ c. c ∷ xs) is ∙ ap (λ l. closing e ∷ l) same.1;
      }

  from_between : does (step_between e x) → IsRead e (x ∷ xs) text rest
  from_between h = ⊎_elim
      (λ (t : (x == closing e) ≡ true). close_read (eqb-true x (closing e) t) (rw t at h))
      (λ (f : (x == closing e) ≡ false). ⊎_elim
      (λ (t : (x == 92) ≡ true). rw (eqb-true x 92 t) (owed Backslash text (rw (f, t) at h)))
      (λ (g : (x == 92) ≡ false). ⊎_elim
      (λ (t : stands e x ≡ true). keep_read t (rw (f, g, t) at h))
      (λ (k : stands e x ≡ false). let none = rw (f, g, k) at h in cc)
      (cases_Bool (stands e x)))
      (cases_Bool (x == 92)))
      (cases_Bool (x == closing e))

  from_letter : (meant : Option ℕ) → letter_char e x ≡ meant → does (put_or_refuse meant) → IsRead e (92 ∷ x ∷ xs) text rest
  from_letter None is h = cc
  from_letter (Some c) is h = put_read (92 ∷ x ∷ []) c (letter x c is) h

  from_backslash : does (step_backslash e x) → IsRead e (92 ∷ x ∷ xs) text rest
  from_backslash h = ⊎_elim
      (λ (t : (x == 117) ≡ true). rw (eqb-true x 117 t) (escape e 117 4 xs text rest short (owed (Digits 4 0) text (rw t at h) (omega arith))))
      (λ (f : (x == 117) ≡ false). ⊎_elim
      (λ (t : (x == 85) ≡ true). rw (eqb-true x 85 t) (escape e 85 8 xs text rest long (owed (Digits 8 0) text (rw (f, t) at h) (omega arith))))
      (λ (g : (x == 85) ≡ false). from_letter (letter_char e x) refl (rw (f, g) at h))
      (cases_Bool (x == 85)))
      (cases_Bool (x == 117))

  -- the last digit of an escape
  last_digit : (value : ℕ) (meant : Option ℕ) → is_digit x 16 ≡ true → escaped_char e (next_value value x) ≡ meant → does (put_or_refuse meant) → EndsEscape e 1 value (x ∷ xs) text rest
  last_digit value None d is h = cc
  last_digit value (Some c) d is h =
      let f = fronted (encode c) (content_of e Between xs) text rest h in
      record {
        digits = x ∷ [];
        c = c;
        after = xs;
        meaning = f.inner;
        long_enough = refl;
        hexadecimal = and_from (is_digit x 16) true d refl;
        number = is;
        text_is = f.text_is;
        tail = owed Between f.inner f.is;
        is = refl;
      }

  one_more : (left value : ℕ) → 1 < left → is_digit x 16 ≡ true → EndsEscape e (left - 1) (next_value value x) xs text rest → EndsEscape e left value (x ∷ xs) text rest
  one_more left value l d h = record {
    digits = x ∷ h.digits;
    c = h.c;
    after = h.after;
    meaning = h.meaning;
    long_enough = omega (arith, h.long_enough);
    hexadecimal = and_from (is_digit x 16) _ d h.hexadecimal;
    number = h.number;
    text_is = h.text_is;
    tail = h.tail;
    is = ap (λ l. x ∷ l) h.is;
  }

  from_digits : (left value : ℕ) → 0 < left → does (step_digits e left value x) → EndsEscape e left value (x ∷ xs) text rest
  from_digits left value l h = ⊎_elim
      (λ (t : nat_lt 1114111 value ≡ true). let none = rw t at h in cc)
      (λ (f : nat_lt 1114111 value ≡ false). ⊎_elim
      (λ (d : is_digit x 16 ≡ true). ⊎_elim
      (λ (m : nat_lt 1 left ≡ true).
      let more_left = ltb-true 1 left m in
      one_more left value more_left d (owed (Digits (left - 1) (next_value value x)) text (rw (f, d, m) at h) (omega arith)))
      (λ (n : nat_lt 1 left ≡ false).
      let at_most = ltb-false 1 left n in
      let one : 1 ≡ left = omega arith in
      subst (λ k. EndsEscape e k value (x ∷ xs) text rest) one (last_digit value (escaped_char e (next_value value x)) d refl (rw (f, d, n) at h)))
      (cases_Bool (nat_lt 1 left)))
      (λ (d : is_digit x 16 ≡ false). let none = rw (f, d) at h in cc)
      (cases_Bool (is_digit x 16)))
      (cases_Bool (nat_lt 1114111 value))

found : (e : Enclosure) (xs text rest : List ℕ) (s : State) → content_of e s xs ≡ Some (text, rest) → Owed e s xs text rest
unfolding content_of step
found e [] text rest s h = cc
found e (x ∷ xs) text rest Between h = from_between e x xs text rest (λ s inner k. found e xs inner rest s k) h
found e (x ∷ xs) text rest Backslash h = from_backslash e x xs text rest (λ s inner k. found e xs inner rest s k) h
found e (x ∷ xs) text rest (Digits left value) h = λ l. from_digits e x xs text rest (λ s inner k. found e xs inner rest s k) left value l h

pub read_content : (e : Enclosure) (xs text rest : List ℕ) → content_of e Between xs ≡ Some (text, rest) → IsRead e xs text rest
read_content e xs text rest h = found e xs text rest Between h
