-- Reading a number finds exactly the numbers of the grammar.
use Rattle.std.proofs.Common.{◌≡◌, ℕ, ◌<◌, Bool, true, false, not, ◌||◌, ◌==◌, cond, List, [], ◌∷◌, ◌++◌, Some, None, inl, inr, ⊎_elim, refl, sym, ap, subst, ◌∙◌, arith, append_assoc}
use Rattle.std.specs.Char.{is_ascii_digit}
use Rattle.std.specs.Str.{is_utf8, IsAscii}
use Rattle.std.proofs.lemmas.Str.{IsUtf8-from_ascii, is_utf8-from_IsUtf8, IsAscii-append}
use Rattle.std.proofs.lemmas.Str.Ascii.{IsAscii-nil, IsAscii-cons}
use Rattle.std.proofs.lemmas.Bool.Decides.{nat_tests}
use Rattle.json_spell.specs.Number.{EachPasses, is_digit1_9, is_minus, is_sign, is_point, is_e, AreDigits, IsOptional, IsInt, IsFrac, IsExp, IsNumber}
use Rattle.json_spell.specs.Reading.{skip, skip_one, before, after_digits, after_int, after_frac, after_exp, after_number, number_at}
use Rattle.json_spell.proofs.Opened.{some_is, bind_some, map_some, chosen, guarded, Found}
use Rattle.json_spell.proofs.Skips.{stops, skip-split, skip-all, skip_one-split, skip_one-all, before-append}

-- a byte that a number may go on with
abbrev pub in_number : ℕ → Bool
in_number x = is_ascii_digit x || (is_point x || is_e x)

-- what the bytes of one kind are not
digit-no_sign : (x : ℕ) → is_ascii_digit x ≡ true → not (is_sign x) ≡ true
digit-no_sign x h = grind (arith, nat_tests)

digit-no_minus : (x : ℕ) → is_ascii_digit x ≡ true → not (is_minus x) ≡ true
digit-no_minus x h = grind (arith, nat_tests)

pub digit1_9-digit : (x : ℕ) → is_digit1_9 x ≡ true → is_ascii_digit x ≡ true
digit1_9-digit x h = grind (arith, nat_tests)

digit1_9-no_zero : (x : ℕ) → is_digit1_9 x ≡ true → (x == 0x30) ≡ false
digit1_9-no_zero x h = grind (arith, nat_tests)

point-no_digit : (x : ℕ) → is_point x ≡ true → not (is_ascii_digit x) ≡ true
point-no_digit x h = grind (arith, nat_tests)

e-no_digit : (x : ℕ) → is_e x ≡ true → not (is_ascii_digit x) ≡ true
e-no_digit x h = grind (arith, nat_tests)

e-no_point : (x : ℕ) → is_e x ≡ true → not (is_point x) ≡ true
e-no_point x h = grind (arith, nat_tests)

none-of-three : (a b c : Bool) → not (a || (b || c)) ≡ true → (not a ≡ true) × (not b ≡ true) × (not c ≡ true)
none-of-three false false false e = (refl, refl, refl)
none-of-three true b c e = absurd cc
none-of-three false true c e = absurd cc
none-of-three false false true e = absurd cc

-- what stops a number stops each of its parts
ends-digits : (r : List ℕ) → stops in_number r ≡ true → stops is_ascii_digit r ≡ true
ends-digits [] e = refl
ends-digits (x ∷ r) e = (none-of-three (is_ascii_digit x) (is_point x) (is_e x) e).0

ends-point : (r : List ℕ) → stops in_number r ≡ true → stops is_point r ≡ true
ends-point [] e = refl
ends-point (x ∷ r) e = (none-of-three (is_ascii_digit x) (is_point x) (is_e x) e).1

ends-e : (r : List ℕ) → stops in_number r ≡ true → stops is_e r ≡ true
ends-e [] e = refl
ends-e (x ∷ r) e = (none-of-three (is_ascii_digit x) (is_point x) (is_e x) e).2

-- 1*DIGIT
digits-sound : (s r : List ℕ) → after_digits s ≡ Some r → Found AreDigits s r
digits-sound [] r e = absurd cc
digits-sound (x ∷ s) r e =
    let g = guarded (is_ascii_digit x) e in
    let f = skip-split is_ascii_digit s in
    record { text = x ∷ f.text; holds = (g.0, f.holds); is = ap (λ q. x ∷ q) (f.is ∙ ap (λ q. f.text ++ q) (some_is g.1)) }

digits-complete : (x r : List ℕ) → AreDigits x → stops is_ascii_digit r ≡ true → after_digits (x ++ r) ≡ Some r
digits-complete [] r h e = absurd h
digits-complete (a ∷ x) r h e = rw (h.0) (ap Some (skip-all is_ascii_digit x r h.1 e))

digits-start : (x r : List ℕ) → AreDigits x → stops is_sign (x ++ r) ≡ true
digits-start [] r h = absurd h
digits-start (a ∷ x) r h = digit-no_sign a h.0

-- int
int-sound : (s r : List ℕ) → after_int s ≡ Some r → Found IsInt s r
int-sound [] r e = absurd cc
int-sound (x ∷ s) r e = ⊎_elim (λ zero_is. zero zero_is) (λ other. digits other) (chosen (x == 0x30) e)
  where
    zero : ((x == 0x30) ≡ true) × (Some s ≡ Some r) → Found IsInt (x ∷ s) r
    zero h = let z : x ≡ 0x30 = grind (arith, nat_tests) in record { text = x ∷ []; holds = inl (z, refl); is = ap (λ q. x ∷ q) (some_is h.1) }

    digits : ((x == 0x30) ≡ false) × (cond (is_digit1_9 x) (Some (skip is_ascii_digit s)) None ≡ Some r) → Found IsInt (x ∷ s) r
    digits h =
        let g = guarded (is_digit1_9 x) h.1 in
        let f = skip-split is_ascii_digit s in
        record { text = x ∷ f.text; holds = inr (g.0, f.holds); is = ap (λ q. x ∷ q) (f.is ∙ ap (λ q. f.text ++ q) (some_is g.1)) }

int-complete : (x r : List ℕ) → IsInt x → stops is_ascii_digit r ≡ true → after_int (x ++ r) ≡ Some r
int-complete [] r h e = absurd h
int-complete (a ∷ x) r h e = ⊎_elim zero digits h
  where
    zero : (a ≡ 0x30) × (x ≡ []) → after_int (a ∷ (x ++ r)) ≡ Some r
    zero z = rw (z.0, z.1) refl

    digits : (is_digit1_9 a ≡ true) × EachPasses is_ascii_digit x → after_int (a ∷ (x ++ r)) ≡ Some r
    digits d = rw (digit1_9-no_zero a d.0, d.0) (ap Some (skip-all is_ascii_digit x r d.1 e))

int-start : (x r : List ℕ) → IsInt x → stops is_minus (x ++ r) ≡ true
int-start [] r h = absurd h
int-start (a ∷ x) r h = ⊎_elim (λ z. rw (z.0) refl) (λ d. digit-no_minus a (digit1_9-digit a d.0)) h

-- frac
frac-sound : (s r : List ℕ) → after_frac s ≡ Some r → Found IsFrac s r
frac-sound [] r e = record { text = []; holds = tt; is = some_is e }
frac-sound (x ∷ s) r e = ⊎_elim there none (chosen (is_point x) e)
  where
    there : (is_point x ≡ true) × (after_digits s ≡ Some r) → Found IsFrac (x ∷ s) r
    there h = let f = digits-sound s r h.1 in record { text = x ∷ f.text; holds = (h.0, f.holds); is = ap (λ q. x ∷ q) f.is }

    none : (is_point x ≡ false) × (Some (x ∷ s) ≡ Some r) → Found IsFrac (x ∷ s) r
    none h = record { text = []; holds = tt; is = some_is h.1 }

frac-complete : (x r : List ℕ) → IsFrac x → stops is_point r ≡ true → stops is_ascii_digit r ≡ true → after_frac (x ++ r) ≡ Some r
frac-complete [] [] h p e = refl
frac-complete [] (y ∷ r) h p e = absent (is_point y) p
  where
    absent : (b : Bool) → not b ≡ true → cond b (after_digits r) (Some (y ∷ r)) ≡ Some (y ∷ r)
    absent true q = absurd cc
    absent false q = refl
frac-complete (a ∷ x) r h p e = rw (h.0) (digits-complete x r h.1 e)

frac-start : (x r : List ℕ) → IsFrac x → stops is_ascii_digit r ≡ true → stops is_ascii_digit (x ++ r) ≡ true
frac-start [] r h e = e
frac-start (a ∷ x) r h e = point-no_digit a h.0

-- exp
exp-sound : (s r : List ℕ) → after_exp s ≡ Some r → Found IsExp s r
exp-sound [] r e = record { text = []; holds = tt; is = some_is e }
exp-sound (x ∷ s) r e = ⊎_elim there none (chosen (is_e x) e)
  where
    there : (is_e x ≡ true) × (after_digits (skip_one is_sign s) ≡ Some r) → Found IsExp (x ∷ s) r
    there h =
        let o = skip_one-split is_sign s in
        let f = digits-sound (skip_one is_sign s) r h.1 in
        record {
          text = x ∷ (o.text ++ f.text);
          holds = (h.0, record { sign = o.text; digits = f.text; optional_sign = o.holds; are_digits = f.holds; is = refl });
          is = ap (λ q. x ∷ q) (o.is ∙ ap (λ q. o.text ++ q) f.is ∙ sym (append_assoc o.text f.text r));
        }

    none : (is_e x ≡ false) × (Some (x ∷ s) ≡ Some r) → Found IsExp (x ∷ s) r
    none h = record { text = []; holds = tt; is = some_is h.1 }

exp-complete : (x r : List ℕ) → IsExp x → stops in_number r ≡ true → after_exp (x ++ r) ≡ Some r
exp-complete [] [] h e = refl
exp-complete [] (y ∷ r) h e = absent (is_e y) (ends-e (y ∷ r) e)
  where
    absent : (b : Bool) → not b ≡ true → cond b (after_digits (skip_one is_sign r)) (Some (y ∷ r)) ≡ Some (y ∷ r)
    absent true q = absurd cc
    absent false q = refl
exp-complete (a ∷ x) r h e =
    let d = h.1 in
    rw (h.0, d.is, append_assoc d.sign d.digits r, skip_one-all is_sign d.sign (d.digits ++ r) d.optional_sign (digits-start d.digits r d.are_digits))
    (digits-complete d.digits r d.are_digits (ends-digits r e))

exp-start : (test : ℕ → Bool) → ((x : ℕ) → is_e x ≡ true → not (test x) ≡ true) → (x r : List ℕ) → IsExp x → stops test r ≡ true → stops test (x ++ r) ≡ true
exp-start test differ [] r h e = e
exp-start test differ (a ∷ x) r h e = differ a h.0

-- number
pub number-sound : (s r : List ℕ) → after_number s ≡ Some r → Found IsNumber s r
unfolding after_number
number-sound s r e =
    let minus = skip_one-split is_minus s in
    let i = bind_some (after_int (skip_one is_minus s)) _ e in
    let f = bind_some (after_frac i.0) _ i.1.1 in
    let int = int-sound (skip_one is_minus s) i.0 i.1.0 in
    let frac = frac-sound i.0 f.0 f.1.0 in
    let exp = exp-sound f.0 r f.1.1 in
    record {
      text = minus.text ++ (int.text ++ (frac.text ++ exp.text));
      holds = record { minus = minus.text; int = int.text; frac = frac.text; exp = exp.text; optional_minus = minus.holds; int_holds = int.holds; frac_holds = frac.holds; exp_holds = exp.holds; is = refl };
      is = simp append_assoc (minus.is ∙ ap (λ q. minus.text ++ q) (int.is ∙ ap (λ q. int.text ++ q) (frac.is ∙ ap (λ q. frac.text ++ q) exp.is)));
    }

pub number-complete : (x r : List ℕ) → IsNumber x → stops in_number r ≡ true → after_number (x ++ r) ≡ Some r
unfolding after_number
number-complete x r h e =
    let after_e = h.exp ++ r in
    let after_f = h.frac ++ after_e in
    let after_i = h.int ++ after_f in
    let is : x ++ r ≡ h.minus ++ after_i = rw (h.is) (simp append_assoc) in
    let no_digit : stops is_ascii_digit after_e ≡ true = exp-start is_ascii_digit e-no_digit h.exp r h.exp_holds (ends-digits r e) in
    let no_point : stops is_point after_e ≡ true = exp-start is_point e-no_point h.exp r h.exp_holds (ends-point r e) in
    rw (
      is,
      skip_one-all is_minus h.minus after_i h.optional_minus (int-start h.int after_f h.int_holds),
      int-complete h.int after_f h.int_holds (frac-start h.frac after_e h.frac_holds no_digit),
      frac-complete h.frac after_e h.frac_holds no_point no_digit,
    )
    (exp-complete h.exp r h.exp_holds e)

-- what is read as a number is one, and the bytes before the rest are its text
pub number_at-sound : (s x r : List ℕ) → number_at s ≡ Some (x, r) → IsNumber x × (s ≡ x ++ r)
unfolding number_at
number_at-sound s x r e =
    let m = map_some _ (after_number s) e in
    let f = number-sound s m.0 m.1.0 in
    let rest_is : m.0 ≡ r = ap (λ p. p.1) m.1.1 in
    let front_is : before m.0 s ≡ x = ap (λ p. p.0) m.1.1 in
    let text_is : f.text ≡ x = sym (before-append f.text m.0) ∙ ap (λ q. before m.0 q) (sym f.is) ∙ front_is in
    (subst IsNumber text_is f.holds, f.is ∙ ap (λ q. q ++ m.0) text_is ∙ ap (λ q. x ++ q) rest_is)

pub number_at-complete : (x r : List ℕ) → IsNumber x → stops in_number r ≡ true → number_at (x ++ r) ≡ Some (x, r)
unfolding number_at
number_at-complete x r h e = rw (number-complete x r h e, before-append x r) refl

-- a number is ASCII
pub each-ascii : (test : ℕ → Bool) → ((x : ℕ) → test x ≡ true → x < 128) → (xs : List ℕ) → EachPasses test xs → IsAscii xs
each-ascii test low [] h = IsAscii-nil
each-ascii test low (x ∷ xs) h = IsAscii-cons x xs (low x h.0) (each-ascii test low xs h.1)

digit-low : (x : ℕ) → is_ascii_digit x ≡ true → x < 128
digit-low x h = grind (arith, nat_tests)

digits-ascii : (xs : List ℕ) → AreDigits xs → IsAscii xs
digits-ascii [] h = absurd h
digits-ascii (x ∷ xs) h = each-ascii is_ascii_digit digit-low (x ∷ xs) h

optional-ascii : (test : ℕ → Bool) → ((x : ℕ) → test x ≡ true → x < 128) → (xs : List ℕ) → IsOptional test xs → IsAscii xs
optional-ascii test low [] h = IsAscii-nil
optional-ascii test low (x ∷ xs) h = IsAscii-cons x xs (low x h.0) (rw (h.1) IsAscii-nil)

int-ascii : (xs : List ℕ) → IsInt xs → IsAscii xs
int-ascii [] h = absurd h
int-ascii (x ∷ xs) h = ⊎_elim
    (λ z. IsAscii-cons x xs (let e : x ≡ 0x30 = z.0 in omega arith) (rw (z.1) IsAscii-nil))
    (λ d. each-ascii is_ascii_digit digit-low (x ∷ xs) (digit1_9-digit x d.0, d.1)) h

point-low : (x : ℕ) → is_point x ≡ true → x < 128
point-low x h = grind (arith, nat_tests)

e-low : (x : ℕ) → is_e x ≡ true → x < 128
e-low x h = grind (arith, nat_tests)

sign-low : (x : ℕ) → is_sign x ≡ true → x < 128
sign-low x h = grind (arith, nat_tests)

minus-low : (x : ℕ) → is_minus x ≡ true → x < 128
minus-low x h = grind (arith, nat_tests)

frac-ascii : (xs : List ℕ) → IsFrac xs → IsAscii xs
frac-ascii [] h = IsAscii-nil
frac-ascii (x ∷ xs) h = IsAscii-cons x xs (point-low x h.0) (digits-ascii xs h.1)

exp-ascii : (xs : List ℕ) → IsExp xs → IsAscii xs
exp-ascii [] h = IsAscii-nil
exp-ascii (x ∷ xs) h =
    let d = h.1 in
    IsAscii-cons x xs (e-low x h.0)
    (rw (d.is) (IsAscii-append d.sign d.digits (optional-ascii is_sign sign-low d.sign d.optional_sign) (digits-ascii d.digits d.are_digits)))

pub number-ascii : (x : List ℕ) → IsNumber x → IsAscii x
number-ascii x h =
    rw (h.is)
    (IsAscii-append h.minus (h.int ++ (h.frac ++ h.exp)) (optional-ascii is_minus minus-low h.minus h.optional_minus)
    (IsAscii-append h.int (h.frac ++ h.exp) (int-ascii h.int h.int_holds)
    (IsAscii-append h.frac h.exp (frac-ascii h.frac h.frac_holds) (exp-ascii h.exp h.exp_holds))))

-- so what is read as a number is a text
pub number_at-utf8 : (s r : List ℕ) → after_number s ≡ Some r → is_utf8 (before r s) ≡ true
number_at-utf8 s r e =
    let f = number-sound s r e in
    let text_is : before r s ≡ f.text = ap (λ q. before r q) f.is ∙ before-append f.text r in
    rw text_is (is_utf8-from_IsUtf8 f.text (IsUtf8-from_ascii f.text (number-ascii f.text f.holds)))
