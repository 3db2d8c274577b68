-- Texts that the scan passes over without finding them deep, where so many levels are still allowed.
use Rattle.std.proofs.Common.{◌≡◌, ℕ, suc, ◌+◌, ◌≤◌, Bool, true, false, not, ◌||◌, ◌==◌, cond, nat_lt, List, [], ◌∷◌, ◌++◌, Some, refl, ap, ◌∙◌, arith, append_assoc}
use Rattle.std.specs.Char.{is_digit}
use Rattle.std.proofs.lemmas.Bool.Decides.{nat_tests}
use Rattle.std.specs.Prelude.{encode_utf8}
use Rattle.json_spell.specs.declared.deep.Position.TheVariants.{Outside, Inside}
use Rattle.json_spell.specs.Deep.{position_after, is_opening, is_closing, deep_from}
use Rattle.json_spell.specs.Number.{EachPasses}
use Rattle.json_spell.specs.Text.{Char, unescaped, short, unicode, surrogates, is_unescaped, code_unit, IsChar, spelled, AreChars, all_spelled, IsString}
use Rattle.json_spell.proofs.Opened.{guarded}
use Rattle.json_spell.proofs.ContentSteps.{unescaped-bytes}
use Rattle.json_spell.proofs.Utf8Texts.{all-four}

-- the scan is behind the text, with no more brackets open than before it
pub record Passed (o c : ℕ) (x r : List ℕ) : Type 0 where
  pub opened : ℕ
  pub closed : ℕ
  pub same : opened + c ≡ closed + o
  pub is : deep_from Outside o c (x ++ r) ≡ deep_from Outside opened closed r

-- so it is wherever n levels more are allowed
abbrev pub Passes : ℕ → List ℕ → Type 0
Passes n x = (o c : ℕ) (r : List ℕ) → o + n ≤ c + 64 → Passed o c x r

pub passes-none : (n : ℕ) → Passes n []
passes-none n o c r low = record { opened = o; closed = c; same = omega arith; is = refl }

pub passes-append : (n : ℕ) (x y : List ℕ) → Passes n x → Passes n y → Passes n (x ++ y)
passes-append n x y front behind o c r low =
    let p = front o c (y ++ r) low in
    let q = behind p.opened p.closed r (omega (arith, p.same, low)) in
    record { opened = q.opened; closed = q.closed; same = omega (arith, p.same, q.same); is = ap (deep_from Outside o c) (append_assoc x y r) ∙ p.is ∙ q.is }

-- one byte outside of strings
step : (x o c : ℕ) (r : List ℕ) → position_after Outside x ≡ Outside → nat_lt (c + cond (is_closing x) 1 0 + 64) (o + cond (is_opening x) 1 0) ≡ false
    → deep_from Outside o c (x ∷ r) ≡ deep_from Outside (o + cond (is_opening x) 1 0) (c + cond (is_closing x) 1 0) r
unfolding deep_from
step x o c r stays low = rw low (ap (λ p. deep_from p (o + cond (is_opening x) 1 0) (c + cond (is_closing x) 1 0) r) stays)

-- neither a bracket nor a quotation mark
abbrev pub calm : ℕ → Bool
calm x = not ((x == 0x22) || (is_opening x || is_closing x))

pub none-of : (a b c : Bool) → not (a || (b || c)) ≡ true → (a ≡ false) × (b ≡ false) × (c ≡ false)
none-of false false false e = (refl, refl, refl)
none-of true b c e = absurd cc
none-of false true c e = absurd cc
none-of false false true e = absurd cc

pub passes-byte : (n x : ℕ) → calm x ≡ true → Passes n (x ∷ [])
passes-byte n x quiet o c r low =
    let no = none-of (x == 0x22) (is_opening x) (is_closing x) quiet in
    let opens : ◌≡◌ {A = ℕ} (cond (is_opening x) 1 0) 0 = rw (no.1) refl in
    let closes : ◌≡◌ {A = ℕ} (cond (is_closing x) 1 0) 0 = rw (no.2) refl in
    let stays : position_after Outside x ≡ Outside = rw (no.0) refl in
    let below : nat_lt (c + cond (is_closing x) 1 0 + 64) (o + cond (is_opening x) 1 0) ≡ false = grind (arith, nat_tests, opens, closes, low) in
    record { opened = o + cond (is_opening x) 1 0; closed = c + cond (is_closing x) 1 0; same = omega (arith, opens, closes); is = step x o c r stays below }

-- a text in brackets takes one level
pub passes-brackets : (a b n : ℕ) (x : List ℕ) → position_after Outside a ≡ Outside → position_after Outside b ≡ Outside → ◌≡◌ {A = ℕ} (cond (is_opening a) 1 0) 1 → ◌≡◌ {A = ℕ} (cond (is_closing a) 1 0) 0
    → ◌≡◌ {A = ℕ} (cond (is_opening b) 1 0) 0 → ◌≡◌ {A = ℕ} (cond (is_closing b) 1 0) 1
    → Passes n x → Passes (suc n) (a ∷ (x ++ b ∷ []))
passes-brackets a b n x stays_a stays_b opens closes opens_b closes_b inside o c r low =
    let above : nat_lt (c + cond (is_closing a) 1 0 + 64) (o + cond (is_opening a) 1 0) ≡ false = grind (arith, nat_tests, opens, closes, low) in
    let p = inside (o + cond (is_opening a) 1 0) (c + cond (is_closing a) 1 0) (b ∷ r) (omega (arith, opens, closes, low)) in
    let under : nat_lt (p.closed + cond (is_closing b) 1 0 + 64) (p.opened + cond (is_opening b) 1 0) ≡ false =
    let few : p.opened ≤ p.closed + 64 = omega (arith, p.same, opens, closes, low) in grind (arith, nat_tests, opens_b, closes_b, few) in
    record {
      opened = p.opened + cond (is_opening b) 1 0;
      closed = p.closed + cond (is_closing b) 1 0;
      same = omega (arith, p.same, opens, closes, opens_b, closes_b);
      is = ap (λ s. deep_from Outside o c (a ∷ s)) (append_assoc x (b ∷ []) r) ∙ step a o c (x ++ b ∷ r) stays_a above ∙ p.is ∙ step b p.opened p.closed r stays_b under;
    }

-- one byte of a string
inside-step : (x o c : ℕ) (r : List ℕ) → is_unescaped x ≡ true → deep_from Inside o c (x ∷ r) ≡ deep_from Inside o c r
unfolding deep_from
inside-step x o c r h =
    let no_mark : (x == 0x22) ≡ false = grind (arith, nat_tests) in
    let no_backslash : (x == 0x5C) ≡ false = grind (arith, nat_tests) in
    let stays : position_after Inside x ≡ Inside = rw (no_mark, no_backslash) refl in
    ap (λ p. deep_from p o c r) stays

escaped-byte : (x o c : ℕ) (r : List ℕ) → deep_from Inside o c (0x5C ∷ x ∷ r) ≡ deep_from Inside o c r
unfolding deep_from
escaped-byte x o c r = refl

digit-unescaped : (x : ℕ) → is_digit x 16 ≡ true → is_unescaped x ≡ true
digit-unescaped x h = grind (arith, nat_tests)

-- what goes over the bytes that stand for themselves, and over a backslash with the byte after it, goes over the content of a string
module _ {A : Type 0} (f : List ℕ → A) (plain : (x : ℕ) (r : List ℕ) → is_unescaped x ≡ true → f (x ∷ r) ≡ f r) (escaped : (x : ℕ) (r : List ℕ) → f (0x5C ∷ x ∷ r) ≡ f r) where
  inside-run : (xs r : List ℕ) → EachPasses is_unescaped xs → f (xs ++ r) ≡ f r
  inside-run [] r h = refl
  inside-run (x ∷ xs) r h = plain x (xs ++ r) h.0 ∙ inside-run xs r h.1

  inside-unit : (a b d e u : ℕ) (r : List ℕ) → code_unit a b d e ≡ Some u → f (0x5C ∷ 0x75 ∷ a ∷ b ∷ d ∷ e ∷ r) ≡ f r
  unfolding code_unit
  inside-unit a b d e u r is =
      let digits = all-four (is_digit a 16) (is_digit b 16) (is_digit d 16) (is_digit e 16) (guarded _ is).0 in
      escaped 0x75 (a ∷ b ∷ d ∷ e ∷ r)
      ∙ inside-run (a ∷ b ∷ d ∷ e ∷ []) r (digit-unescaped a digits.0, (digit-unescaped b digits.1, (digit-unescaped d digits.2, (digit-unescaped e digits.3, tt))))

  inside-char : (p : Char) (r : List ℕ) → IsChar p → f (spelled p ++ r) ≡ f r
  inside-char (unescaped k) r h = inside-run (encode_utf8 k) r (unescaped-bytes k h.1)
  inside-char (short x k) r h = escaped x r
  inside-char (unicode a b d e u) r h = inside-unit a b d e u r h.0
  inside-char (surrogates a b d e u g k l m v) r h = inside-unit a b d e u (0x5C ∷ 0x75 ∷ g ∷ k ∷ l ∷ m ∷ r) h.0 ∙ inside-unit g k l m v r h.2

  pub inside-chars : (ps : List Char) (r : List ℕ) → AreChars ps → f (all_spelled ps ++ r) ≡ f r
  inside-chars [] r h = refl
  inside-chars (p ∷ ps) r h = ap f (append_assoc (spelled p) (all_spelled ps) r) ∙ inside-char p (all_spelled ps ++ r) h.0 ∙ inside-chars ps r h.1

-- the marks of a string
mark-opens : (o c : ℕ) (r : List ℕ) → o ≤ c + 64 → deep_from Outside o c (0x22 ∷ r) ≡ deep_from Inside (o + 0) (c + 0) r
unfolding deep_from
mark-opens o c r low = let below : nat_lt (c + 0 + 64) (o + 0) ≡ false = grind (arith, nat_tests, low) in rw below refl

mark-closes : (o c : ℕ) (r : List ℕ) → deep_from Inside o c (0x22 ∷ r) ≡ deep_from Outside o c r
unfolding deep_from
mark-closes o c r = refl

pub passes-string : (n : ℕ) (m x : List ℕ) → IsString m x → Passes n x
passes-string n m x h o c r low =
    record {
      opened = o + 0;
      closed = c + 0;
      same = omega arith;
      is = ap (λ q. deep_from Outside o c (q ++ r)) h.text_is
          ∙ ap (λ q. deep_from Outside o c (0x22 ∷ q)) (append_assoc (all_spelled h.chars) (0x22 ∷ []) r)
          ∙ mark-opens o c (all_spelled h.chars ++ 0x22 ∷ r) (omega (arith, low))
          ∙ inside-chars (deep_from Inside (o + 0) (c + 0)) (λ x q. inside-step x (o + 0) (c + 0) q) (λ x q. escaped-byte x (o + 0) (c + 0) q) h.chars (0x22 ∷ r) h.are_chars
          ∙ mark-closes (o + 0) (c + 0) r;
    }
