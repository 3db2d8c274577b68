-- Each text of the grammar is UTF-8.
use Rattle.std.proofs.Common.{◌≡◌, ℕ, ◌<◌, ◌≤◌, ◌==◌, ◌&&◌, Bool, true, false, List, [], ◌∷◌, ◌++◌, Some, None, nat_lt, ⊎_elim, refl, sym, subst, arith}
use Rattle.std.specs.Char.{is_digit}
use Rattle.std.specs.List.{list_all}
use Rattle.std.specs.Str.{IsUtf8}
use Rattle.std.proofs.lemmas.Str.{IsUtf8-append, IsUtf8-encode, IsUtf8-nil, IsUtf8-from_ascii}
use Rattle.std.proofs.lemmas.Str.Ascii.{IsAscii-nil, IsAscii-cons}
use Rattle.std.proofs.lemmas.Bool.{cases_lt}
use Rattle.std.proofs.lemmas.Bool.Decides.{nat_tests}
use Rattle.json_spell.specs.Tree.{Tree, null, boolean, number, string, array, object, Trees, no_trees, tree, Pairs, no_pairs, pair}
use Rattle.json_spell.specs.Text.{Char, unescaped, short, unicode, surrogates, short_escape, code_unit, IsChar, spelled, AreChars, all_spelled, IsString}
use Rattle.json_spell.specs.Grammar.{is_ws, IsWs, Spaced, Within, Then, After, IsMember, IsValue, AreValues, AreMoreValues, AreMembers, AreMoreMembers, Reads, null_name, true_name, false_name}
use Rattle.json_spell.proofs.Opened.{guarded}
use Rattle.json_spell.proofs.Numbers.{number-ascii, each-ascii}

-- one ASCII byte before a text
byte-utf8 : (x : ℕ) (xs : List ℕ) → x < 128 → IsUtf8 xs → IsUtf8 (x ∷ xs)
byte-utf8 x xs low h = IsUtf8-append (x ∷ []) xs (IsUtf8-from_ascii (x ∷ []) (IsAscii-cons x [] low IsAscii-nil)) h

ws-low : (x : ℕ) → is_ws x ≡ true → x < 128
ws-low x h = grind (arith, nat_tests)

ws-utf8 : (xs : List ℕ) → IsWs xs → IsUtf8 xs
ws-utf8 xs h = IsUtf8-from_ascii xs (each-ascii is_ws ws-low xs h)

-- the letters and digits of escapes are ASCII
short-letter : (x c : ℕ) → short_escape x ≡ Some c → x < 128
unfolding short_escape
short-letter x c e = ⊎_elim (λ l. l) (λ h. absurd (high h)) (cases_lt x 128)
  where
    other : (k : ℕ) → k < 128 → 128 ≤ x → (x == k) ≡ false
    other k l h = grind (arith, nat_tests)

    high : 128 ≤ x → ⊥
    high h =
        let none : short_escape x ≡ None =
        rw (
          other 0x22 (omega arith) h,
          other 0x5C (omega arith) h,
          other 0x2F (omega arith) h,
          other 0x62 (omega arith) h,
          other 0x66 (omega arith) h,
          other 0x6E (omega arith) h,
          other 0x72 (omega arith) h,
          other 0x74 (omega arith) h,
        ) refl in
        cc

digit-low : (x : ℕ) → is_digit x 16 ≡ true → x < 128
digit-low x h = grind (arith, nat_tests)

pub all-four : (a b c d : Bool) → (a && b && c && d) ≡ true → (a ≡ true) × (b ≡ true) × (c ≡ true) × (d ≡ true)
all-four true true true true e = (refl, refl, refl, refl)
all-four false b c d e = absurd cc
all-four true false c d e = absurd cc
all-four true true false d e = absurd cc
all-four true true true false e = absurd cc

unit-utf8 : (a b c d u : ℕ) (xs : List ℕ) → code_unit a b c d ≡ Some u → IsUtf8 xs → IsUtf8 (0x5C ∷ 0x75 ∷ a ∷ b ∷ c ∷ d ∷ xs)
unfolding code_unit
unit-utf8 a b c d u xs e h =
    let digits = all-four (is_digit a 16) (is_digit b 16) (is_digit c 16) (is_digit d 16) (guarded (is_digit a 16 && is_digit b 16 && is_digit c 16 && is_digit d 16) e).0 in
    byte-utf8 0x5C (0x75 ∷ a ∷ b ∷ c ∷ d ∷ xs) (omega arith) (byte-utf8 0x75 (a ∷ b ∷ c ∷ d ∷ xs) (omega arith)
    (byte-utf8 a (b ∷ c ∷ d ∷ xs) (digit-low a digits.0) (byte-utf8 b (c ∷ d ∷ xs) (digit-low b digits.1)
    (byte-utf8 c (d ∷ xs) (digit-low c digits.2) (byte-utf8 d xs (digit-low d digits.3) h)))))

char-utf8 : (p : Char) → IsChar p → IsUtf8 (spelled p)
char-utf8 (unescaped c) h = IsUtf8-encode c h.0
char-utf8 (short x c) h = byte-utf8 0x5C (x ∷ []) (omega arith) (byte-utf8 x [] (short-letter x c h) IsUtf8-nil)
char-utf8 (unicode a b c d u) h = unit-utf8 a b c d u [] h.0 IsUtf8-nil
char-utf8 (surrogates a b c d u e f g k v) h = unit-utf8 a b c d u (0x5C ∷ 0x75 ∷ e ∷ f ∷ g ∷ k ∷ []) h.0 (unit-utf8 e f g k v [] h.2 IsUtf8-nil)

chars-utf8 : (ps : List Char) → AreChars ps → IsUtf8 (all_spelled ps)
chars-utf8 [] h = IsUtf8-nil
chars-utf8 (p ∷ ps) h = IsUtf8-append (spelled p) (all_spelled ps) (char-utf8 p h.0) (chars-utf8 ps h.1)

string-utf8 : (m x : List ℕ) → IsString m x → IsUtf8 x
string-utf8 m x h =
    subst IsUtf8 (sym h.text_is)
    (byte-utf8 0x22 (all_spelled h.chars ++ 0x22 ∷ []) (omega arith)
    (IsUtf8-append (all_spelled h.chars) (0x22 ∷ []) (chars-utf8 h.chars h.are_chars) (byte-utf8 0x22 [] (omega arith) IsUtf8-nil)))

-- a literal name, by a test that computes
name-utf8 : (name : List ℕ) → list_all (λ x. nat_lt x 128) name ≡ true → IsUtf8 name
name-utf8 [] e = IsUtf8-nil
name-utf8 (x ∷ name) e = at (nat_lt x 128) refl e (λ f. name-utf8 name f)
  where
    at : (b : Bool) → nat_lt x 128 ≡ b → (b && list_all (λ y. nat_lt y 128) name) ≡ true → (list_all (λ y. nat_lt y 128) name ≡ true → IsUtf8 name) → IsUtf8 (x ∷ name)
    at true z f rest = byte-utf8 x name (grind (arith, nat_tests)) (rest f)
    at false z f rest = absurd cc

-- texts of texts
spaced-utf8 : (P : List ℕ → Type 0) → ((y : List ℕ) → P y → IsUtf8 y) → (x : List ℕ) → Spaced P x → IsUtf8 x
spaced-utf8 P utf8 x h =
    subst IsUtf8 (sym h.is) (IsUtf8-append h.before (h.inside ++ h.after) (ws-utf8 h.before h.ws_before) (IsUtf8-append h.inside h.after (utf8 h.inside h.holds) (ws-utf8 h.after h.ws_after)))

within-utf8 : (a b : ℕ) (P : List ℕ → Type 0) → a < 128 → b < 128 → ((y : List ℕ) → P y → IsUtf8 y) → (x : List ℕ) → Within a b P x → IsUtf8 x
within-utf8 a b P low_a low_b utf8 x h =
    subst IsUtf8 (sym h.is) (byte-utf8 a (h.inside ++ b ∷ []) low_a (IsUtf8-append h.inside (b ∷ []) (utf8 h.inside h.holds) (byte-utf8 b [] low_b IsUtf8-nil)))

then-utf8 : (P Q : List ℕ → Type 0) → ((y : List ℕ) → P y → IsUtf8 y) → ((y : List ℕ) → Q y → IsUtf8 y) → (x : List ℕ) → Then P Q x → IsUtf8 x
then-utf8 P Q first second x h = subst IsUtf8 (sym h.is) (IsUtf8-append h.first h.second (first h.first h.holds) (second h.second h.then_holds))

after-utf8 : (a : ℕ) (P : List ℕ → Type 0) → a < 128 → ((y : List ℕ) → P y → IsUtf8 y) → (x : List ℕ) → After a P x → IsUtf8 x
after-utf8 a P low utf8 x h = subst IsUtf8 (sym h.is) (byte-utf8 a h.rest low (utf8 h.rest h.holds))

member-utf8 : (k : List ℕ) (t : Tree) → ((y : List ℕ) → IsValue t y → IsUtf8 y) → (x : List ℕ) → IsMember k (IsValue t) x → IsUtf8 x
member-utf8 k t value =
    then-utf8 (Spaced (IsString k)) (After 0x3A (Spaced (IsValue t))) (spaced-utf8 (IsString k) (string-utf8 k)) (after-utf8 0x3A (Spaced (IsValue t)) (omega arith) (spaced-utf8 (IsValue t) value))

mutual
  pub value-utf8 : (t : Tree) (x : List ℕ) → IsValue t x → IsUtf8 x
  value-utf8 null x h = subst IsUtf8 (sym h) (name-utf8 null_name refl)
  value-utf8 (boolean true) x h = subst IsUtf8 (sym h) (name-utf8 true_name refl)
  value-utf8 (boolean false) x h = subst IsUtf8 (sym h) (name-utf8 false_name refl)
  value-utf8 (number s) x h = IsUtf8-from_ascii x (number-ascii x h.1)
  value-utf8 (string m) x h = string-utf8 m x h
  value-utf8 (array ts) x h = within-utf8 0x5B 0x5D (AreValues ts) (omega arith) (omega arith) (λ y i. values-utf8 ts y i) x h
  value-utf8 (object ps) x h = within-utf8 0x7B 0x7D (AreMembers ps) (omega arith) (omega arith) (λ y i. members-utf8 ps y i) x h

  values-utf8 : (ts : Trees) (x : List ℕ) → AreValues ts x → IsUtf8 x
  values-utf8 no_trees x h = ws-utf8 x h
  values-utf8 (tree t ts) x h = then-utf8 (Spaced (IsValue t)) (AreMoreValues ts) (spaced-utf8 (IsValue t) (λ y i. value-utf8 t y i)) (λ y i. more_values-utf8 ts y i) x h

  more_values-utf8 : (ts : Trees) (x : List ℕ) → AreMoreValues ts x → IsUtf8 x
  more_values-utf8 no_trees x h = subst IsUtf8 (sym h) IsUtf8-nil
  more_values-utf8 (tree t ts) x h =
      after-utf8 0x2C (Then (Spaced (IsValue t)) (AreMoreValues ts)) (omega arith)
      (then-utf8 (Spaced (IsValue t)) (AreMoreValues ts) (spaced-utf8 (IsValue t) (λ y i. value-utf8 t y i)) (λ y i. more_values-utf8 ts y i)) x h

  members-utf8 : (ps : Pairs) (x : List ℕ) → AreMembers ps x → IsUtf8 x
  members-utf8 no_pairs x h = ws-utf8 x h
  members-utf8 (pair k t ps) x h = then-utf8 (IsMember k (IsValue t)) (AreMoreMembers ps) (member-utf8 k t (λ y i. value-utf8 t y i)) (λ y i. more_members-utf8 ps y i) x h

  more_members-utf8 : (ps : Pairs) (x : List ℕ) → AreMoreMembers ps x → IsUtf8 x
  more_members-utf8 no_pairs x h = subst IsUtf8 (sym h) IsUtf8-nil
  more_members-utf8 (pair k t ps) x h =
      after-utf8 0x2C (Then (IsMember k (IsValue t)) (AreMoreMembers ps)) (omega arith)
      (then-utf8 (IsMember k (IsValue t)) (AreMoreMembers ps) (member-utf8 k t (λ y i. value-utf8 t y i)) (λ y i. more_members-utf8 ps y i)) x h

pub reads_utf8 : (bytes : List ℕ) (t : Tree) → Reads bytes t → IsUtf8 bytes
reads_utf8 bytes t h = spaced-utf8 (IsValue t) (value-utf8 t) bytes h
