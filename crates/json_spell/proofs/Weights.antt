-- The texts of a tree are no longer than the bytes that it is read from.
use Rattle.std.proofs.Common.{◌≡◌, ℕ, suc, ◌+◌, ◌<◌, ◌≤◌, ◌==◌, ◌||◌, true, false, List, [], ◌∷◌, ◌++◌, length, Some, None, ⊎_elim, ap, ◌∙◌, arith, length-append}
use lib.Utf8.{encode}
use Rattle.std.proofs.lemmas.Str.{length-encode, len_utf8_bounds, len_utf8_ascii}
use Rattle.std.proofs.lemmas.Bool.Decides.{nat_tests}
use Rattle.json_spell.specs.Tree.{Tree, null, boolean, number, string, array, object, Trees, no_trees, tree, Pairs, no_pairs, pair}
use Rattle.json_spell.specs.Text.{Char, unescaped, short, unicode, surrogates, short_escape, IsChar, spelled, code_point, AreChars, all_spelled, all_utf8, IsString}
use Rattle.json_spell.specs.Grammar.{Spaced, Within, Then, After, IsMember, IsValue, AreValues, AreMoreValues, AreMembers, AreMoreMembers, Reads}
use Rattle.json_spell.specs.Weight.{weight, values_weight, members_weight}
use Rattle.json_spell.proofs.Opened.{some_is, chosen}

-- what a short escape stands for is ASCII
short-low : (x c : ℕ) → short_escape x ≡ Some c → c < 128
unfolding short_escape
short-low x c e =
    ⊎_elim same
    (λ a. ⊎_elim (λ h. low 0x08 (omega arith) h.1)
    (λ b. ⊎_elim (λ h. low 0x0C (omega arith) h.1)
    (λ f. ⊎_elim (λ h. low 0x0A (omega arith) h.1)
    (λ n. ⊎_elim (λ h. low 0x0D (omega arith) h.1)
    (λ r. ⊎_elim (λ h. low 0x09 (omega arith) h.1) (λ h. absurd (none h.1))
    (chosen (x == 0x74) r.1)) (chosen (x == 0x72) n.1)) (chosen (x == 0x6E) f.1)) (chosen (x == 0x66) b.1)) (chosen (x == 0x62) a.1))
    (chosen ((x == 0x22) || (x == 0x5C) || (x == 0x2F)) e)
  where
    same : (((x == 0x22) || (x == 0x5C) || (x == 0x2F)) ≡ true) × (Some x ≡ Some c) → c < 128
    same h = let v = some_is h.1 in let small : x < 128 = grind (arith, nat_tests, h.0) in omega (arith, v)

    low : (d : ℕ) → d < 128 → Some d ≡ Some c → c < 128
    low d l f = let v = some_is f in omega (arith, v)

    none : None ≡ Some c → ⊥
    none f = cc

-- a char is no shorter than the character that it stands for
char-weight : (p : Char) → IsChar p → length (encode (code_point p)) ≤ length (spelled p)
char-weight (unescaped c) h = omega arith
char-weight (short x c) h = omega (arith, length-encode c, len_utf8_ascii c (short-low x c h))
char-weight (unicode a b c d u) h = let l = (len_utf8_bounds u).1 in omega (arith, length-encode u)
char-weight (surrogates a b c d u e f g k v) h =
    let m = code_point (surrogates a b c d u e f g k v) in let l = (len_utf8_bounds m).1 in omega (arith, length-encode m)

chars-weight : (ps : List Char) → AreChars ps → length (all_utf8 ps) ≤ length (all_spelled ps)
chars-weight [] h = omega arith
chars-weight (p ∷ ps) h =
    omega (arith, length-append (encode (code_point p)) (all_utf8 ps), length-append (spelled p) (all_spelled ps), char-weight p h.0, chars-weight ps h.1)

string-weight : (m x : List ℕ) → IsString m x → length m ≤ length x
string-weight m x h =
    let content : length m ≡ length (all_utf8 h.chars) = ap length h.content_is in
    let text : length x ≡ suc (length (all_spelled h.chars ++ 0x22 ∷ [])) = ap length h.text_is in
    omega (arith, chars-weight h.chars h.are_chars, length-append (all_spelled h.chars) (0x22 ∷ []))

-- the lengths of the parts of a text
spaced-long : (P : List ℕ → Type 0) (x : List ℕ) (h : Spaced P x) → length h.inside ≤ length x
spaced-long P x h =
    let text : length x ≡ length (h.before ++ (h.inside ++ h.after)) = ap length h.is in
    omega (arith, length-append h.before (h.inside ++ h.after), length-append h.inside h.after)

within-long : (a b : ℕ) (P : List ℕ → Type 0) (x : List ℕ) (h : Within a b P x) → length h.inside ≤ length x
within-long a b P x h =
    let text : length x ≡ suc (length (h.inside ++ b ∷ [])) = ap length h.is in
    omega (arith, length-append h.inside (b ∷ []))

then-long : (P Q : List ℕ → Type 0) (x : List ℕ) (h : Then P Q x) → length x ≡ length h.first + length h.second
then-long P Q x h = ap length h.is ∙ length-append h.first h.second

after-long : (a : ℕ) (P : List ℕ → Type 0) (x : List ℕ) (h : After a P x) → length x ≡ suc (length h.rest)
after-long a P x h = ap length h.is

member-weight : (k : List ℕ) (t : Tree) (x : List ℕ) → ((y : List ℕ) → IsValue t y → weight t ≤ length y) → IsMember k (IsValue t) x → length k + weight t ≤ length x
member-weight k t x value h =
    let name = h.holds in
    let rest = h.then_holds in
    let body = rest.holds in
    omega (
      arith,
      then-long (Spaced (IsString k)) (After 0x3A (Spaced (IsValue t))) x h,
      after-long 0x3A (Spaced (IsValue t)) h.second rest,
      spaced-long (IsString k) h.first name,
      spaced-long (IsValue t) rest.rest body,
      string-weight k name.inside name.holds,
      value body.inside body.holds,
    )

mutual
  pub value-weight : (t : Tree) (x : List ℕ) → IsValue t x → weight t ≤ length x
  value-weight null x h = omega arith
  value-weight (boolean true) x h = omega arith
  value-weight (boolean false) x h = omega arith
  value-weight (number s) x h = let e : length x ≡ length s = ap length h.0 in omega arith
  value-weight (string m) x h = string-weight m x h
  value-weight (array ts) x h = omega (arith, within-long 0x5B 0x5D (AreValues ts) x h, values-weight ts h.inside h.holds)
  value-weight (object ps) x h = omega (arith, within-long 0x7B 0x7D (AreMembers ps) x h, members-weight ps h.inside h.holds)

  values-weight : (ts : Trees) (x : List ℕ) → AreValues ts x → values_weight ts ≤ length x
  values-weight no_trees x h = omega arith
  values-weight (tree t ts) x h =
      let first = h.holds in
      omega (arith, then-long (Spaced (IsValue t)) (AreMoreValues ts) x h, spaced-long (IsValue t) h.first first, value-weight t first.inside first.holds, more_values-weight ts h.second h.then_holds)

  more_values-weight : (ts : Trees) (x : List ℕ) → AreMoreValues ts x → values_weight ts ≤ length x
  more_values-weight no_trees x h = omega arith
  more_values-weight (tree t ts) x h =
      let parts = h.holds in
      let first = parts.holds in
      omega (
        arith,
        after-long 0x2C (Then (Spaced (IsValue t)) (AreMoreValues ts)) x h,
        then-long (Spaced (IsValue t)) (AreMoreValues ts) h.rest parts,
        spaced-long (IsValue t) parts.first first,
        value-weight t first.inside first.holds,
        more_values-weight ts parts.second parts.then_holds,
      )

  members-weight : (ps : Pairs) (x : List ℕ) → AreMembers ps x → members_weight ps ≤ length x
  members-weight no_pairs x h = omega arith
  members-weight (pair k t ps) x h =
      omega (arith, then-long (IsMember k (IsValue t)) (AreMoreMembers ps) x h, member-weight k t h.first (λ y i. value-weight t y i) h.holds, more_members-weight ps h.second h.then_holds)

  more_members-weight : (ps : Pairs) (x : List ℕ) → AreMoreMembers ps x → members_weight ps ≤ length x
  more_members-weight no_pairs x h = omega arith
  more_members-weight (pair k t ps) x h =
      let parts = h.holds in
      omega (
        arith,
        after-long 0x2C (Then (IsMember k (IsValue t)) (AreMoreMembers ps)) x h,
        then-long (IsMember k (IsValue t)) (AreMoreMembers ps) h.rest parts,
        member-weight k t parts.first (λ y i. value-weight t y i) parts.holds,
        more_members-weight ps parts.second parts.then_holds,
      )

pub reads_weight : (bytes : List ℕ) (t : Tree) → Reads bytes t → weight t ≤ length bytes
reads_weight bytes t h = omega (arith, spaced-long (IsValue t) bytes h, value-weight t h.inside h.holds)
