-- Texts in ASCII are UTF-8, and so are texts whose bytes beyond ASCII stand for themselves.
use Rattle.std.proofs.Common.{◌≡◌, ℕ, zero, suc, ◌/◌, ◌%◌, ◌==◌, ◌<◌, ◌≤◌, Bool, true, false, nat_lt, List, [], ◌∷◌, ◌++◌, append-nil, length, drop, get_or, decimal, refl, subst, ap, ◌∙◌, add-one, ◌+◌, arith, ⊎_elim}
use Rattle.std.specs.Fmt.{digits, digits_onto, digit_glyph}
use Rattle.std.specs.List.{flat_map, list_all}
use Rattle.std.specs.Str.{IsUtf8, encode_utf8_all}
use Rattle.std.proofs.lemmas.Bool.{agree_below, agree_below_at, and_parts, cases_lt}
use Rattle.std.proofs.lemmas.Bool.Decides.{nat_tests}
use Rattle.std.proofs.lemmas.List.Concat.{flat_map-append}
use Rattle.std.proofs.lemmas.List.{length-append}
use Rattle.std.proofs.lemmas.Str.{IsCharBoundary-after_ascii, IsUtf8-append, IsUtf8-drop, IsUtf8-encode, IsUtf8-from_ascii, IsUtf8-nil, encode_ascii}
use Rattle.std.proofs.lemmas.Str.Ascii.{IsAscii-nil, IsAscii-cons}
use Rattle.sorted_sets.specs.Rising.{Each}
use Rattle.rdf_term.proofs.HighBytes.{encode_high}
use Rattle.rdf_vocabulary.proofs.Shared.{chosen}
use lib.Utf8.{encode, scalar, scalars}

-- one ASCII byte before a text
pub low_utf8 : (x : ℕ) (xs : List ℕ) → x < 128 → IsUtf8 xs → IsUtf8 (x ∷ xs)
low_utf8 x xs low is = IsUtf8-append (x ∷ []) xs (IsUtf8-from_ascii (x ∷ []) (IsAscii-cons x [] low IsAscii-nil)) is

dropped : (xs : List ℕ) (x : ℕ) (ys : List ℕ) → drop (suc (length xs)) (xs ++ x ∷ ys) ≡ ys
dropped [] x ys = refl
dropped (z ∷ xs) x ys = dropped xs x ys

reached : (xs : List ℕ) (x : ℕ) (ys : List ℕ) → get_or (xs ++ x ∷ ys) (length xs) 0 ≡ x
reached [] x ys = refl
reached (z ∷ xs) x ys = reached xs x ys

-- what follows a byte of ASCII
pub after_low : (xs : List ℕ) (x : ℕ) (ys : List ℕ) → x < 128 → IsUtf8 (xs ++ x ∷ ys) → IsUtf8 ys
after_low xs x ys low is =
    subst IsUtf8 (ap (λ n. drop n (xs ++ x ∷ ys)) (add-one (length xs)) ∙ dropped xs x ys) (IsUtf8-drop (xs ++ x ∷ ys) (length xs + 1) is
    (IsCharBoundary-after_ascii (xs ++ x ∷ ys) (length xs) is (omega (arith, length-append xs (x ∷ ys))) (omega (arith, low, reached xs x ys))))

-- bytes that pass a test that only ASCII passes
pub passing_utf8 : (test : ℕ → Bool) → ((c : ℕ) → test c ≡ true → c < 128) → (text : List ℕ) → list_all test text ≡ true → IsUtf8 text
passing_utf8 test low [] all = IsUtf8-nil
passing_utf8 test low (c ∷ text) all =
    let parts = and_parts (test c) (list_all test text) all in low_utf8 c text (low c parts.0) (passing_utf8 test low text parts.1)

-- a byte of ASCII
abbrev pub is_low : ℕ → Bool
is_low c = nat_lt c 128

pub low_is : (c : ℕ) → is_low c ≡ true → c < 128
low_is c is = grind (arith, nat_tests)

-- a text whose bytes are found to be ASCII by computing it
pub ascii_utf8 : (text : List ℕ) → list_all is_low text ≡ true → IsUtf8 text
ascii_utf8 = passing_utf8 is_low low_is

-- what a function gives for each byte
pub each_utf8 : (f : ℕ → List ℕ) → ((b : ℕ) → IsUtf8 (f b)) → (text : List ℕ) → IsUtf8 (flat_map f text)
each_utf8 f is [] = IsUtf8-nil
each_utf8 f is (b ∷ text) = IsUtf8-append (f b) (flat_map f text) (is b) (each_utf8 f is text)

-- where a function keeps the bytes beyond ASCII, and gives UTF-8 for the others, it keeps UTF-8
module _ (f : ℕ → List ℕ) (keeps : (b : ℕ) → 128 ≤ b → f b ≡ b ∷ []) (is : (b : ℕ) → b < 128 → IsUtf8 (f b)) where
  same : (bs : List ℕ) → Each (λ b. 128 ≤ b) bs → flat_map f bs ≡ bs
  same [] high = refl
  same (b ∷ bs) high = rw (keeps b high.0) (ap (λ l. b ∷ l) (same bs high.1))

  char_utf8 : (c : ℕ) → scalar c ≡ true → IsUtf8 (flat_map f (encode c))
  char_utf8 c h = ⊎_elim
      (λ low. rw (encode_ascii c low) (rw (append-nil (f c)) (is c low)))
      (λ high. rw (same (encode c) (encode_high c high)) (IsUtf8-encode c h))
      (cases_lt c 128)

  chars_utf8 : (cs : List ℕ) → scalars cs ≡ true → IsUtf8 (flat_map f (encode_utf8_all cs))
  chars_utf8 [] h = IsUtf8-nil
  chars_utf8 (c ∷ cs) h =
      let parts = and_parts (scalar c) (scalars cs) h in
      rw (flat_map-append f (encode c) (encode_utf8_all cs)) (IsUtf8-append (flat_map f (encode c)) (flat_map f (encode_utf8_all cs)) (char_utf8 c parts.0) (chars_utf8 cs parts.1))

  pub kept_utf8 : (text : List ℕ) → IsUtf8 text → IsUtf8 (flat_map f text)
  kept_utf8 text h = subst (λ t. IsUtf8 (flat_map f t)) h.1.1 (chars_utf8 h.0 h.1.0)

-- ---- numbers

glyphs : agree_below (λ n. is_low (digit_glyph false n)) (λ n. true) 10 ≡ true
glyphs = refl

glyph_low : (n : ℕ) → digit_glyph false (n % 10) < 128
glyph_low n = low_is _ (agree_below_at (λ m. is_low (digit_glyph false m)) (λ m. true) 10 (n % 10) glyphs (omega arith))

digits_onto_utf8 : (k n : ℕ) (acc : List ℕ) → IsUtf8 acc → IsUtf8 (digits_onto k 10 false n acc)
digits_onto_utf8 zero n acc is = is
digits_onto_utf8 (suc k) n acc is =
    let more : IsUtf8 (digit_glyph false (n % 10) ∷ acc) = low_utf8 _ acc (glyph_low n) is in
    chosen IsUtf8 (n / 10 == 0) _ _ more (digits_onto_utf8 k (n / 10) (digit_glyph false (n % 10) ∷ acc) more)

-- a number in decimal
pub decimal_utf8 : (n : ℕ) → IsUtf8 (decimal n)
unfolding digits
decimal_utf8 n = digits_onto_utf8 64 n [] IsUtf8-nil
