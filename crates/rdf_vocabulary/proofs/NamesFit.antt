-- Names that are escaped or hashed may stand in an IRI, and how long they are.
use Rattle.std.proofs.Common.{◌≡◌, ℕ, zero, suc, ◌*◌, ◌/◌, ◌%◌, ◌<◌, ◌≤◌, Bool, true, false, cond, nat_lt, List, [], ◌∷◌, length, slice_index, refl, arith}
use Rattle.std.proofs.lemmas.Bool.Decides.{nat_tests}
use Rattle.std.proofs.lemmas.Bool.{agree_below, agree_below_at}
use Rattle.std.proofs.lemmas.List.{length-append}
use Rattle.std.proofs.lemmas.List.Folds.{list_all-append}
use Rattle.std.specs.Char.{is_ascii_alphanumeric}
use Rattle.std.specs.Fmt.{digit_glyph}
use Rattle.std.specs.Int.{to_le_bytes, w32}
use Rattle.std.specs.List.{list_all}
use Rattle.hex.specs.Hex.{encode_with, encode_lower, lower_digits}
use Rattle.hex.proofs.HexLemmas.{length-encode_with}
use Rattle.md5.specs.Md5.{md5, digest_bytes}
use Rattle.md5.proofs.StandardFacts.{length-md5}
use Rattle.percent_encoding.specs.Percent.{percent_encode_byte}
use Rattle.rdf_term.specs.Grammar.{is_iri, is_iri_char}
use Rattle.rdf_vocabulary.specs.Fields.{hashed_name}
use Rattle.rdf_vocabulary.specs.Unreserved.{is_unreserved, escaped_name_byte, escaped_name}
use Rattle.rdf_vocabulary.proofs.Shared.{both}

glyphs : agree_below (λ n. is_iri_char (digit_glyph true n)) (λ n. true) 16 ≡ true
glyphs = refl

glyph_fit : (n : ℕ) → is_iri_char (digit_glyph true (n % 16)) ≡ true
glyph_fit n = agree_below_at (λ m. is_iri_char (digit_glyph true m)) (λ m. true) 16 (n % 16) glyphs (omega arith)

chosen : (P : List ℕ → Type 0) (b : Bool) (x y : List ℕ) → (b ≡ true → P x) → P y → P (cond b x y)
chosen P true x y p q = p refl
chosen P false x y p q = q

unreserved_fit : (b : ℕ) → is_unreserved b ≡ true → is_iri_char b ≡ true
unreserved_fit b h = grind (arith, nat_tests)

escaped_name_byte_iri : (b : ℕ) → is_iri (escaped_name_byte b) ≡ true
unfolding percent_encode_byte
escaped_name_byte_iri b =
    chosen (λ t. is_iri t ≡ true) (is_unreserved b) (b ∷ []) (percent_encode_byte b)
    (λ h. rw (unreserved_fit b h)) (rw (glyph_fit (b / 16), glyph_fit b))

escaped_name_byte_short : (b : ℕ) → length (escaped_name_byte b) ≤ 3
unfolding percent_encode_byte
escaped_name_byte_short b =
    chosen (λ t. length t ≤ 3) (is_unreserved b) (b ∷ []) (percent_encode_byte b) (λ h. omega arith) (omega arith)

-- an escaped name may stand in an IRI
pub escaped_name_iri : (name : List ℕ) → is_iri (escaped_name name) ≡ true
escaped_name_iri [] = refl
escaped_name_iri (b ∷ name) =
    rw (list_all-append is_iri_char (escaped_name_byte b) (escaped_name name), escaped_name_byte_iri b) (escaped_name_iri name)

-- and has at most three bytes for each
pub escaped_name_short : (name : List ℕ) → length (escaped_name name) ≤ 3 * length name
escaped_name_short [] = omega arith
escaped_name_short (b ∷ name) =
    omega (arith, escaped_name_byte_short b, escaped_name_short name, length-append (escaped_name_byte b) (escaped_name name))

letter_fit : (c : ℕ) → is_ascii_alphanumeric c ≡ true → is_iri_char c ≡ true
letter_fit c h = grind (arith, nat_tests)

-- letters and digits may stand in an IRI
pub letters_iri : (text : List ℕ) → list_all is_ascii_alphanumeric text ≡ true → is_iri text ≡ true
letters_iri [] h = refl
letters_iri (c ∷ text) h =
    let parts = both (is_ascii_alphanumeric c) (list_all is_ascii_alphanumeric text) h in
    rw (letter_fit c parts.0) (letters_iri text parts.1)

-- hexadecimal digits are letters and digits
hex_digits : agree_below (λ n. is_ascii_alphanumeric (slice_index lower_digits n)) (λ n. true) 16 ≡ true
hex_digits = refl

hex_digit : (n : ℕ) → n < 16 → is_ascii_alphanumeric (slice_index lower_digits n) ≡ true
hex_digit n h = agree_below_at (λ m. is_ascii_alphanumeric (slice_index lower_digits m)) (λ m. true) 16 n hex_digits h

-- each number is below 256
abbrev is_byte : ℕ → Bool
is_byte b = nat_lt b 256

hex_letters : (bytes : List ℕ) → list_all is_byte bytes ≡ true → list_all is_ascii_alphanumeric (encode_lower bytes) ≡ true
unfolding encode_with
hex_letters [] h = refl
hex_letters (b ∷ bytes) h =
    let parts = both (nat_lt b 256) (list_all is_byte bytes) h in
    let small : b < 256 = grind (arith, nat_tests) in
    rw (hex_digit (b / 16) (omega arith), hex_digit (b % 16) (omega arith)) (hex_letters bytes parts.1)

word_small : (n : ℕ) → list_all is_byte (to_le_bytes w32 n) ≡ true
word_small n = grind (arith, nat_tests)

digest_small : (h : List ℕ) (n : ℕ) → list_all is_byte (digest_bytes h n) ≡ true
unfolding digest_bytes
digest_small h zero = refl
digest_small h (suc n) = rw (list_all-append is_byte (digest_bytes h n) (to_le_bytes w32 (slice_index h n)), digest_small h n) (word_small (slice_index h n))

-- a hashed name has letters and digits alone
pub hashed_name_letters : (fields : List ℕ) → list_all is_ascii_alphanumeric (hashed_name fields) ≡ true
unfolding md5
hashed_name_letters fields = hex_letters _ (digest_small _ 4)

-- so it may stand in an IRI
pub hashed_name_iri : (fields : List ℕ) → is_iri (hashed_name fields) ≡ true
hashed_name_iri fields = letters_iri (hashed_name fields) (hashed_name_letters fields)

-- and has 32 bytes
pub length-hashed_name : (fields : List ℕ) → length (hashed_name fields) ≡ 32
length-hashed_name fields = omega (arith, length-encode_with lower_digits (md5 fields), length-md5 fields)
