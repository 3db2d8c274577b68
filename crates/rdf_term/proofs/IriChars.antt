-- A character that may stand in an IRI is its own percent-encoding, and so is a text of such.
use Rattle.std.proofs.Common.{◌≡◌, ℕ, ◌==◌, ◌<◌, ◌≤◌, true, false, lit<, List, [], ◌∷◌, ◌++◌, length, refl, sym, ap, ◌∙◌, arith, ⊎_elim, append_assoc, append-nil}
use Rattle.std.proofs.lemmas.Bool.{and_parts, cases_lt, lt-ltb, ne_eqb}
use Rattle.std.proofs.lemmas.List.Concat.{flat_map-append}
use Rattle.std.proofs.lemmas.Str.{encode_ascii}
use Rattle.sorted_sets.specs.Rising.{Each}
use Rattle.rdf_term.specs.declared.term.Term.TheVariants.{Iri}
use Rattle.rdf_term.specs.Grammar.{iri_of, is_iri, is_iri_char, percent_encoded, percent_encoded_byte}
use Rattle.rdf_term.proofs.HighBytes.{encode_high}
use lib.Utf8.{encode}

pub is_iri_char-high : (b : ℕ) → 128 ≤ b → is_iri_char b ≡ true
is_iri_char-high b h =
    let other : (k : ℕ) → k < 128 → (b == k) ≡ false = λ k l. ne_eqb b k (λ e. let n : ⊥ = omega arith in n) in
    rw (lt-ltb 32 b (omega arith), other 60 (lit< tt), other 62 (lit< tt), other 34 (lit< tt), other 123 (lit< tt), other 125 (lit< tt), other 124 (lit< tt), other 94 (lit< tt), other 96 (lit< tt), other 92 (lit< tt)) refl

percent_encoded-high : (bs : List ℕ) → Each (λ b. 128 ≤ b) bs → percent_encoded bs ≡ bs
percent_encoded-high [] h = refl
percent_encoded-high (b ∷ bs) h = rw (is_iri_char-high b h.0) (ap (λ rest. b ∷ rest) (percent_encoded-high bs h.1))

pub percent_encoded_char : (c : ℕ) → is_iri_char c ≡ true → percent_encoded (encode c) ≡ encode c
percent_encoded_char c e = ⊎_elim
    (λ low. rw (encode_ascii c low, e) refl)
    (λ high. percent_encoded-high (encode c) (encode_high c high))
    (cases_lt c 128)

percent_encoded_same : (text : List ℕ) → is_iri text ≡ true → percent_encoded text ≡ text
percent_encoded_same [] h = refl
percent_encoded_same (b ∷ text) h =
    let parts = and_parts (is_iri_char b) (is_iri text) h in
    rw parts.0 (ap (λ rest. b ∷ rest) (percent_encoded_same text parts.1))

-- the IRI of a text of such characters is the text
pub iri_of_same : (text : List ℕ) → is_iri text ≡ true → iri_of text ≡ Iri text
iri_of_same text h = ap Iri (percent_encoded_same text h)

-- one character more of a text that is encoded, and the end of the text
pub encoded_more : (out new left rest text : List ℕ) (c : ℕ) → left ≡ encode c ++ rest → out ++ percent_encoded left ≡ percent_encoded text → new ≡ out ++ percent_encoded (encode c) → new ++ percent_encoded rest ≡ percent_encoded text
encoded_more out new left rest text c is before step =
    ap (λ l. l ++ percent_encoded rest) step
    ∙ append_assoc out (percent_encoded (encode c)) (percent_encoded rest)
    ∙ ap (λ l. out ++ l) (sym (ap percent_encoded is ∙ flat_map-append percent_encoded_byte (encode c) rest))
    ∙ before

pub encoded_whole : (out left text : List ℕ) → length left ≡ 0 → out ++ percent_encoded left ≡ percent_encoded text → out ≡ percent_encoded text
encoded_whole out [] text none before = sym (append-nil out) ∙ before
encoded_whole out (x ∷ xs) text none before = absurd (omega arith)
