-- The canonical texts of terms and triples are UTF-8 where their parts are.
use Rattle.std.proofs.Common.{◌≡◌, ℕ, ◌<◌, ◌≤◌, true, List, [], ◌∷◌, ◌++◌, refl, append-nil, subst, ap, arith, ⊎_elim}
use Rattle.std.specs.Str.{IsUtf8, encode_utf8_all}
use Rattle.std.proofs.lemmas.Bool.{cases_lt, and_parts}
use Rattle.std.proofs.lemmas.List.Concat.{flat_map-append}
use Rattle.std.proofs.lemmas.Str.{IsUtf8-append, IsUtf8-encode, IsUtf8-nil, IsUtf8-from_ascii, encode_ascii}
use Rattle.std.proofs.lemmas.Str.Ascii.{IsAscii-nil, IsAscii-cons}
use Rattle.sorted_sets.specs.Rising.{Each}
use Rattle.rdf_term.specs.Text.{escaped, escaped_byte, in_brackets, quoted, spaced, triple_text}
use Rattle.rdf_term.specs.declared.triple.Triple.{Triple}
use Rattle.rdf_term.specs.declared.term.Term.{Term}
use Rattle.rdf_term.specs.Text.{term_text}
use Rattle.rdf_term.proofs.Escapes.{kind}
use Rattle.rdf_term.proofs.HighBytes.{encode_high}
use lib.Utf8.{encode, scalar, scalars}

-- one ASCII byte before a text
before : (x : ℕ) (xs : List ℕ) → x < 128 → IsUtf8 xs → IsUtf8 (x ∷ xs)
before x xs low h = IsUtf8-append (x ∷ []) xs (IsUtf8-from_ascii (x ∷ []) (IsAscii-cons x [] low IsAscii-nil)) h

high_same : (bs : List ℕ) → Each (λ b. 128 ≤ b) bs → escaped bs ≡ bs
high_same [] h = refl
high_same (b ∷ bs) h = ⊎_elim
    (λ k. rw k.is (ap (λ l. b ∷ l) (high_same bs h.1)))
    (λ k. absurd (omega (arith, k.low, h.0)))
    (kind b)

letter_low : (x : ℕ) → x < 128 → IsUtf8 (escaped_byte x)
letter_low x l = ⊎_elim
    (λ k. rw k.is (before x [] l IsUtf8-nil))
    (λ k. rw k.is (before 92 (k.letter ∷ []) (omega arith) (before k.letter [] (k.letter_low) IsUtf8-nil)))
    (kind x)

char_utf8 : (c : ℕ) → scalar c ≡ true → IsUtf8 (escaped (encode c))
char_utf8 c h = ⊎_elim
    (λ low. rw (encode_ascii c low) (rw (append-nil (escaped_byte c)) (letter_low c low)))
    (λ high. rw (high_same (encode c) (encode_high c high)) (IsUtf8-encode c h))
    (cases_lt c 128)

chars_utf8 : (cs : List ℕ) → scalars cs ≡ true → IsUtf8 (escaped (encode_utf8_all cs))
chars_utf8 [] h = IsUtf8-nil
chars_utf8 (c ∷ cs) h =
    let parts = and_parts (scalar c) (scalars cs) h in
    rw (flat_map-append escaped_byte (encode c) (encode_utf8_all cs)) (IsUtf8-append (escaped (encode c)) (escaped (encode_utf8_all cs)) (char_utf8 c parts.0) (chars_utf8 cs parts.1))

escaped_utf8 : (text : List ℕ) → IsUtf8 text → IsUtf8 (escaped text)
escaped_utf8 text h = subst (λ t. IsUtf8 (escaped t)) h.1.1 (chars_utf8 h.0 h.1.0)

pub quoted_utf8 : (text rest : List ℕ) → IsUtf8 text → IsUtf8 rest → IsUtf8 (quoted text rest)
quoted_utf8 text rest t r =
    before 34 (escaped text ++ 34 ∷ rest) (omega arith) (IsUtf8-append (escaped text) (34 ∷ rest) (escaped_utf8 text t) (before 34 rest (omega arith) r))

pub iri_utf8 : (iri : List ℕ) → IsUtf8 iri → IsUtf8 (in_brackets iri)
iri_utf8 iri h = before 60 (iri ++ 62 ∷ []) (omega arith) (IsUtf8-append iri (62 ∷ []) h (before 62 [] (omega arith) IsUtf8-nil))

pub blank_utf8 : (label : List ℕ) → IsUtf8 label → IsUtf8 (95 ∷ 58 ∷ label)
blank_utf8 label h = before 95 (58 ∷ label) (omega arith) (before 58 label (omega arith) h)

pub plain_utf8 : (text : List ℕ) → IsUtf8 text → IsUtf8 (quoted text [])
plain_utf8 text h = quoted_utf8 text [] h IsUtf8-nil

pub lang_utf8 : (text tag : List ℕ) → IsUtf8 text → IsUtf8 tag → IsUtf8 (quoted text (64 ∷ tag))
lang_utf8 text tag t g = quoted_utf8 text (64 ∷ tag) t (before 64 tag (omega arith) g)

pub typed_utf8 : (text datatype : List ℕ) → IsUtf8 text → IsUtf8 datatype → IsUtf8 (quoted text (94 ∷ 94 ∷ in_brackets datatype))
typed_utf8 text datatype t d =
    quoted_utf8 text (94 ∷ 94 ∷ in_brackets datatype) t (before 94 (94 ∷ in_brackets datatype) (omega arith) (before 94 (in_brackets datatype) (omega arith) (iri_utf8 datatype d)))

spaced_utf8 : (term : Term) → IsUtf8 (term_text term) → IsUtf8 (spaced term)
spaced_utf8 term h = IsUtf8-append (term_text term) (32 ∷ []) h (before 32 [] (omega arith) IsUtf8-nil)

pub line_utf8 : (triple : Triple) → IsUtf8 (term_text triple.subject) → IsUtf8 (term_text triple.predicate) → IsUtf8 (term_text triple.object) → IsUtf8 (triple_text triple)
line_utf8 triple s p o =
    let a = spaced triple.subject in
    let b = spaced triple.predicate in
    let c = spaced triple.object in
    let end = before 46 (10 ∷ []) (omega arith) (before 10 [] (omega arith) IsUtf8-nil) in
    IsUtf8-append (a ++ b ++ c) (46 ∷ 10 ∷ [])
    (IsUtf8-append (a ++ b) c (IsUtf8-append a b (spaced_utf8 triple.subject s) (spaced_utf8 triple.predicate p)) (spaced_utf8 triple.object o)) end
