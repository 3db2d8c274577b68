-- Reading the canonical text of a fit term gives the term, and what is read is fit.
use Rattle.std.proofs.Common.{◌≡◌, ℕ, ◌≤◌, true, false, not, ◌&&◌, List, [], ◌∷◌, Option, Some, None, Result, Ok, Err, IfOk, IfSome, refl, sym, ap, ◌∙◌, subst, ⊎_elim}
use Rattle.std.specs.Str.{bytes_eq}
use Rattle.std.proofs.lemmas.Bool.{cases_Bool, cases_eq, cases_lt, ne_eqb, and_parts, and_from, not-true}
use Rattle.std.proofs.lemmas.Str.{encode_ascii}
use Rattle.sorted_sets.specs.Rising.{Each}
use Rattle.term_reading.specs.declared.content.Enclosure.TheVariants.{Brackets, Quotes}
use Rattle.base.specs.declared.memory.OutOfMemory.{OutOfMemory}
use Rattle.rdf_term.specs.declared.term.Term.{Term}
use Rattle.rdf_term.specs.declared.term.Term.TheVariants.{Iri, Blank, Plain, Lang, Typed}
use Rattle.rdf_term.specs.Fit.{is_fit, xsd_string}
use Rattle.rdf_term.specs.Grammar.{is_iri, is_iri_char}
use Rattle.rdf_term.specs.Text.{escaped, escaped_byte, term_text}
use Rattle.term_reading.specs.Written.{letter_char, escaped_char, hex_value, IsPiece, IsEscapedText, itself, letter, short, long, nothing, more, IsWritten, iri, blank, plain, lang, typed, literal_of_type}
use Rattle.term_reading.specs.Reader.{read}
use Rattle.term_reading.proofs.Reading.{reads}
use Rattle.rdf_term.proofs.Escapes.{Escapes, kind}
use Rattle.rdf_term.proofs.FitTerms.{is_iri-append}
use Rattle.rdf_term.proofs.HighBytes.{encode_high}
use Rattle.rdf_term.proofs.IriChars.{is_iri_char-high}
use lib.Utf8.{encode, scalar}

iri_content : (text : List ℕ) → is_iri text ≡ true → IsEscapedText Brackets text text
iri_content [] h = nothing
iri_content (x ∷ xs) h =
    let parts = and_parts (is_iri_char x) (is_iri xs) h in
    more (x ∷ []) (x ∷ []) xs xs (itself x parts.0) (iri_content xs parts.1)

-- the letter behind the backslash means the byte that it is written for
meant : (x : ℕ) (k : Escapes x) → letter_char Quotes k.letter ≡ Some x
meant x k =
    ⊎_elim (by 34 34 refl refl)
    (λ a. ⊎_elim (by 92 92 refl refl)
    (λ b. ⊎_elim (by 10 110 refl refl)
    (λ c. ⊎_elim (by 13 114 refl refl)
    (λ d. let stands : escaped_byte x ≡ x ∷ [] = rw (ne_eqb x 34 a, ne_eqb x 92 b, ne_eqb x 10 c, ne_eqb x 13 d) refl in cc (stands, k.is))
    (cases_eq x 13)) (cases_eq x 10)) (cases_eq x 92)) (cases_eq x 34)
  where
    by : (b l : ℕ) → escaped_byte b ≡ 92 ∷ l ∷ [] → letter_char Quotes l ≡ Some b → x ≡ b → letter_char Quotes k.letter ≡ Some x
    by b l is means e =
        let pair : 92 ∷ l ∷ [] ≡ 92 ∷ k.letter ∷ [] = sym is ∙ sym (ap escaped_byte e) ∙ k.is in
        let same : l ≡ k.letter = cc in
        sym (ap (letter_char Quotes) same) ∙ means ∙ ap (λ c. Some c) (sym e)

escaped_content : (text : List ℕ) → IsEscapedText Quotes (escaped text) text
escaped_content [] = nothing
escaped_content (x ∷ xs) = ⊎_elim
    (λ k. rw k.is (more (x ∷ []) (x ∷ []) (escaped xs) xs (itself x (rw (ne_eqb x 34 k.not_quote, ne_eqb x 92 k.not_backslash, ne_eqb x 10 k.not_lf, ne_eqb x 13 k.not_cr) refl)) (escaped_content xs)))
    (λ k. rw k.is (
    let piece : IsPiece Quotes (92 ∷ k.letter ∷ []) (x ∷ []) = subst (IsPiece Quotes (92 ∷ k.letter ∷ [])) (encode_ascii x k.low) (letter k.letter x (meant x k)) in
    more (92 ∷ k.letter ∷ []) (x ∷ []) (escaped xs) xs piece (escaped_content xs)))
    (kind x)

of_other_type : (text datatype : List ℕ) → not (bytes_eq datatype xsd_string) ≡ true → literal_of_type text datatype ≡ Typed text datatype
of_other_type text datatype h = rw (not-true (bytes_eq datatype xsd_string) h) refl

-- the canonical text of a fit term writes the term
pub fit_written : (term : Term) → is_fit term ≡ true → IsWritten (term_text term) term
fit_written (Iri text) h = iri text text (iri_content text h)
fit_written (Blank label) h = blank label h
fit_written (Plain text) h = plain (escaped text) text (escaped_content text)
fit_written (Lang text tag) h = lang (escaped text) text tag (escaped_content text) h
fit_written (Typed text datatype) h =
    let parts = and_parts (is_iri datatype) (not (bytes_eq datatype xsd_string)) h in
    subst (IsWritten (term_text (Typed text datatype))) (of_other_type text datatype parts.1) (typed (escaped text) text datatype datatype (escaped_content text) (iri_content datatype parts.0))

-- ---- what is read is fit

is_iri-high : (bs : List ℕ) → Each (λ b. 128 ≤ b) bs → is_iri bs ≡ true
is_iri-high [] h = refl
is_iri-high (b ∷ bs) h = and_from (is_iri_char b) (is_iri bs) (is_iri_char-high b h.0) (is_iri-high bs h.1)

is_iri-encode : (c : ℕ) → is_iri_char c ≡ true → is_iri (encode c) ≡ true
is_iri-encode c h = ⊎_elim
    (λ low. rw (encode_ascii c low, h) refl)
    (λ high. is_iri-high (encode c) (encode_high c high))
    (cases_lt c 128)

is_iri-escaped : (n c : ℕ) → escaped_char Brackets n ≡ Some c → is_iri (encode c) ≡ true
is_iri-escaped n c h = ⊎_elim
    (λ (t : (scalar n && is_iri_char n) ≡ true).
    let at : Some n ≡ Some c = rw t at h in
    let same : n ≡ c = cc in
    subst (λ k. is_iri (encode k) ≡ true) same (is_iri-encode n (and_parts (scalar n) (is_iri_char n) t).1))
    (λ (f : (scalar n && is_iri_char n) ≡ false). let none = rw f at h in cc)
    (cases_Bool (scalar n && is_iri_char n))

is_iri-piece : (piece meaning : List ℕ) → IsPiece Brackets piece meaning → is_iri meaning ≡ true
is_iri-piece _ _ (itself b h) = and_from (is_iri_char b) true h refl
is_iri-piece _ _ (letter l c h) = cc
is_iri-piece _ _ (short digits c h) = is_iri-escaped (hex_value digits) c h.number
is_iri-piece _ _ (long digits c h) = is_iri-escaped (hex_value digits) c h.number

is_iri-content : (pieces text : List ℕ) → IsEscapedText Brackets pieces text → is_iri text ≡ true
is_iri-content _ _ nothing = refl
is_iri-content _ _ (more piece meaning pieces text p h) = is_iri-append meaning text (is_iri-piece piece meaning p) (is_iri-content pieces text h)

is_fit-literal_of_type : (text datatype : List ℕ) → is_iri datatype ≡ true → is_fit (literal_of_type text datatype) ≡ true
is_fit-literal_of_type text datatype h = ⊎_elim
    (λ (t : bytes_eq datatype xsd_string ≡ true). rw t refl)
    (λ (f : bytes_eq datatype xsd_string ≡ false). rw f (rw (h, f) refl))
    (cases_Bool (bytes_eq datatype xsd_string))

-- a text writes fit terms alone
pub written_fit : (text : List ℕ) (term : Term) → IsWritten text term → is_fit term ≡ true
written_fit _ _ (iri pieces text h) = is_iri-content pieces text h
written_fit _ _ (blank label h) = h
written_fit _ _ (plain pieces text h) = refl
written_fit _ _ (lang pieces text tag h t) = t
written_fit _ _ (typed pieces text others datatype h k) = is_fit-literal_of_type text datatype (is_iri-content others datatype k)

-- ---- the same of what a call answers

pub fit_ok : (text : List ℕ) (r : Result (Option Term) OutOfMemory) → IfOk r (λ found. found ≡ read text) → IfOk r (λ found. IfSome found (λ term. is_fit term ≡ true))
fit_ok text (Ok None) h = tt
fit_ok text (Ok (Some term)) h = written_fit text term ((reads text term).0 (sym h))
fit_ok text (Err fault) h = tt

pub back_ok : (text : List ℕ) (r : Result (Option Term) OutOfMemory) → IfOk r (λ found. found ≡ read text) → IfOk r (λ found. (term : Term) → is_fit term ≡ true → text ≡ term_text term → found ≡ Some term)
back_ok text (Ok found) h = λ term fit is. h ∙ (reads text term).1 (subst (λ l. IsWritten l term) (sym is) (fit_written term fit))
back_ok text (Err fault) h = tt

-- reading the canonical text of a fit term gives the term
pub reads_back : (term : Term) → is_fit term ≡ true → read (term_text term) ≡ Some term
reads_back term fit = (reads (term_text term) term).1 (fit_written term fit)
