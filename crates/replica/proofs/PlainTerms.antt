-- Terms whose canonical texts have no escape.
use Rattle.std.proofs.Common.{◌≡◌, ℕ, suc, ◌+◌, ◌<◌, ◌≤◌, Bool, true, false, not, cond, ◌==◌, nat_lt, List, [], ◌∷◌, ◌++◌, length, take, Option, Some, None, IfSome, refl, sym, ap, ◌∙◌, subst, arith}
use Rattle.std.specs.List.{list_any, position, prefix_len}
use Rattle.std.specs.Str.{IsUtf8, bytes_eq}
use Rattle.std.proofs.lemmas.Bool.{and_from, or_parts}
use Rattle.std.proofs.lemmas.List.Sums.{prefix_len-le-length}
use Rattle.rdf_term.specs.declared.term.Term.TheVariants.{Iri, Plain, Lang, Typed}
use Rattle.rdf_term.specs.{Fit.xsd_string, Grammar.is_iri, Grammar.is_tag, Text.in_brackets, Text.is_escaped}
use Rattle.rdf_term.proofs.Unescaped.{escaped_same}
use Rattle.rdf_term.proofs.Utf8Texts.{iri_utf8, lang_utf8, plain_utf8, typed_utf8}
use Rattle.sorted_sets.specs.Rising.{Each}
use Rattle.triple_sink.specs.{TermRef.meant, declared.term_ref.TermRef.TermRef}
use Rattle.replica.specs.declared.term_end.TermState.TheVariants.{Outside}
use Rattle.replica.specs.{PlainTerm.IsFitText, TermEnd.is_edge, TermEnd.split_term, TripleLine.IsTermText}
use Rattle.replica.proofs.TermEnds.{IsInner, split_inner}

-- ---- the place of the first byte that passes a test

one_more : (n : ℕ) → 1 + n ≡ suc n
one_more n = omega arith

module _ (test : ℕ → Bool) where
  abbrev before_first : List ℕ → ℕ
  before_first bytes = prefix_len (λ b. not (test b)) bytes

  none_case : (x : ℕ) (xs : List ℕ) (n : ℕ) (b : Bool) → test x ≡ b → list_any test (take n xs) ≡ false → list_any test (take (cond (not b) (1 + n) 0) (x ∷ xs)) ≡ false
  none_case x xs n true is h = refl
  none_case x xs n false is h = rw (one_more n) (rw is h)

  none_before : (bytes : List ℕ) → list_any test (take (before_first bytes) bytes) ≡ false
  none_before [] = refl
  none_before (x ∷ xs) = none_case x xs (before_first xs) (test x) refl (none_before xs)

  place_of : (bytes : List ℕ) (b : Bool) → IfSome (cond b (Some (before_first bytes)) None) (λ end. (end ≤ length bytes) × (list_any test (take end bytes) ≡ false))
  place_of bytes true = (prefix_len-le-length _ bytes, none_before bytes)
  place_of bytes false = tt

  pub first_place : (bytes : List ℕ) → IfSome (position test bytes) (λ end. (end ≤ length bytes) × (list_any test (take end bytes) ≡ false))
  first_place bytes = place_of bytes (nat_lt (before_first bytes) (length bytes))

-- ---- terms by their parts

pub iri_fits : (rest iri : List ℕ) → rest ≡ iri ++ 62 ∷ [] → is_iri iri ≡ true → IsUtf8 iri → IsFitText (60 ∷ rest) (Iri iri)
iri_fits rest iri is fit utf8 = record { text = ap (λ l. 60 ∷ l) is; fit = fit; utf8 = iri_utf8 iri utf8 }

pub plain_fits : (rest content suffix : List ℕ) → rest ≡ content ++ 34 ∷ suffix → length suffix < 1 → list_any is_escaped content ≡ false → IsUtf8 content → IsFitText (34 ∷ rest) (Plain content)
plain_fits rest content [] is nothing none utf8 = record { text = ap (λ l. 34 ∷ l) is ∙ ap (λ l. 34 ∷ (l ++ 34 ∷ [])) (sym (escaped_same content none)); fit = refl; utf8 = plain_utf8 content utf8 }
plain_fits rest content (x ∷ suffix) is nothing none utf8 = absurd (omega arith)

pub lang_fits : (content bytes tag : List ℕ) → bytes ≡ tag → is_tag tag ≡ true → list_any is_escaped content ≡ false → IsUtf8 content → IsUtf8 tag → IsFitText (34 ∷ (content ++ 34 ∷ 64 ∷ bytes)) (Lang content tag)
lang_fits content bytes tag is fit none text_utf8 tag_utf8 = record {
  text = ap (λ l. 34 ∷ (content ++ 34 ∷ 64 ∷ l)) is ∙ ap (λ l. 34 ∷ (l ++ 34 ∷ 64 ∷ tag)) (sym (escaped_same content none));
  fit = fit;
  utf8 = lang_utf8 content tag text_utf8 tag_utf8;
}

pub typed_fits : (content rest datatype : List ℕ) → rest ≡ datatype ++ 62 ∷ [] → is_iri datatype ≡ true → bytes_eq datatype xsd_string ≡ false → list_any is_escaped content ≡ false → IsUtf8 content → IsUtf8 datatype →
    IsFitText (34 ∷ (content ++ 34 ∷ 94 ∷ 94 ∷ 60 ∷ rest)) (Typed content datatype)
typed_fits content rest datatype is iri other none text_utf8 datatype_utf8 = record {
  text = ap (λ l. 34 ∷ (content ++ 34 ∷ 94 ∷ 94 ∷ 60 ∷ l)) is ∙ ap (λ l. 34 ∷ (l ++ 34 ∷ 94 ∷ 94 ∷ in_brackets datatype)) (sym (escaped_same content none));
  fit = and_from (is_iri datatype) (not (bytes_eq datatype xsd_string)) iri (ap not other);
  utf8 = typed_utf8 content datatype text_utf8 datatype_utf8;
}

-- a fit term whose text isn't too long
pub short_fits : (bytes : List ℕ) (found : Option TermRef) → length bytes ≤ 33554432 → IfSome found (λ term. IsFitText bytes (meant term)) → IfSome found (λ term. IsTermText bytes (meant term))
short_fits bytes None short fits = tt
short_fits bytes (Some term) short fits =
    record { text = fits.text; readable = record { canonical = record { fit = fits.fit; short = subst (λ l. length l ≤ 33554432) fits.text short }; utf8 = fits.utf8 } }

-- ---- where a term without quotes ends

inner : (bytes : List ℕ) → list_any is_edge bytes ≡ false → Each IsInner bytes
inner [] none = tt
inner (x ∷ bytes) none =
    let parts = or_parts (is_edge x) (list_any is_edge bytes) none in
    let edges = or_parts (x == 32) (x == 34) parts.0 in
    (record { no_space = edges.0; no_quote = edges.1 }, inner bytes parts.1)

pub ends_unquoted : (bytes front rest : List ℕ) → bytes ≡ front ++ 32 ∷ rest → list_any is_edge front ≡ false → Some (front, rest) ≡ split_term Outside bytes
ends_unquoted bytes front rest whole none = sym (ap (split_term Outside) whole ∙ split_inner front rest (inner front none))
