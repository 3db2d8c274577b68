-- The terms and triples of a small value are fit and short.
use Rattle.std.proofs.Common.{◌≡◌, ℕ, ◌+◌, ◌*◌, ◌≤◌, inl, inr, Bool, true, false, ◌&&◌, ◌||◌, cond, nat_le, List, [], ◌∷◌, ◌++◌, length, Some, refl, ap, ◌∙◌, arith}
use Rattle.std.proofs.lemmas.Bool.Decides.{nat_tests}
use Rattle.std.proofs.lemmas.Bool.{agree_below, agree_below_at, cases_lt}
use Rattle.std.proofs.lemmas.List.{length-append}
use Rattle.std.proofs.lemmas.List.Concat.{flat_map-append}
use Rattle.std.specs.Prelude.{codes, IfSome, ◌==◌}
use Rattle.std.specs.Char.{is_ascii_alphanumeric}
use Rattle.std.specs.List.{list_all}
use Rattle.std.specs.Str.{bytes_eq}
use Rattle.rdf_term.specs.Fit.{IsFitAndShort}
use Rattle.rdf_term.specs.Grammar.{is_iri, is_iri_char, iri_of, percent_encoded, percent_encoded_byte}
use Rattle.rdf_term.specs.Text.{escaped, escaped_byte}
use Rattle.rdf_term.proofs.FitTerms.{iri_of_fit}
use Rattle.rdf_term.proofs.IriChars.{is_iri_char-high}
use Rattle.entity_model.specs.declared.value.Value.{Value}
use Rattle.entity_model.specs.declared.value.Value.TheVariants.{Entity, Str, Time, Quantity, Globe, Mono, Other}
use Rattle.entity_model.specs.declared.value.TimeParts.{TimeParts}
use Rattle.entity_model.specs.declared.value.GlobeParts.{GlobeParts}
use Rattle.entity_model.specs.Value.{IsSmallValue}
use Rattle.rdf_vocabulary.specs.declared.datatype.Datatype.{Datatype}
use Rattle.rdf_vocabulary.specs.declared.datatype.Datatype.TheVariants.{DateTime as XsdDateTime, Decimal, WktLiteral}
use Rattle.rdf_vocabulary.specs.declared.prefix.Prefix.TheVariants.{Wd, FilePath}
use Rattle.rdf_vocabulary.specs.Datatype.{typed}
use Rattle.rdf_vocabulary.specs.Unreserved.{escaped_name}
use Rattle.rdf_vocabulary.proofs.Fit.{escaped_short, plain_fit, prefixed_fit, tagged_fit, typed_fit}
use Rattle.rdf_vocabulary.proofs.NamesFit.{escaped_name_iri, escaped_name_short}
use Rattle.rdf_vocabulary.proofs.Shared.{both, chosen}
use Rattle.wb_values.specs.declared.literal.TimeText.{TimeText}
use Rattle.wb_values.specs.declared.literal.TimeText.TheVariants.{DateTime, Plain as PlainTime}
use Rattle.wb_values.specs.Decimal.{is_decimal}
use Rattle.wb_values.specs.Literal.{time_literal}
use Rattle.wb_values.proofs.Lengths.{literal_text, time_literal_short}
use Rattle.wb_values.specs.Point.{earth, globe_text, point_text}
use Rattle.value_nodes.specs.Terms.{url, commons_media, julian_calendar, text_term, amount_term, time_text_term, time_term, globe_term, simple_term}

-- typed texts
pub literal_fit : (text : List ℕ) (datatype : Datatype) → length text ≤ 16777000 → IsFitAndShort (typed text datatype)
literal_fit text datatype h = typed_fit text datatype (omega (arith, escaped_short text))

percent_encoded_byte_short : (b : ℕ) → length (percent_encoded_byte b) ≤ 3
percent_encoded_byte_short b = grind (arith, nat_tests)

percent_encoded_short : (text : List ℕ) → length (percent_encoded text) ≤ 3 * length text
percent_encoded_short [] = omega arith
percent_encoded_short (b ∷ text) =
    omega (arith, percent_encoded_byte_short b, percent_encoded_short text, length-append (percent_encoded_byte b) (percent_encoded text))

-- IRIs of texts
pub iri_fit : (text : List ℕ) → length text ≤ 8388608 → IsFitAndShort (iri_of text)
iri_fit text h = record {
  fit = iri_of_fit text;
  short = omega (arith, percent_encoded_short text, length-append (percent_encoded text) (62 ∷ []));
}

pub text_term_fit : (datatype text : List ℕ) → length text ≤ 8388608 → IsFitAndShort (text_term datatype text)
text_term_fit datatype text h =
    chosen IsFitAndShort (bytes_eq datatype url) _ _ (iri_fit text h)
    (chosen IsFitAndShort (bytes_eq datatype commons_media) _ _
    (prefixed_fit FilePath (escaped_name text) (escaped_name_iri text) (omega (arith, escaped_name_short text)))
    (plain_fit text (omega arith)))

pub amount_term_fit : (text : List ℕ) → length text ≤ 8388608 → IsFitAndShort (amount_term text)
amount_term_fit text h =
    chosen IsFitAndShort (is_decimal text) _ _ (literal_fit text Decimal (omega arith)) (plain_fit text (omega arith))

by_time : (literal : TimeText) → length (literal_text literal) ≤ 16777000 → IsFitAndShort (time_text_term literal)
by_time (DateTime text) h = literal_fit text XsdDateTime h
by_time (PlainTime text) h = plain_fit text h

pub time_term_fit : (time : TimeParts) → length time.time ≤ 8388608 → IsFitAndShort (time_term time)
time_term_fit time h =
    let julian = bytes_eq time.calendar julian_calendar in
    by_time (time_literal time.time time.precision julian) (omega (arith, time_literal_short time.time time.precision julian))

pieces : (xs ys : List ℕ) → length (escaped (xs ++ ys)) ≡ length (escaped xs) + length (escaped ys)
pieces xs ys = ap length (flat_map-append escaped_byte xs ys) ∙ length-append (escaped xs) (escaped ys)

entity_char : (c : ℕ) → (is_ascii_alphanumeric c || (c == 45)) ≡ true → is_iri_char c ≡ true
entity_char c h = grind (arith, nat_tests)

-- what is percent-encoded needs no escapes in a literal
low_bytes : agree_below (λ b. nat_le (length (escaped (percent_encoded_byte b))) 3) (λ b. true) 128 ≡ true
low_bytes = refl

encoded_byte_short : (b : ℕ) → length (escaped (percent_encoded_byte b)) ≤ 3
encoded_byte_short b = elim (cases_lt b 128) [
  | inl lt ↦ let low = agree_below_at (λ c. nat_le (length (escaped (percent_encoded_byte c))) 3) (λ c. true) 128 b low_bytes lt in grind (arith, nat_tests, low)
  | inr ge ↦ rw (is_iri_char-high b ge) (omega (arith, escaped_short (b ∷ [])))
]

encoded_short : (text : List ℕ) → length (escaped (percent_encoded text)) ≤ 3 * length text
encoded_short [] = omega arith
encoded_short (b ∷ text) =
    omega (arith, encoded_byte_short b, encoded_short text, ap length (flat_map-append escaped_byte (percent_encoded_byte b) (percent_encoded text)), length-append (escaped (percent_encoded_byte b)) (escaped (percent_encoded text)))

globe_text_short : (b : Bool) (globe : List ℕ) → length (escaped (cond b [] (codes "<" ++ percent_encoded globe ++ codes "> "))) ≤ 3 * length globe + 6
globe_text_short true globe = omega arith
globe_text_short false globe =
    let front = codes "<" ++ percent_encoded globe in
    omega (arith, encoded_short globe, ap length (flat_map-append escaped_byte front (codes "> ")), length-append (escaped front) (escaped (codes "> ")))

pub globe_term_fit : (globe : GlobeParts) → length globe.latitude + length globe.longitude + length globe.globe ≤ 8388608 → IsFitAndShort (globe_term globe)
globe_term_fit globe h =
    let a = globe_text globe.globe in
    let b = codes "Point(" in
    let c = codes " " in
    let d = codes ")" in
    typed_fit (point_text globe.latitude globe.longitude globe.globe) WktLiteral
    (omega (
      arith,
      globe_text_short (bytes_eq globe.globe earth) globe.globe,
      escaped_short b,
      escaped_short c,
      escaped_short d,
      escaped_short globe.latitude,
      escaped_short globe.longitude,
      pieces a b,
      pieces (a ++ b) globe.longitude,
      pieces (a ++ b ++ globe.longitude) c,
      pieces (a ++ b ++ globe.longitude ++ c) globe.latitude,
      pieces (a ++ b ++ globe.longitude ++ c ++ globe.latitude) d,
    ))

entity_iri : (id : List ℕ) → list_all (λ c. is_ascii_alphanumeric c || (c == 45)) id ≡ true → is_iri id ≡ true
entity_iri [] h = refl
entity_iri (c ∷ id) h =
    let n = both (is_ascii_alphanumeric c || (c == 45)) (list_all (λ d. is_ascii_alphanumeric d || (d == 45)) id) h in
    let kept : is_iri_char c ≡ true = entity_char c n.0 in
    rw kept (entity_iri id n.1)

-- the simple term of a small value is fit and short
pub simple_term_fit : (datatype : List ℕ) (value : Value) → IsSmallValue value → IfSome (simple_term datatype value) IsFitAndShort
simple_term_fit datatype (Entity id) s =
    let n = both (nat_le 1 (length id) && nat_le (length id) 64) (list_all (λ c. is_ascii_alphanumeric c || (c == 45)) id) s.id in
    prefixed_fit Wd id (entity_iri id n.1) (omega (arith, s.texts))
simple_term_fit datatype (Str text) s = text_term_fit datatype text s.texts
simple_term_fit datatype (Time time) s = time_term_fit time (omega (arith, s.texts))
simple_term_fit datatype (Quantity quantity) s = amount_term_fit quantity.amount (omega (arith, s.texts))
simple_term_fit datatype (Globe globe) s = globe_term_fit globe (omega (arith, s.texts))
simple_term_fit datatype (Mono tagged) s = tagged_fit tagged.text tagged.language (omega (arith, s.texts)) (omega (arith, s.texts))
simple_term_fit datatype Other s = tt
