-- The terms of the vocabulary are UTF-8, and so are those made of texts that are.
use Rattle.std.proofs.Common.{◌≡◌, ℕ, ◌/◌, ◌%◌, ◌<◌, Bool, true, false, cond, List, [], ◌∷◌, ◌++◌, decimal, refl, arith}
use Rattle.std.proofs.lemmas.Bool.{agree_below, agree_below_at}
use Rattle.std.proofs.lemmas.Bool.Decides.{nat_tests}
use Rattle.std.proofs.lemmas.Str.{IsUtf8-append, IsUtf8-nil}
use Rattle.std.specs.Char.{is_ascii_alphanumeric}
use Rattle.std.specs.Fmt.{digit_glyph}
use Rattle.std.specs.List.{AllByRecursion, list_all}
use Rattle.std.specs.Str.{IsUtf8}
use Rattle.percent_encoding.specs.Percent.{percent_encode_byte}
use Rattle.rdf_term.specs.declared.term.Term.{Term}
use Rattle.rdf_term.specs.declared.term.Term.TheVariants.{Plain, Lang}
use Rattle.rdf_term.specs.declared.triple.Triple.{Triple}
use Rattle.rdf_term.specs.Grammar.{iri_of, is_tag, percent_encoded, percent_encoded_byte, tagged_of}
use Rattle.rdf_term.proofs.IriChars.{is_iri_char-high}
use Rattle.rdf_term.proofs.Utf8Texts.{iri_utf8, lang_utf8, plain_utf8, typed_utf8}
use Rattle.entity_model.specs.declared.id.EntityId.{EntityId}
use Rattle.entity_model.specs.declared.id.IdKind.{IdKind}
use Rattle.entity_model.specs.declared.id.IdKind.TheVariants as Kinds
use Rattle.entity_model.specs.EntityId.{id_text}
use Rattle.entity_model.specs.IdKind.{letter_of}
use Rattle.rdf_vocabulary.specs.declared.datatype.Datatype.{Datatype}
use Rattle.rdf_vocabulary.specs.declared.datatype.Datatype.TheVariants as Datatypes
use Rattle.rdf_vocabulary.specs.declared.predicate.Predicate.{Predicate}
use Rattle.rdf_vocabulary.specs.declared.predicate.Predicate.TheVariants as Predicates
use Rattle.rdf_vocabulary.specs.declared.prefix.Prefix.{Prefix}
use Rattle.rdf_vocabulary.specs.declared.prefix.Prefix.TheVariants as Prefixes
use Rattle.rdf_vocabulary.specs.declared.resource.Resource.{Resource}
use Rattle.rdf_vocabulary.specs.declared.resource.Resource.TheVariants as Resources
use Rattle.rdf_vocabulary.specs.Datatype.{datatype_text, typed}
use Rattle.rdf_vocabulary.specs.Fields.{hashed_name}
use Rattle.rdf_vocabulary.specs.Predicate.{about, predicate_text, predicate_term}
use Rattle.rdf_vocabulary.specs.Prefix.{id_term, prefix_text, prefixed}
use Rattle.rdf_vocabulary.specs.Resource.{class_triple, resource_text, resource_term}
use Rattle.rdf_vocabulary.specs.Unreserved.{escaped_name, escaped_name_byte, is_unreserved}
use Rattle.rdf_vocabulary.proofs.NamesFit.{hashed_name_letters}
use Rattle.rdf_vocabulary.proofs.Shared.{append_each, chosen}
use Rattle.rdf_term.specs.Triple.{triple}
use Rattle.meaning_texts.specs.Terms.{HasUtf8Terms, IsUtf8Term}
use Rattle.meaning_texts.proofs.Ascii.{ascii_utf8, decimal_utf8, each_utf8, is_low, kept_utf8, low_is, low_utf8, passing_utf8}

-- ---- words

prefix_low : (word : Prefix) → list_all is_low (prefix_text word) ≡ true
unfolding prefix_text
prefix_low word = elim word as (λ w. list_all is_low (prefix_text w) ≡ true) [ Prefixes.Wd ↦ refl | _ ↦ refl ]

predicate_low : (word : Predicate) → list_all is_low (predicate_text word) ≡ true
unfolding predicate_text
predicate_low word = elim word as (λ w. list_all is_low (predicate_text w) ≡ true) [ Predicates.RdfType ↦ refl | _ ↦ refl ]

resource_low : (word : Resource) → list_all is_low (resource_text word) ≡ true
unfolding resource_text
resource_low word = elim word as (λ w. list_all is_low (resource_text w) ≡ true) [ Resources.Item ↦ refl | _ ↦ refl ]

datatype_low : (word : Datatype) → list_all is_low (datatype_text word) ≡ true
unfolding datatype_text
datatype_low word = elim word as (λ w. list_all is_low (datatype_text w) ≡ true) [ Datatypes.Integer ↦ refl | _ ↦ refl ]

pub predicate_utf8 : (word : Predicate) → IsUtf8Term (predicate_term word)
predicate_utf8 word = iri_utf8 (predicate_text word) (ascii_utf8 (predicate_text word) (predicate_low word))

pub resource_utf8 : (word : Resource) → IsUtf8Term (resource_term word)
resource_utf8 word = iri_utf8 (resource_text word) (ascii_utf8 (resource_text word) (resource_low word))

-- ---- names

pub prefixed_utf8 : (prefix : Prefix) (name : List ℕ) → IsUtf8 name → IsUtf8Term (prefixed prefix name)
prefixed_utf8 prefix name is =
    iri_utf8 (prefix_text prefix ++ name) (IsUtf8-append (prefix_text prefix) name (ascii_utf8 (prefix_text prefix) (prefix_low prefix)) is)

letter_low : (kind : IdKind) → letter_of kind < 128
letter_low Kinds.P = omega arith
letter_low Kinds.Q = omega arith
letter_low Kinds.L = omega arith

pub id_utf8 : (prefix : Prefix) (id : EntityId) → IsUtf8Term (id_term prefix id)
id_utf8 prefix id = prefixed_utf8 prefix (id_text id) (low_utf8 (letter_of id.kind) (decimal id.number) (letter_low id.kind) (decimal_utf8 id.number))

alphanumeric_low : (c : ℕ) → is_ascii_alphanumeric c ≡ true → c < 128
alphanumeric_low c is = grind (arith, nat_tests)

pub hashed_utf8 : (fields : List ℕ) → IsUtf8 (hashed_name fields)
hashed_utf8 fields = passing_utf8 is_ascii_alphanumeric alphanumeric_low (hashed_name fields) (hashed_name_letters fields)

glyphs : agree_below (λ n. is_low (digit_glyph true n)) (λ n. true) 16 ≡ true
glyphs = refl

glyph_low : (n : ℕ) → digit_glyph true (n % 16) < 128
glyph_low n = low_is _ (agree_below_at (λ m. is_low (digit_glyph true m)) (λ m. true) 16 (n % 16) glyphs (omega arith))

unreserved_low : (b : ℕ) → is_unreserved b ≡ true → b < 128
unreserved_low b is = grind (arith, nat_tests)

escaped_byte_utf8 : (b : ℕ) → IsUtf8 (escaped_name_byte b)
unfolding percent_encode_byte
escaped_byte_utf8 b = by (is_unreserved b) refl
  where
    by : (t : Bool) → is_unreserved b ≡ t → IsUtf8 (cond t (b ∷ []) (percent_encode_byte b))
    by true is = low_utf8 b [] (unreserved_low b is) IsUtf8-nil
    by false is = low_utf8 37 _ (omega arith) (low_utf8 _ _ (glyph_low (b / 16)) (low_utf8 _ [] (glyph_low b) IsUtf8-nil))

pub escaped_utf8 : (name : List ℕ) → IsUtf8 (escaped_name name)
escaped_utf8 name = each_utf8 escaped_name_byte escaped_byte_utf8 name

-- ---- IRIs of texts

encoded_bytes : agree_below (λ b. list_all is_low (percent_encoded_byte b)) (λ b. true) 128 ≡ true
encoded_bytes = refl

pub encoded_utf8 : (text : List ℕ) → IsUtf8 text → IsUtf8 (percent_encoded text)
encoded_utf8 text is = kept_utf8 percent_encoded_byte (λ b high. rw (is_iri_char-high b high) refl)
    (λ b low. ascii_utf8 (percent_encoded_byte b) (agree_below_at (λ c. list_all is_low (percent_encoded_byte c)) (λ c. true) 128 b encoded_bytes low)) text is

pub iri_of_utf8 : (text : List ℕ) → IsUtf8 text → IsUtf8Term (iri_of text)
iri_of_utf8 text is = iri_utf8 (percent_encoded text) (encoded_utf8 text is)

-- ---- literals

pub literal_utf8 : (text : List ℕ) (datatype : Datatype) → IsUtf8 text → IsUtf8Term (typed text datatype)
literal_utf8 text datatype is = typed_utf8 text (datatype_text datatype) is (ascii_utf8 (datatype_text datatype) (datatype_low datatype))

pub tagged_utf8 : (text tag : List ℕ) → IsUtf8 text → IsUtf8 tag → IsUtf8Term (tagged_of text tag)
tagged_utf8 text tag is of_tag = chosen IsUtf8Term (is_tag tag) (Lang text tag) (Plain text) (lang_utf8 text tag is of_tag) (plain_utf8 text is)

-- ---- triples

pub triple_utf8 : (subject predicate object : Term) → IsUtf8Term subject → IsUtf8Term predicate → IsUtf8Term object → HasUtf8Terms (triple subject predicate object)
triple_utf8 subject predicate object s p o = record { subject = s; predicate = p; object = o }

pub about_utf8 : (subject : Term) (predicate : Predicate) (object : Term) → IsUtf8Term subject → IsUtf8Term object → HasUtf8Terms (about subject predicate object)
about_utf8 subject predicate object s o = record { subject = s; predicate = predicate_utf8 predicate; object = o }

pub class_utf8 : (node : Term) (class : Resource) → IsUtf8Term node → HasUtf8Terms (class_triple node class)
class_utf8 node class n = about_utf8 node Predicates.RdfType (resource_term class) n (resource_utf8 class)

abbrev pub AreUtf8 : List Triple → Type 0
AreUtf8 triples = AllByRecursion HasUtf8Terms triples

pub join : (xs ys : List Triple) → AreUtf8 xs → AreUtf8 ys → AreUtf8 (xs ++ ys)
join xs ys p q = append_each HasUtf8Terms xs ys p q
