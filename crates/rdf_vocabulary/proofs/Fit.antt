-- The terms of the vocabulary are fit and short, and so are triples of such terms.
use Rattle.std.proofs.Common.{◌≡◌, ℕ, ◌+◌, ◌*◌, ◌≤◌, Bool, true, false, cond, List, [], ◌∷◌, ◌++◌, length, refl, arith, lit≤}
use Rattle.std.proofs.lemmas.Bool.Decides.{nat_tests}
use Rattle.std.proofs.lemmas.List.{length-append}
use Rattle.std.proofs.lemmas.List.Folds.{list_all-append}
use Rattle.std.specs.List.{AllByRecursion, flat_map}
use Rattle.std.specs.Str.{bytes_eq}
use Rattle.rdf_term.specs.declared.term.Term.{Term}
use Rattle.rdf_term.specs.declared.term.Term.TheVariants.{Plain, Lang}
use Rattle.rdf_term.specs.declared.triple.Triple.{Triple}
use Rattle.rdf_term.specs.Fit.{xsd_string, IsFitAndShort, HasFitAndShortTerms}
use Rattle.rdf_term.specs.Grammar.{is_iri, is_iri_char, is_tag, tagged_of}
use Rattle.rdf_term.specs.Text.{escaped, escaped_byte}
use Rattle.rdf_vocabulary.specs.declared.prefix.Prefix.{Prefix}
use Rattle.rdf_vocabulary.specs.declared.prefix.Prefix.TheVariants as Prefixs
use Rattle.rdf_vocabulary.specs.declared.predicate.Predicate.{Predicate}
use Rattle.rdf_vocabulary.specs.declared.predicate.Predicate.TheVariants as Predicates
use Rattle.rdf_vocabulary.specs.declared.resource.Resource.{Resource}
use Rattle.rdf_vocabulary.specs.declared.resource.Resource.TheVariants as Resources
use Rattle.rdf_vocabulary.specs.declared.datatype.Datatype.{Datatype}
use Rattle.rdf_vocabulary.specs.declared.datatype.Datatype.TheVariants as Datatypes
use Rattle.rdf_vocabulary.specs.Datatype.{datatype_text, typed}
use Rattle.rdf_vocabulary.specs.Predicate.{about, predicate_text, predicate_term}
use Rattle.rdf_vocabulary.specs.Prefix.{prefix_text, prefixed}
use Rattle.rdf_vocabulary.specs.Resource.{class_triple, resource_text, resource_term}
use Rattle.rdf_vocabulary.proofs.Shared.{append_each, flat_map_each}

prefix_text_is : (word : Prefix) → (is_iri (prefix_text word) ≡ true) × (length (prefix_text word) ≤ 100)
unfolding prefix_text
prefix_text_is Prefixs.Wd = (refl, lit≤ tt)
prefix_text_is Prefixs.Wds = (refl, lit≤ tt)
prefix_text_is Prefixs.Wdv = (refl, lit≤ tt)
prefix_text_is Prefixs.Wdref = (refl, lit≤ tt)
prefix_text_is Prefixs.Wdt = (refl, lit≤ tt)
prefix_text_is Prefixs.P = (refl, lit≤ tt)
prefix_text_is Prefixs.Ps = (refl, lit≤ tt)
prefix_text_is Prefixs.Psv = (refl, lit≤ tt)
prefix_text_is Prefixs.Pq = (refl, lit≤ tt)
prefix_text_is Prefixs.Pqv = (refl, lit≤ tt)
prefix_text_is Prefixs.Pr = (refl, lit≤ tt)
prefix_text_is Prefixs.Prv = (refl, lit≤ tt)
prefix_text_is Prefixs.Wdno = (refl, lit≤ tt)
prefix_text_is Prefixs.Data = (refl, lit≤ tt)
prefix_text_is Prefixs.Genid = (refl, lit≤ tt)
prefix_text_is Prefixs.Wikibase = (refl, lit≤ tt)
prefix_text_is Prefixs.FilePath = (refl, lit≤ tt)

predicate_text_is : (word : Predicate) → (is_iri (predicate_text word) ≡ true) × (length (predicate_text word) ≤ 100)
unfolding predicate_text
predicate_text_is Predicates.RdfType = (refl, lit≤ tt)
predicate_text_is Predicates.Label = (refl, lit≤ tt)
predicate_text_is Predicates.PrefLabel = (refl, lit≤ tt)
predicate_text_is Predicates.AltLabel = (refl, lit≤ tt)
predicate_text_is Predicates.Name = (refl, lit≤ tt)
predicate_text_is Predicates.Description = (refl, lit≤ tt)
predicate_text_is Predicates.About = (refl, lit≤ tt)
predicate_text_is Predicates.SoftwareVersion = (refl, lit≤ tt)
predicate_text_is Predicates.Version = (refl, lit≤ tt)
predicate_text_is Predicates.DateModified = (refl, lit≤ tt)
predicate_text_is Predicates.InLanguage = (refl, lit≤ tt)
predicate_text_is Predicates.IsPartOf = (refl, lit≤ tt)
predicate_text_is Predicates.License = (refl, lit≤ tt)
predicate_text_is Predicates.SameAs = (refl, lit≤ tt)
predicate_text_is Predicates.WasDerivedFrom = (refl, lit≤ tt)
predicate_text_is Predicates.Rank = (refl, lit≤ tt)
predicate_text_is Predicates.Statements = (refl, lit≤ tt)
predicate_text_is Predicates.Identifiers = (refl, lit≤ tt)
predicate_text_is Predicates.Sitelinks = (refl, lit≤ tt)
predicate_text_is Predicates.Badge = (refl, lit≤ tt)
predicate_text_is Predicates.WikiGroup = (refl, lit≤ tt)
predicate_text_is Predicates.PropertyType = (refl, lit≤ tt)
predicate_text_is Predicates.DirectClaim = (refl, lit≤ tt)
predicate_text_is Predicates.Claim = (refl, lit≤ tt)
predicate_text_is Predicates.StatementProperty = (refl, lit≤ tt)
predicate_text_is Predicates.StatementValue = (refl, lit≤ tt)
predicate_text_is Predicates.Qualifier = (refl, lit≤ tt)
predicate_text_is Predicates.QualifierValue = (refl, lit≤ tt)
predicate_text_is Predicates.Reference = (refl, lit≤ tt)
predicate_text_is Predicates.ReferenceValue = (refl, lit≤ tt)
predicate_text_is Predicates.Novalue = (refl, lit≤ tt)
predicate_text_is Predicates.TimeValue = (refl, lit≤ tt)
predicate_text_is Predicates.TimePrecision = (refl, lit≤ tt)
predicate_text_is Predicates.TimeTimezone = (refl, lit≤ tt)
predicate_text_is Predicates.TimeCalendarModel = (refl, lit≤ tt)
predicate_text_is Predicates.QuantityAmount = (refl, lit≤ tt)
predicate_text_is Predicates.QuantityUnit = (refl, lit≤ tt)
predicate_text_is Predicates.QuantityUpperBound = (refl, lit≤ tt)
predicate_text_is Predicates.QuantityLowerBound = (refl, lit≤ tt)
predicate_text_is Predicates.GeoLatitude = (refl, lit≤ tt)
predicate_text_is Predicates.GeoLongitude = (refl, lit≤ tt)
predicate_text_is Predicates.GeoPrecision = (refl, lit≤ tt)
predicate_text_is Predicates.GeoGlobe = (refl, lit≤ tt)
predicate_text_is Predicates.Language = (refl, lit≤ tt)
predicate_text_is Predicates.LexicalCategory = (refl, lit≤ tt)
predicate_text_is Predicates.Lemma = (refl, lit≤ tt)
predicate_text_is Predicates.LexicalForm = (refl, lit≤ tt)
predicate_text_is Predicates.Representation = (refl, lit≤ tt)
predicate_text_is Predicates.GrammaticalFeature = (refl, lit≤ tt)
predicate_text_is Predicates.Sense = (refl, lit≤ tt)
predicate_text_is Predicates.Definition = (refl, lit≤ tt)

resource_text_is : (word : Resource) → (is_iri (resource_text word) ≡ true) × (length (resource_text word) ≤ 100)
unfolding resource_text
resource_text_is Resources.Item = (refl, lit≤ tt)
resource_text_is Resources.Property = (refl, lit≤ tt)
resource_text_is Resources.Statement = (refl, lit≤ tt)
resource_text_is Resources.Reference = (refl, lit≤ tt)
resource_text_is Resources.BestRank = (refl, lit≤ tt)
resource_text_is Resources.PreferredRank = (refl, lit≤ tt)
resource_text_is Resources.NormalRank = (refl, lit≤ tt)
resource_text_is Resources.DeprecatedRank = (refl, lit≤ tt)
resource_text_is Resources.TimeValue = (refl, lit≤ tt)
resource_text_is Resources.QuantityValue = (refl, lit≤ tt)
resource_text_is Resources.GlobecoordinateValue = (refl, lit≤ tt)
resource_text_is Resources.Dataset = (refl, lit≤ tt)
resource_text_is Resources.Article = (refl, lit≤ tt)
resource_text_is Resources.PublicDomain = (refl, lit≤ tt)
resource_text_is Resources.LexicalEntry = (refl, lit≤ tt)
resource_text_is Resources.Lexeme = (refl, lit≤ tt)
resource_text_is Resources.Form = (refl, lit≤ tt)
resource_text_is Resources.WikibaseForm = (refl, lit≤ tt)
resource_text_is Resources.LexicalSense = (refl, lit≤ tt)
resource_text_is Resources.WikibaseSense = (refl, lit≤ tt)

datatype_text_is : (word : Datatype) → (is_iri (datatype_text word) ≡ true) × (bytes_eq (datatype_text word) xsd_string ≡ false) × (length (datatype_text word) ≤ 100)
unfolding datatype_text xsd_string
datatype_text_is Datatypes.Integer = (refl, refl, lit≤ tt)
datatype_text_is Datatypes.Decimal = (refl, refl, lit≤ tt)
datatype_text_is Datatypes.Double = (refl, refl, lit≤ tt)
datatype_text_is Datatypes.DateTime = (refl, refl, lit≤ tt)
datatype_text_is Datatypes.WktLiteral = (refl, refl, lit≤ tt)

-- an IRI's canonical text has two bytes more
iri_short : (iri : List ℕ) (n : ℕ) → length iri ≤ n → length (60 ∷ (iri ++ (62 ∷ []))) ≤ n + 2
iri_short iri n h = omega (arith, length-append iri (62 ∷ []))

pub predicate_fit : (word : Predicate) → IsFitAndShort (predicate_term word)
predicate_fit word =
    let w = predicate_text_is word in
    record { fit = w.0; short = omega (arith, iri_short (predicate_text word) 100 w.1) }

pub resource_fit : (word : Resource) → IsFitAndShort (resource_term word)
resource_fit word =
    let w = resource_text_is word in
    record { fit = w.0; short = omega (arith, iri_short (resource_text word) 100 w.1) }

pub prefixed_fit : (prefix : Prefix) (name : List ℕ) → is_iri name ≡ true → length name ≤ 33554000 → IsFitAndShort (prefixed prefix name)
prefixed_fit prefix name h short =
    let w = prefix_text_is prefix in
    record {
      fit = rw (list_all-append is_iri_char (prefix_text prefix) name, w.0) h;
      short = omega (arith, w.1, iri_short (prefix_text prefix ++ name) 33554200 (omega (arith, w.1, length-append (prefix_text prefix) name)));
    }

-- a byte of a literal is written as one or two
escaped_byte_short : (b : ℕ) → length (escaped_byte b) ≤ 2
escaped_byte_short b = grind (arith, nat_tests)

-- a literal's text is written by at most twice its bytes
pub escaped_short : (text : List ℕ) → length (escaped text) ≤ 2 * length text
escaped_short [] = omega arith
escaped_short (b ∷ text) =
    omega (arith, escaped_byte_short b, escaped_short text, length-append (escaped_byte b) (escaped text))

pub typed_fit : (text : List ℕ) (word : Datatype) → length (escaped text) ≤ 33554000 → IsFitAndShort (typed text word)
typed_fit text word h =
    let w = datatype_text_is word in
    record {
      fit = rw (w.0, w.1);
      short = omega (arith, w.2, length-append (escaped text) (34 ∷ 94 ∷ 94 ∷ 60 ∷ (datatype_text word ++ (62 ∷ []))), length-append (datatype_text word) (62 ∷ []));
    }

-- plain texts
pub plain_fit : (text : List ℕ) → length text ≤ 16777000 → IsFitAndShort (Plain text)
plain_fit text h = record { fit = refl; short = omega (arith, escaped_short text, length-append (escaped text) (34 ∷ [])) }

-- texts with a language tag
pub tagged_fit : (text tag : List ℕ) → length text ≤ 8388608 → length tag ≤ 8388800 → IsFitAndShort (tagged_of text tag)
tagged_fit text tag h k = by_tag (is_tag tag) refl
  where
    by_tag : (b : Bool) → is_tag tag ≡ b → IsFitAndShort (cond b (Lang text tag) (Plain text))
    by_tag true e = record { fit = e; short = omega (arith, escaped_short text, length-append (escaped text) (34 ∷ 64 ∷ tag)) }
    by_tag false e = plain_fit text (omega arith)

-- all terms of the triples are fit and short
abbrev pub AreFit : List Triple → Type 0
AreFit triples = AllByRecursion HasFitAndShortTerms triples

pub join : (xs ys : List Triple) → AreFit xs → AreFit ys → AreFit (xs ++ ys)
join xs ys p q = append_each HasFitAndShortTerms xs ys p q

pub join_all : {A : Type 0} (Small : A → Type 0) (f : A → List Triple) (xs : List A) → ((x : A) → Small x → AreFit (f x)) → AllByRecursion Small xs → AreFit (flat_map f xs)
join_all Small f xs fits all = flat_map_each Small HasFitAndShortTerms f fits xs all

-- a triple by a word of the vocabulary
pub about_fit : (subject : Term) (predicate : Predicate) (object : Term) → IsFitAndShort subject → IsFitAndShort object → HasFitAndShortTerms (about subject predicate object)
about_fit subject predicate object s o = record { subject = s; predicate = predicate_fit predicate; object = o }

pub class_fit : (node : Term) (class : Resource) → IsFitAndShort node → HasFitAndShortTerms (class_triple node class)
class_fit node class n = about_fit node Predicates.RdfType (resource_term class) n (resource_fit class)
