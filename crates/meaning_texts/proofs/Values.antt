-- The terms of a value whose texts are UTF-8 are so too, and those of its node.
use Rattle.std.proofs.Common.{◌≡◌, ℕ, zero, suc, ◌-◌, Bool, List, [], ◌∷◌, ◌++◌, length, Option, Some, None, decimal, refl, subst, arith}
use Rattle.std.specs.Prelude.{codes, IfSome, ℤ, pos, int_lt, option_map, replicate, unsigned_abs}
use Rattle.std.specs.Str.{IsUtf8, bytes_eq}
use Rattle.std.proofs.lemmas.Str.{IsUtf8-append, IsUtf8-nil}
use Rattle.rdf_term.specs.declared.term.Term.{Term}
use Rattle.rdf_term.specs.Grammar.{iri_of, percent_encoded}
use Rattle.rdf_term.proofs.Utf8Texts.{plain_utf8}
use Rattle.entity_model.specs.declared.mapping.MappingVersion.{MappingVersion}
use Rattle.entity_model.specs.declared.value.Value.{Value}
use Rattle.entity_model.specs.declared.value.Value.TheVariants.{Entity, Str, Time, Quantity, Globe, Mono, Other}
use Rattle.entity_model.specs.declared.value.TimeParts.{TimeParts}
use Rattle.entity_model.specs.declared.value.QuantityParts.{QuantityParts}
use Rattle.entity_model.specs.declared.value.GlobeParts.{GlobeParts}
use Rattle.rdf_vocabulary.specs.declared.datatype.Datatype.TheVariants.{DateTime as XsdDateTime, Decimal, Double, Integer, WktLiteral}
use Rattle.rdf_vocabulary.specs.declared.predicate.Predicate.{Predicate}
use Rattle.rdf_vocabulary.specs.declared.predicate.Predicate.TheVariants as P
use Rattle.rdf_vocabulary.specs.declared.prefix.Prefix.TheVariants.{Wd, Wdv, FilePath}
use Rattle.rdf_vocabulary.specs.declared.resource.Resource.TheVariants.{TimeValue, QuantityValue, GlobecoordinateValue}
use Rattle.rdf_vocabulary.specs.Datatype.{typed}
use Rattle.rdf_vocabulary.specs.Fields.{hashed_name}
use Rattle.rdf_vocabulary.specs.Predicate.{about}
use Rattle.rdf_vocabulary.specs.Prefix.{prefixed}
use Rattle.rdf_vocabulary.specs.Resource.{class_triple}
use Rattle.rdf_vocabulary.specs.Unreserved.{escaped_name}
use Rattle.rdf_vocabulary.proofs.Shared.{chosen}
use Rattle.wb_values.specs.Decimal.{is_decimal}
use Rattle.wb_values.specs.Literal.{date_time_text, literal_meant, meant_time, sign_text, zero_padded}
use Rattle.wb_values.specs.Point.{earth, globe_text, point_text}
use Rattle.wb_values.proofs.LiteralLemmas.{meant_sound}
use Rattle.value_nodes.specs.Name.{name_fields, number_one, one}
use Rattle.value_nodes.specs.Nodes.{bound_triples, globe_triples, named_triples, node_triples, precision_triples, quantity_triples, time_triples, unit_term, value_part_triples}
use Rattle.value_nodes.specs.Terms.{amount_term, commons_media, globe_term, julian_calendar, simple_term, text_term, time_term, time_text_term, url}
use Rattle.meaning_texts.specs.Documents.{IsUtf8Globe, IsUtf8Quantity, IsUtf8Time, IsUtf8Value}
use Rattle.meaning_texts.specs.Terms.{IsUtf8Term}
use Rattle.meaning_texts.proofs.Ascii.{after_low, ascii_utf8, decimal_utf8, low_utf8}
use Rattle.meaning_texts.proofs.Vocabulary.{AreUtf8, about_utf8, class_utf8, encoded_utf8, escaped_utf8, hashed_utf8, iri_of_utf8, join, literal_utf8, prefixed_utf8, tagged_utf8}

-- ---- texts and amounts

text_term_utf8 : (datatype text : List ℕ) → IsUtf8 text → IsUtf8Term (text_term datatype text)
text_term_utf8 datatype text is =
    chosen IsUtf8Term (bytes_eq datatype url) _ _ (iri_of_utf8 text is)
    (chosen IsUtf8Term (bytes_eq datatype commons_media) _ _ (prefixed_utf8 FilePath (escaped_name text) (escaped_utf8 text)) (plain_utf8 text is))

amount_utf8 : (text : List ℕ) → IsUtf8 text → IsUtf8Term (amount_term text)
amount_utf8 text is = chosen IsUtf8Term (is_decimal text) _ _ (literal_utf8 text Decimal is) (plain_utf8 text is)

-- ---- times

zeros_utf8 : (k : ℕ) → IsUtf8 (replicate k 48)
zeros_utf8 zero = IsUtf8-nil
zeros_utf8 (suc k) = low_utf8 48 (replicate k 48) (omega arith) (zeros_utf8 k)

padded_utf8 : (width n : ℕ) → IsUtf8 (zero_padded width n)
padded_utf8 width n = IsUtf8-append (replicate (width - length (decimal n)) 48) (decimal n) (zeros_utf8 (width - length (decimal n))) (decimal_utf8 n)

sign_utf8 : (year : ℤ) → IsUtf8 (sign_text year)
sign_utf8 year = chosen IsUtf8 (int_lt year (pos 0)) (45 ∷ []) [] (low_utf8 45 [] (omega arith) IsUtf8-nil) IsUtf8-nil

dashed_utf8 : (n : ℕ) → IsUtf8 (45 ∷ zero_padded 2 n)
dashed_utf8 n = low_utf8 45 (zero_padded 2 n) (omega arith) (padded_utf8 2 n)

date_time_utf8 : (day : _) (clock : List ℕ) → IsUtf8 clock → IsUtf8 (date_time_text day clock)
date_time_utf8 day clock is =
    let sign = sign_text day.year in
    let year = zero_padded 4 (unsigned_abs day.year) in
    let month = 45 ∷ zero_padded 2 day.month in
    let date = 45 ∷ zero_padded 2 day.day in
    IsUtf8-append (sign ++ year ++ month ++ date) (84 ∷ clock)
    (IsUtf8-append (sign ++ year ++ month) date (IsUtf8-append (sign ++ year) month (IsUtf8-append sign year (sign_utf8 day.year) (padded_utf8 4 (unsigned_abs day.year))) (dashed_utf8 day.month)) (dashed_utf8 day.day))
    (low_utf8 84 clock (omega arith) is)

time_by : (text : List ℕ) (precision : ℕ) (julian : Bool) (meant : _) → meant_time text precision julian ≡ meant → IsUtf8 text → IsUtf8Term (time_text_term (literal_meant text meant))
time_by text precision julian None e is = plain_utf8 text is
time_by text precision julian (Some (day, clock)) e is =
    let m = meant_sound text precision julian day clock e in
    literal_utf8 (date_time_text day clock) XsdDateTime (date_time_utf8 day clock (after_low m.1.date 84 clock (omega arith) (subst IsUtf8 m.1.is is)))

time_utf8 : (time : TimeParts) → IsUtf8 time.time → IsUtf8Term (time_term time)
time_utf8 time is = let julian = bytes_eq time.calendar julian_calendar in time_by time.time time.precision julian (meant_time time.time time.precision julian) refl is

-- ---- points

globe_text_utf8 : (globe : List ℕ) → IsUtf8 globe → IsUtf8 (globe_text globe)
globe_text_utf8 globe is =
    let front = codes "<" ++ percent_encoded globe in
    chosen IsUtf8 (bytes_eq globe earth) [] (front ++ codes "> ") IsUtf8-nil
    (IsUtf8-append front (codes "> ") (IsUtf8-append (codes "<") (percent_encoded globe) (ascii_utf8 (codes "<") refl) (encoded_utf8 globe is)) (ascii_utf8 (codes "> ") refl))

globe_utf8 : (globe : GlobeParts) → IsUtf8Globe globe → IsUtf8Term (globe_term globe)
globe_utf8 globe is =
    let a = globe_text globe.globe in
    let b = codes "Point(" in
    let c = codes " " in
    let d = codes ")" in
    literal_utf8 (point_text globe.latitude globe.longitude globe.globe) WktLiteral
    (IsUtf8-append (a ++ b ++ globe.longitude ++ c ++ globe.latitude) d
    (IsUtf8-append (a ++ b ++ globe.longitude ++ c) globe.latitude
    (IsUtf8-append (a ++ b ++ globe.longitude) c
    (IsUtf8-append (a ++ b) globe.longitude (IsUtf8-append a b (globe_text_utf8 globe.globe is.globe) (ascii_utf8 b refl)) is.longitude)
    (ascii_utf8 c refl)) is.latitude) (ascii_utf8 d refl))

-- the simple term of a value
pub simple_utf8 : (datatype : List ℕ) (value : Value) → IsUtf8Value value → IfSome (simple_term datatype value) IsUtf8Term
simple_utf8 datatype (Entity id) is = prefixed_utf8 Wd id is
simple_utf8 datatype (Str text) is = text_term_utf8 datatype text is
simple_utf8 datatype (Time time) is = time_utf8 time is.time
simple_utf8 datatype (Quantity quantity) is = amount_utf8 quantity.amount is.amount
simple_utf8 datatype (Globe globe) is = globe_utf8 globe is
simple_utf8 datatype (Mono tagged) is = tagged_utf8 tagged.text tagged.language is.text is.language
simple_utf8 datatype Other is = tt

-- ---- nodes

unit_utf8 : (unit : List ℕ) → IsUtf8 unit → IsUtf8Term (unit_term unit)
unfolding number_one
unit_utf8 unit is = chosen IsUtf8Term (bytes_eq unit one) _ _ (prefixed_utf8 Wd number_one (ascii_utf8 number_one refl)) (iri_of_utf8 unit is)

bound_utf8 : (node : Term) (predicate : Predicate) (bound : Option (List ℕ)) → IsUtf8Term node → IfSome bound IsUtf8 → AreUtf8 (bound_triples node predicate bound)
bound_utf8 node predicate None n is = tt
bound_utf8 node predicate (Some bound) n is = (about_utf8 node predicate _ n (amount_utf8 bound is), tt)

precision_utf8 : (node : Term) (precision : Option (List ℕ)) → IsUtf8Term node → IfSome precision IsUtf8 → AreUtf8 (precision_triples node precision)
precision_utf8 node None n is = tt
precision_utf8 node (Some precision) n is = (about_utf8 node P.GeoPrecision _ n (literal_utf8 precision Double is), tt)

quantity_parts : (node : Term) (quantity : QuantityParts) → IsUtf8Term node → IsUtf8Quantity quantity → AreUtf8 (quantity_triples node quantity)
quantity_parts node quantity n is =
    let front = about node P.QuantityAmount (amount_term quantity.amount) ∷ about node P.QuantityUnit (unit_term quantity.unit) ∷ [] in
    let upper = bound_triples node P.QuantityUpperBound quantity.upper in
    join (front ++ upper) (bound_triples node P.QuantityLowerBound quantity.lower)
    (join front upper (about_utf8 node P.QuantityAmount _ n (amount_utf8 quantity.amount is.amount), (about_utf8 node P.QuantityUnit _ n (unit_utf8 quantity.unit is.unit), tt))
    (bound_utf8 node P.QuantityUpperBound quantity.upper n is.upper)) (bound_utf8 node P.QuantityLowerBound quantity.lower n is.lower)

globe_parts : (node : Term) (globe : GlobeParts) → IsUtf8Term node → IsUtf8Globe globe → AreUtf8 (globe_triples node globe)
globe_parts node globe n is =
    let front = about node P.GeoLatitude (typed globe.latitude Double) ∷ about node P.GeoLongitude (typed globe.longitude Double) ∷ [] in
    let precision = precision_triples node globe.precision in
    join (front ++ precision) (about node P.GeoGlobe (iri_of globe.globe) ∷ [])
    (join front precision (about_utf8 node P.GeoLatitude _ n (literal_utf8 globe.latitude Double is.latitude), (about_utf8 node P.GeoLongitude _ n (literal_utf8 globe.longitude Double is.longitude), tt))
    (precision_utf8 node globe.precision n is.precision)) (about_utf8 node P.GeoGlobe _ n (iri_of_utf8 globe.globe is.globe), tt)

time_parts : (node : Term) (time : TimeParts) → IsUtf8Term node → IsUtf8Time time → AreUtf8 (time_triples node time)
time_parts node time n is = (
  about_utf8 node P.TimeValue _ n (time_utf8 time is.time),
  (
    about_utf8 node P.TimePrecision _ n (literal_utf8 time.precision_text Integer is.precision),
    (about_utf8 node P.TimeTimezone _ n (literal_utf8 time.timezone Integer is.timezone), (about_utf8 node P.TimeCalendarModel _ n (iri_of_utf8 time.calendar is.calendar), tt)),
  ),
)

parts_utf8 : (node : Term) (value : Value) → IsUtf8Term node → IsUtf8Value value → AreUtf8 (value_part_triples node value)
parts_utf8 node (Time time) n is = (class_utf8 node TimeValue n, time_parts node time n is)
parts_utf8 node (Quantity quantity) n is = join (class_triple node QuantityValue ∷ []) (quantity_triples node quantity) (class_utf8 node QuantityValue n, tt) (quantity_parts node quantity n is)
parts_utf8 node (Globe globe) n is = join (class_triple node GlobecoordinateValue ∷ []) (globe_triples node globe) (class_utf8 node GlobecoordinateValue n, tt) (globe_parts node globe n is)
parts_utf8 node (Entity id) n is = tt
parts_utf8 node (Str text) n is = tt
parts_utf8 node (Mono tagged) n is = tt
parts_utf8 node Other n is = tt

pub name_utf8 : (fields : List ℕ) → IsUtf8Term (prefixed Wdv (hashed_name fields))
name_utf8 fields = prefixed_utf8 Wdv (hashed_name fields) (hashed_utf8 fields)

named_utf8 : (value : Value) (fields : Option (List ℕ)) → IsUtf8Value value → AreUtf8 (named_triples value (option_map hashed_name fields))
named_utf8 value None is = tt
named_utf8 value (Some fields) is = parts_utf8 _ value (name_utf8 fields) is

-- the triples of a value's node
pub node_utf8 : (version : MappingVersion) (value : Value) → IsUtf8Value value → AreUtf8 (node_triples version value)
node_utf8 version value is = named_utf8 value (name_fields version value) is
