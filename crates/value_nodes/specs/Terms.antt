-- The simple terms of data values.
use Rattle.std.specs.Prelude.{ℕ, if◌then◌else◌, List, codes, Option, Some, None}
use Rattle.std.specs.Str.{bytes_eq}
use Rattle.rdf_term.specs.declared.term.Term.{Term}
use Rattle.rdf_term.specs.declared.term.Term.TheVariants.{Plain}
use Rattle.rdf_term.specs.Grammar.{iri_of, tagged_of}
use Rattle.entity_model.specs.declared.value.Value.{Value}
use Rattle.entity_model.specs.declared.value.Value.TheVariants.{Entity, Str, Time, Quantity, Globe, Mono, Other}
use Rattle.entity_model.specs.declared.value.TimeParts.{TimeParts}
use Rattle.entity_model.specs.declared.value.GlobeParts.{GlobeParts}
use Rattle.rdf_vocabulary.specs.declared.prefix.Prefix.TheVariants.{Wd, FilePath}
use Rattle.rdf_vocabulary.specs.declared.datatype.Datatype.TheVariants.{DateTime as XsdDateTime, Decimal, WktLiteral}
use Rattle.rdf_vocabulary.specs.Datatype.{typed}
use Rattle.rdf_vocabulary.specs.Prefix.{prefixed}
use Rattle.rdf_vocabulary.specs.Unreserved.{escaped_name}
use Rattle.wb_values.specs.declared.literal.TimeText.{TimeText}
use Rattle.wb_values.specs.declared.literal.TimeText.TheVariants.{DateTime, Plain as PlainTime}
use Rattle.wb_values.specs.Decimal.{is_decimal}
use Rattle.wb_values.specs.Literal.{time_literal}
use Rattle.wb_values.specs.Point.{point_text}

-- the datatypes of properties whose texts are IRIs, and whose texts are names of files
unfoldable pub url : List ℕ
url = codes "url"

unfoldable pub commons_media : List ℕ
commons_media = codes "commonsMedia"

-- the calendar model of Julian dates
unfoldable pub julian_calendar : List ℕ
julian_calendar = codes "http://www.wikidata.org/entity/Q1985786"

-- a text: an IRI, the page of a file, or the text itself
abbrev pub text_term : List ℕ → List ℕ → Term
text_term datatype text =
    if bytes_eq datatype url then iri_of text
    else (if bytes_eq datatype commons_media then prefixed FilePath (escaped_name text) else Plain text)

-- an amount: a decimal number, or else its text
abbrev pub amount_term : List ℕ → Term
amount_term text = if is_decimal text then typed text Decimal else Plain text

-- the literal of a time
abbrev pub time_text_term : TimeText → Term
time_text_term (DateTime text) = typed text XsdDateTime
time_text_term (PlainTime text) = Plain text

abbrev pub time_term : TimeParts → Term
time_term time = time_text_term (time_literal time.time time.precision (bytes_eq time.calendar julian_calendar))

-- the literal of a point
abbrev pub globe_term : GlobeParts → Term
globe_term globe = typed (point_text globe.latitude globe.longitude globe.globe) WktLiteral

-- the simple term of a value whose property has this datatype
abbrev pub simple_term : List ℕ → Value → Option Term
simple_term datatype (Entity id) = Some (prefixed Wd id)
simple_term datatype (Str text) = Some (text_term datatype text)
simple_term datatype (Time time) = Some (time_term time)
simple_term datatype (Quantity quantity) = Some (amount_term quantity.amount)
simple_term datatype (Globe globe) = Some (globe_term globe)
simple_term datatype (Mono tagged) = Some (tagged_of tagged.text tagged.language)
simple_term datatype Other = None
