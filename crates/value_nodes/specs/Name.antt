-- The names of the nodes of data values.
use Rattle.std.specs.Prelude.{ℕ, if◌then◌else◌, List, [], ◌∷◌, ◌++◌, codes, Option, Some, None, option_map}
use Rattle.std.specs.Str.{bytes_eq}
use Rattle.entity_model.specs.declared.value.Value.{Value}
use Rattle.entity_model.specs.declared.value.Value.TheVariants.{Entity, Str, Time, Quantity, Globe, Mono, Other}
use Rattle.entity_model.specs.declared.value.TimeParts.{TimeParts}
use Rattle.entity_model.specs.declared.value.QuantityParts.{QuantityParts}
use Rattle.entity_model.specs.declared.value.GlobeParts.{GlobeParts}
use Rattle.entity_model.specs.declared.mapping.MappingVersion.{MappingVersion}
use Rattle.entity_model.specs.declared.mapping.MappingVersion.TheVariants.{One, Two}
use Rattle.rdf_vocabulary.specs.declared.prefix.Prefix.TheVariants.{Wd}
use Rattle.rdf_vocabulary.specs.Fields.{field, optional_field, hashed_name}
use Rattle.rdf_vocabulary.specs.Prefix.{prefix_text}

-- the unit of an amount that is a mere number, and the number one, Q199, by its name and by its IRI
unfoldable pub one : List ℕ
one = codes "1"

unfoldable pub number_one : List ℕ
number_one = codes "Q199"

abbrev pub number_one_iri : List ℕ
number_one_iri = prefix_text Wd ++ number_one

-- what stands before a value's parts: nothing in the first version, `2` in the second
abbrev pub version_mark : MappingVersion → List ℕ
version_mark One = []
version_mark Two = 50 ∷ []

-- the unit that names a node: as it is spelled, and in the second version the number one's IRI for `1`
abbrev pub named_unit : MappingVersion → List ℕ → List ℕ
named_unit One unit = unit
named_unit Two unit = if bytes_eq unit one then number_one_iri else unit

-- `t`, the time, its precision and its time zone as they are spelled, and its calendar model
abbrev pub time_fields : TimeParts → List ℕ
time_fields time =
    116 ∷ (field time.time ++ field time.precision_text ++ field time.timezone ++ field time.calendar)

-- `q`, the amount, its unit and its bounds
abbrev pub quantity_fields : MappingVersion → QuantityParts → List ℕ
quantity_fields version quantity =
    113 ∷ (field quantity.amount ++ field (named_unit version quantity.unit) ++ optional_field quantity.upper ++ optional_field quantity.lower)

-- `g`, the latitude, the longitude, the precision and the globe
abbrev pub globe_fields : GlobeParts → List ℕ
globe_fields globe =
    103 ∷ (field globe.latitude ++ field globe.longitude ++ optional_field globe.precision ++ field globe.globe)

-- the quantity with another unit
abbrev pub with_unit : QuantityParts → List ℕ → QuantityParts
with_unit quantity unit = record { amount = quantity.amount; unit = unit; upper = quantity.upper; lower = quantity.lower }

-- the fields that a value's node is named by, if it has a node
abbrev pub name_fields : MappingVersion → Value → Option (List ℕ)
name_fields version (Time time) = Some (version_mark version ++ time_fields time)
name_fields version (Quantity quantity) = Some (version_mark version ++ quantity_fields version quantity)
name_fields version (Globe globe) = Some (version_mark version ++ globe_fields globe)
name_fields version (Entity id) = None
name_fields version (Str text) = None
name_fields version (Mono tagged) = None
name_fields version Other = None

-- the name of a value's node, if it has one
abbrev pub node_name : MappingVersion → Value → Option (List ℕ)
node_name version value = option_map hashed_name (name_fields version value)
