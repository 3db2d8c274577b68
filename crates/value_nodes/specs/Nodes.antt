-- The triples of the nodes of data values.
use Rattle.std.specs.Prelude.{ℕ, if◌then◌else◌, List, [], ◌∷◌, ◌++◌, Option, Some, None}
use Rattle.std.specs.Str.{bytes_eq}
use Rattle.rdf_term.specs.declared.term.Term.{Term}
use Rattle.rdf_term.specs.declared.triple.Triple.{Triple}
use Rattle.rdf_term.specs.Grammar.{iri_of}
use Rattle.entity_model.specs.declared.value.Value.{Value}
use Rattle.entity_model.specs.declared.value.Value.TheVariants.{Entity, Str, Time, Quantity, Globe, Mono, Other}
use Rattle.entity_model.specs.declared.value.TimeParts.{TimeParts}
use Rattle.entity_model.specs.declared.value.QuantityParts.{QuantityParts}
use Rattle.entity_model.specs.declared.value.GlobeParts.{GlobeParts}
use Rattle.rdf_vocabulary.specs.declared.datatype.Datatype.TheVariants.{Integer, Double}
use Rattle.rdf_vocabulary.specs.declared.predicate.Predicate.{Predicate}
use Rattle.rdf_vocabulary.specs.declared.predicate.Predicate.TheVariants as P
use Rattle.rdf_vocabulary.specs.declared.prefix.Prefix.TheVariants.{Wd, Wdv}
use Rattle.rdf_vocabulary.specs.declared.resource.Resource.TheVariants.{TimeValue, QuantityValue, GlobecoordinateValue}
use Rattle.rdf_vocabulary.specs.Datatype.{typed}
use Rattle.rdf_vocabulary.specs.Predicate.{about}
use Rattle.rdf_vocabulary.specs.Prefix.{prefixed}
use Rattle.rdf_vocabulary.specs.Resource.{class_triple}
use Rattle.entity_model.specs.declared.mapping.MappingVersion.{MappingVersion}
use Rattle.value_nodes.specs.Name.{one, number_one, node_name}
use Rattle.value_nodes.specs.Terms.{amount_term, time_term}

-- the unit of an amount, where `1` is the number one
abbrev pub unit_term : List ℕ → Term
unit_term unit = if bytes_eq unit one then prefixed Wd number_one else iri_of unit

-- a bound of an amount, where it is there
abbrev pub bound_triples : Term → Predicate → Option (List ℕ) → List Triple
bound_triples node predicate None = []
bound_triples node predicate (Some bound) = about node predicate (amount_term bound) ∷ []

-- the parts of a time
abbrev pub time_triples : Term → TimeParts → List Triple
time_triples node time =
    about node P.TimeValue (time_term time)
    ∷ about node P.TimePrecision (typed time.precision_text Integer)
    ∷ about node P.TimeTimezone (typed time.timezone Integer)
    ∷ about node P.TimeCalendarModel (iri_of time.calendar) ∷ []

-- the parts of a quantity
abbrev pub quantity_triples : Term → QuantityParts → List Triple
quantity_triples node quantity =
    (about node P.QuantityAmount (amount_term quantity.amount) ∷ about node P.QuantityUnit (unit_term quantity.unit) ∷ [])
    ++ bound_triples node P.QuantityUpperBound quantity.upper
    ++ bound_triples node P.QuantityLowerBound quantity.lower

-- the precision of a coordinate, where it is there
abbrev pub precision_triples : Term → Option (List ℕ) → List Triple
precision_triples node None = []
precision_triples node (Some precision) = about node P.GeoPrecision (typed precision Double) ∷ []

-- the parts of a coordinate
abbrev pub globe_triples : Term → GlobeParts → List Triple
globe_triples node globe =
    (about node P.GeoLatitude (typed globe.latitude Double) ∷ about node P.GeoLongitude (typed globe.longitude Double) ∷ [])
    ++ precision_triples node globe.precision
    ++ (about node P.GeoGlobe (iri_of globe.globe) ∷ [])

-- the class and the parts of a value, as they are said of a node
abbrev pub value_part_triples : Term → Value → List Triple
value_part_triples node (Time time) = (class_triple node TimeValue ∷ []) ++ time_triples node time
value_part_triples node (Quantity quantity) = (class_triple node QuantityValue ∷ []) ++ quantity_triples node quantity
value_part_triples node (Globe globe) = (class_triple node GlobecoordinateValue ∷ []) ++ globe_triples node globe
value_part_triples node (Entity id) = []
value_part_triples node (Str text) = []
value_part_triples node (Mono tagged) = []
value_part_triples node Other = []

-- the triples of a value's node, if it has one
abbrev pub named_triples : Value → Option (List ℕ) → List Triple
named_triples value None = []
named_triples value (Some name) = value_part_triples (prefixed Wdv name) value

abbrev pub node_triples : MappingVersion → Value → List Triple
node_triples version value = named_triples value (node_name version value)
