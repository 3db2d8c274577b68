-- The triples of a small value's node have fit and short terms.
use Rattle.std.proofs.Common.{ℕ, ◌≤◌, Bool, true, false, cond, List, [], ◌∷◌, ◌++◌, length, Option, Some, None, option_map, refl, arith}
use Rattle.std.specs.Str.{bytes_eq}
use Rattle.rdf_term.specs.declared.term.Term.{Term}
use Rattle.rdf_term.specs.Grammar.{iri_of}
use Rattle.rdf_term.specs.Fit.{IsFitAndShort}
use Rattle.entity_model.specs.declared.value.Value.{Value}
use Rattle.entity_model.specs.declared.value.Value.TheVariants.{Entity, Str, Time, Quantity, Globe, Mono, Other}
use Rattle.entity_model.specs.Value.{IsSmallValue, optional_length}
use Rattle.rdf_vocabulary.specs.declared.datatype.Datatype.TheVariants.{Integer, Double}
use Rattle.rdf_vocabulary.specs.declared.predicate.Predicate.{Predicate}
use Rattle.rdf_vocabulary.specs.declared.predicate.Predicate.TheVariants as P
use Rattle.rdf_vocabulary.specs.declared.prefix.Prefix.TheVariants.{Wd, Wdv}
use Rattle.rdf_vocabulary.specs.declared.resource.Resource.TheVariants.{TimeValue, QuantityValue, GlobecoordinateValue}
use Rattle.rdf_vocabulary.specs.Fields.{hashed_name}
use Rattle.rdf_vocabulary.specs.Datatype.{typed}
use Rattle.rdf_vocabulary.specs.Predicate.{about}
use Rattle.rdf_vocabulary.specs.Prefix.{prefixed}
use Rattle.entity_model.specs.declared.mapping.MappingVersion.{MappingVersion}
use Rattle.value_nodes.specs.Terms.{amount_term}
use Rattle.rdf_vocabulary.proofs.Fit.{AreFit, about_fit, class_fit, join, prefixed_fit}
use Rattle.rdf_vocabulary.proofs.NamesFit.{hashed_name_iri, length-hashed_name}
use Rattle.value_nodes.specs.Name.{one, number_one, name_fields}
use Rattle.value_nodes.specs.Nodes.{unit_term, bound_triples, precision_triples, value_part_triples, named_triples, node_triples}
use Rattle.value_nodes.proofs.Fit.{iri_fit, literal_fit, amount_term_fit, time_term_fit}

unit_fit : (unit : List ℕ) → length unit ≤ 8388608 → IsFitAndShort (unit_term unit)
unfolding number_one
unit_fit unit h = by_test (bytes_eq unit one)
  where
    by_test : (b : Bool) → IsFitAndShort (cond b (prefixed Wd number_one) (iri_of unit))
    by_test true = prefixed_fit Wd number_one refl (omega arith)
    by_test false = iri_fit unit h

bound_fit : (node : Term) (predicate : Predicate) (bound : Option (List ℕ)) → IsFitAndShort node → optional_length bound ≤ 8388608 → AreFit (bound_triples node predicate bound)
bound_fit node predicate None n h = tt
bound_fit node predicate (Some bound) n h = (about_fit node predicate _ n (amount_term_fit bound h), tt)

precision_fit : (node : Term) (precision : Option (List ℕ)) → IsFitAndShort node → optional_length precision ≤ 8388608 → AreFit (precision_triples node precision)
precision_fit node None n h = tt
precision_fit node (Some precision) n h = (about_fit node P.GeoPrecision _ n (literal_fit precision Double (omega arith)), tt)

parts_fit : (node : Term) (value : Value) → IsFitAndShort node → IsSmallValue value → AreFit (value_part_triples node value)
parts_fit node (Time time) n s = (
  class_fit node TimeValue n,
  (
    about_fit node P.TimeValue _ n (time_term_fit time (omega (arith, s.texts))),
    (
      about_fit node P.TimePrecision _ n (literal_fit time.precision_text Integer (omega (arith, s.texts))),
      (
        about_fit node P.TimeTimezone _ n (literal_fit time.timezone Integer (omega (arith, s.texts))),
        (about_fit node P.TimeCalendarModel _ n (iri_fit time.calendar (omega (arith, s.texts))), tt),
      ),
    ),
  ),
)
parts_fit node (Quantity quantity) n s =
    let amount = about node P.QuantityAmount (amount_term quantity.amount) in
    let unit = about node P.QuantityUnit (unit_term quantity.unit) in
    let front : AreFit (amount ∷ unit ∷ []) = (
      about_fit node P.QuantityAmount (amount_term quantity.amount) n (amount_term_fit quantity.amount (omega (arith, s.texts))),
      (about_fit node P.QuantityUnit (unit_term quantity.unit) n (unit_fit quantity.unit (omega (arith, s.texts))), tt),
    ) in
    let upper = bound_triples node P.QuantityUpperBound quantity.upper in
    let lower = bound_triples node P.QuantityLowerBound quantity.lower in
    let most = join (amount ∷ unit ∷ []) upper front (bound_fit node P.QuantityUpperBound quantity.upper n (omega (arith, s.texts))) in (
      class_fit node QuantityValue n,
      join ((amount ∷ unit ∷ []) ++ upper) lower most (bound_fit node P.QuantityLowerBound quantity.lower n (omega (arith, s.texts))),
    )
parts_fit node (Globe globe) n s =
    let latitude = about node P.GeoLatitude (typed globe.latitude Double) in
    let longitude = about node P.GeoLongitude (typed globe.longitude Double) in
    let front : AreFit (latitude ∷ longitude ∷ []) = (
      about_fit node P.GeoLatitude (typed globe.latitude Double) n (literal_fit globe.latitude Double (omega (arith, s.texts))),
      (about_fit node P.GeoLongitude (typed globe.longitude Double) n (literal_fit globe.longitude Double (omega (arith, s.texts))), tt),
    ) in
    let precision = precision_triples node globe.precision in
    let model = about node P.GeoGlobe (iri_of globe.globe) in
    let back : AreFit (model ∷ []) =
    (about_fit node P.GeoGlobe (iri_of globe.globe) n (iri_fit globe.globe (omega (arith, s.texts))), tt) in
    let most = join (latitude ∷ longitude ∷ []) precision front (precision_fit node globe.precision n (omega (arith, s.texts))) in (
      class_fit node GlobecoordinateValue n,
      join ((latitude ∷ longitude ∷ []) ++ precision) (model ∷ []) most back,
    )
parts_fit node (Entity id) n s = tt
parts_fit node (Str text) n s = tt
parts_fit node (Mono tagged) n s = tt
parts_fit node Other n s = tt

node_fit : (fields : List ℕ) → IsFitAndShort (prefixed Wdv (hashed_name fields))
node_fit fields =
    prefixed_fit Wdv (hashed_name fields) (hashed_name_iri fields) (omega (arith, length-hashed_name fields))

named_fit : (value : Value) (fields : Option (List ℕ)) → IsSmallValue value → AreFit (named_triples value (option_map hashed_name fields))
named_fit value None s = tt
named_fit value (Some fields) s = parts_fit _ value (node_fit fields) s

-- the triples of a small value's node have fit and short terms
pub node_triples_fit : (version : MappingVersion) (value : Value) → IsSmallValue value → AreFit (node_triples version value)
node_triples_fit version value s = named_fit value (name_fields version value) s
