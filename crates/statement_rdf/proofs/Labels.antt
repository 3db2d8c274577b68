-- The labels of the blank nodes of statements are short: they are those of unknown values, hashes of 32 digits. No text is one.
use Rattle.std.proofs.Common.{◌≡◌, ℕ, Bool, true, nat_le, cond, List, Option, Some, None, IfSome, refl, ap, subst}
use Rattle.std.specs.List.{AllByRecursion}
use Rattle.std.specs.Str.{bytes_eq}
use Rattle.rdf_term.specs.declared.term.Term.{Term}
use Rattle.rdf_term.specs.declared.term.Term.TheVariants.{Iri, Blank, Plain, Lang}
use Rattle.rdf_term.specs.declared.triple.Triple.{Triple}
use Rattle.rdf_term.specs.Grammar.{is_tag, iri_of, tagged_of}
use Rattle.rdf_term.specs.Triple.{triple}
use Rattle.entity_model.specs.declared.value.Value.{Value}
use Rattle.entity_model.specs.declared.value.Value.TheVariants as Values
use Rattle.entity_model.specs.declared.snak.Snak.{Snak}
use Rattle.entity_model.specs.declared.statement.Statement.{Statement}
use Rattle.entity_model.specs.declared.mapping.MappingVersion.{MappingVersion}
use Rattle.rdf_vocabulary.specs.declared.datatype.Datatype.TheVariants.{Decimal}
use Rattle.rdf_vocabulary.specs.declared.predicate.Predicate.{Predicate}
use Rattle.rdf_vocabulary.specs.declared.prefix.Prefix.TheVariants.{FilePath, Wd}
use Rattle.rdf_vocabulary.specs.Datatype.{typed}
use Rattle.rdf_vocabulary.specs.Fields.{hashed_name}
use Rattle.rdf_vocabulary.specs.Prefix.{prefixed}
use Rattle.rdf_vocabulary.specs.Unreserved.{escaped_name}
use Rattle.rdf_vocabulary.proofs.NamesFit.{length-hashed_name}
use Rattle.rdf_vocabulary.proofs.Shared.{append_each, chosen}
use Rattle.wb_values.specs.declared.literal.TimeText.{TimeText}
use Rattle.wb_values.specs.declared.literal.TimeText.TheVariants.{DateTime, Plain as PlainTime}
use Rattle.wb_values.specs.Decimal.{is_decimal}
use Rattle.value_nodes.specs.Name.{node_name, number_one, one}
use Rattle.value_nodes.specs.Nodes.{bound_triples, named_triples, node_triples, precision_triples, unit_term, value_part_triples}
use Rattle.value_nodes.specs.Terms.{amount_term, commons_media, simple_term, text_term, time_text_term, url}
use Rattle.statement_facts.specs.declared.role.Role.{Role}
use Rattle.statement_rdf.specs.Gives.{SnakGives, simple_value, value_node, node_part, no_value, unknown_value, DirectGives, direct_value, direct_no_value, direct_unknown, StatementGives, claim, statement_class, statement_rank, best_rank, main_snak, best_snak, qualifier_snak, derived, source_class, source_snak}
use Rattle.munger.specs.Short.{has_short_label, HasShortLabels}
use Rattle.statement_rdf.proofs.Each.{of_member}

-- the label is short, where the term is a blank node
abbrev pub IsShort : Term → Type 0
IsShort term = has_short_label term ≡ true

-- so are those of the triples' blank nodes
abbrev pub AreShort : List Triple → Type 0
AreShort triples = AllByRecursion HasShortLabels triples

-- the blank node of a hashed name
blank_short : (fields : List ℕ) → IsShort (Blank (hashed_name fields))
blank_short fields = ap (λ n. nat_le n 32) (length-hashed_name fields)

-- the terms of values, none of which is a blank node
pub tagged_short : (text tag : List ℕ) → IsShort (tagged_of text tag)
tagged_short text tag = chosen IsShort (is_tag tag) (Lang text tag) (Plain text) refl refl

text_short : (datatype text : List ℕ) → IsShort (text_term datatype text)
text_short datatype text =
    let file = prefixed FilePath (escaped_name text) in
    chosen IsShort (bytes_eq datatype url) (iri_of text) (cond (bytes_eq datatype commons_media) file (Plain text)) refl
    (chosen IsShort (bytes_eq datatype commons_media) file (Plain text) refl refl)

amount_short : (text : List ℕ) → IsShort (amount_term text)
amount_short text = chosen IsShort (is_decimal text) (typed text Decimal) (Plain text) refl refl

unit_short : (unit : List ℕ) → IsShort (unit_term unit)
unit_short unit = chosen IsShort (bytes_eq unit one) (prefixed Wd number_one) (iri_of unit) refl refl

time_short : (text : TimeText) → IsShort (time_text_term text)
time_short (DateTime text) = refl
time_short (PlainTime text) = refl

simple_short : (datatype : List ℕ) (value : Value) → IfSome (simple_term datatype value) IsShort
simple_short datatype (Values.Entity id) = refl
simple_short datatype (Values.Str text) = text_short datatype text
simple_short datatype (Values.Time time) = time_short _
simple_short datatype (Values.Quantity quantity) = amount_short quantity.amount
simple_short datatype (Values.Globe globe) = refl
simple_short datatype (Values.Mono tagged) = tagged_short tagged.text tagged.language
simple_short datatype Values.Other = tt

-- the parts of a value's node
bound_short : (node : List ℕ) (predicate : Predicate) (bound : Option (List ℕ)) → AreShort (bound_triples (Iri node) predicate bound)
bound_short node predicate None = tt
bound_short node predicate (Some bound) = search amount_short

precision_short : (node : List ℕ) (precision : Option (List ℕ)) → AreShort (precision_triples (Iri node) precision)
precision_short node None = tt
precision_short node (Some precision) = search

parts_short : (node : List ℕ) (value : Value) → AreShort (value_part_triples (Iri node) value)
parts_short node (Values.Time time) = search time_short parts 12
parts_short node (Values.Quantity quantity) = search (append_each HasShortLabels, bound_short, amount_short, unit_short) parts 12
parts_short node (Values.Globe globe) = search (append_each HasShortLabels, precision_short) parts 12
parts_short node (Values.Entity id) = tt
parts_short node (Values.Str text) = tt
parts_short node (Values.Mono tagged) = tt
parts_short node Values.Other = tt

node_short : (value : Value) (node : Option (List ℕ)) → AreShort (named_triples value node)
node_short value None = tt
node_short value (Some node) = parts_short _ value

-- what a rule gives, whose subject and predicate are IRIs
module _ (t : Triple) where
  pub said : {subject predicate : List ℕ} {object : Term} → t ≡ triple (Iri subject) (Iri predicate) object → IsShort object → HasShortLabels t
  said is object = rw is (record { subject = refl; predicate = refl; object = object })

  simple_said : {subject predicate : List ℕ} {object : Term} (datatype : List ℕ) (value : Value) → simple_term datatype value ≡ Some object
      → t ≡ triple (Iri subject) (Iri predicate) object → HasShortLabels t
  simple_said datatype value found is = said is (subst (λ o. IfSome o IsShort) found (simple_short datatype value))

  snak_short : (version : MappingVersion) (subject id : List ℕ) (role : Role) (snak : Snak) → SnakGives version (Iri subject) id role snak t → HasShortLabels t
  snak_short version subject id role snak (simple_value value term content found is) = simple_said snak.datatype value found is
  snak_short version subject id role snak (value_node value node content found is) = said is refl
  snak_short version subject id role snak (node_part value content among) = of_member HasShortLabels (node_triples version value) t (node_short value (node_name version value)) among
  snak_short version subject id role snak (no_value content is) = said is refl
  snak_short version subject id role snak (unknown_value content is) = said is (blank_short _)

  direct_short : (subject id : List ℕ) (snak : Snak) → DirectGives (Iri subject) id snak t → HasShortLabels t
  direct_short subject id snak (direct_value value term content found is) = simple_said snak.datatype value found is
  direct_short subject id snak (direct_no_value content is) = said is refl
  direct_short subject id snak (direct_unknown content is) = said is (blank_short _)

  module _ (version : MappingVersion) (subject : List ℕ) where
    pub statement_short : (s : Statement) (best : Bool) → StatementGives version (Iri subject) s best t → HasShortLabels t
    statement_short s best (claim is) = said is refl
    statement_short s best (statement_class is) = said is refl
    statement_short s best (statement_rank is) = said is refl
    statement_short s best (best_rank holds is) = said is refl
    statement_short s best (main_snak gives) = snak_short version _ s.id _ s.main gives
    statement_short s best (best_snak holds gives) = direct_short subject s.id s.main gives
    statement_short s best (qualifier_snak snak among gives) = snak_short version _ s.id _ snak gives
    statement_short s best (derived r among is) = said is refl
    statement_short s best (source_class r among is) = said is refl
    statement_short s best (source_snak r snak among within gives) = snak_short version _ s.id _ snak gives
