-- What the page of a property says of its predicates.
use Rattle.std.specs.Prelude.{ℕ, Bool, ◌||◌, ◌==◌, cond, List, [], ◌∷◌, ◌++◌, Option, Some, None}
use Rattle.std.specs.Char.{is_ascii_alphanumeric, to_ascii_uppercase}
use Rattle.std.specs.List.{flat_map, slice_split}
use Rattle.rdf_term.specs.declared.term.Term.{Term}
use Rattle.rdf_term.specs.declared.triple.Triple.{Triple}
use Rattle.rdf_term.specs.Grammar.{is_word}
use Rattle.entity_model.specs.declared.id.EntityId.{EntityId}
use Rattle.entity_model.specs.declared.id.IdKind.{IdKind}
use Rattle.entity_model.specs.declared.id.IdKind.TheVariants as Letter
use Rattle.rdf_vocabulary.specs.declared.predicate.Predicate.{Predicate}
use Rattle.rdf_vocabulary.specs.declared.predicate.Predicate.TheVariants as Say
use Rattle.rdf_vocabulary.specs.declared.prefix.Prefix.{Prefix}
use Rattle.rdf_vocabulary.specs.declared.prefix.Prefix.TheVariants.{Wdt, P, Ps, Psv, Pq, Pqv, Pr, Prv, Wdno, Wikibase}
use Rattle.rdf_vocabulary.specs.Predicate.{about}
use Rattle.rdf_vocabulary.specs.Prefix.{entity_term, id_term, prefixed}

-- a hyphen
abbrev pub is_hyphen : ℕ → Bool
is_hyphen c = c == 45

-- a character that may stand in a datatype that has a type of properties
abbrev pub is_datatype_char : ℕ → Bool
is_datatype_char c = is_ascii_alphanumeric c || is_hyphen c

-- a part of a datatype with its first letter in upper case
abbrev pub capitalized : List ℕ → List ℕ
capitalized [] = []
capitalized (c ∷ cs) = to_ascii_uppercase c ∷ cs

-- the parts of a datatype between hyphens, capitalized and joined, as `GlobeCoordinate` for `globe-coordinate`
abbrev pub type_name : List ℕ → List ℕ
type_name datatype = flat_map capitalized (slice_split is_hyphen datatype)

-- the type of properties of a datatype: letters, digits and hyphens alone make one
abbrev pub type_triples : Term → List ℕ → List Triple
type_triples entity datatype =
    cond (is_word is_datatype_char datatype) (about entity Say.PropertyType (prefixed Wikibase (type_name datatype)) ∷ []) []

abbrev pub datatype_triples : Term → Option (List ℕ) → List Triple
datatype_triples entity None = []
datatype_triples entity (Some datatype) = type_triples entity datatype

-- the property as a predicate of a namespace
abbrev pub predicate_triple : EntityId → Predicate → Prefix → Triple
predicate_triple x predicate prefix = about (entity_term x) predicate (id_term prefix x)

-- the property as a predicate of each of the namespaces
abbrev pub predicate_triples : EntityId → List (Predicate × Prefix) → List Triple
predicate_triples x predicates = flat_map (λ p. predicate_triple x p.0 p.1 ∷ []) predicates

abbrev pub value_predicates : EntityId → List Triple
value_predicates x =
    predicate_triple x Say.DirectClaim Wdt
    ∷ predicate_triple x Say.Claim P
    ∷ predicate_triple x Say.StatementProperty Ps
    ∷ predicate_triple x Say.StatementValue Psv ∷ []

abbrev pub other_predicates : EntityId → List Triple
other_predicates x =
    predicate_triple x Say.Qualifier Pq
    ∷ predicate_triple x Say.QualifierValue Pqv
    ∷ predicate_triple x Say.Reference Pr
    ∷ predicate_triple x Say.ReferenceValue Prv
    ∷ predicate_triple x Say.Novalue Wdno ∷ []

-- what is said of a property; an item or a lexeme is none
abbrev pub property_triples_of : IdKind → EntityId → Option (List ℕ) → List Triple
property_triples_of Letter.P x datatype = datatype_triples (entity_term x) datatype ++ value_predicates x ++ other_predicates x
property_triples_of Letter.Q x datatype = []
property_triples_of Letter.L x datatype = []

abbrev pub property_triples : EntityId → Option (List ℕ) → List Triple
property_triples x datatype = property_triples_of x.kind x datatype
