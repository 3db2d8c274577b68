-- Which entity the words of the vocabulary and the names in a namespace belong to.
use Rattle.std.proofs.Common.{◌≡◌, ◌≢◌, ℕ, List, ◌∷◌, Some, None, refl, sym, ◌∙◌, ap, codes}
use Rattle.std.specs.Fmt.{decimal, digits}
use Rattle.entity_model.specs.declared.id.IdKind.{IdKind}
use Rattle.entity_model.specs.declared.id.IdKind.TheVariants.{P, Q, L}
use Rattle.entity_model.specs.{declared.id.EntityId.EntityId, EntityId.IsId, IdKind.letter_of}
use Rattle.rdf_vocabulary.specs.declared.predicate.Predicate.{Predicate}
use Rattle.rdf_vocabulary.specs.declared.predicate.Predicate.TheVariants as Predicates
use Rattle.rdf_vocabulary.specs.declared.prefix.Prefix.{Prefix}
use Rattle.rdf_vocabulary.specs.declared.prefix.Prefix.TheVariants as Prefixes
use Rattle.rdf_vocabulary.specs.declared.resource.Resource.{Resource}
use Rattle.rdf_vocabulary.specs.declared.resource.Resource.TheVariants as Resources
use Rattle.rdf_vocabulary.specs.Predicate.{predicate_term, predicate_text}
use Rattle.rdf_vocabulary.specs.Prefix.{id_term, prefix_text, prefixed}
use Rattle.rdf_vocabulary.specs.Resource.{resource_term, resource_text}
use Rattle.shared_triples.specs.Home.{home, named_id, named_in, without_prefix}
use Rattle.shared_triples.proofs.Homes.{home-entity}

-- no word belongs to an entity
pub predicate_home : (word : Predicate) → None ≡ home (predicate_term word)
unfolding home predicate_text
predicate_home word = elim word as (λ w. None ≡ home (predicate_term w)) [ Predicates.RdfType ↦ refl | _ ↦ refl ]

pub resource_home : (word : Resource) → None ≡ home (resource_term word)
unfolding home resource_text
resource_home word = elim word as (λ w. None ≡ home (resource_term w)) [ Resources.Item ↦ refl | _ ↦ refl ]

pub ruleset words = (predicate_home, resource_home)

-- names of entities and of statements do, and no other names
pub entity_name : (name : List ℕ) → named_in (Some name) ≡ home (prefixed Prefixes.Wd name)
unfolding home prefix_text
entity_name name = refl

pub statement_name : (name : List ℕ) → named_id name ≡ home (prefixed Prefixes.Wds name)
unfolding home prefix_text
statement_name name = refl

pub other_name : (prefix : Prefix) → prefix ≢ Prefixes.Wd → prefix ≢ Prefixes.Wds → (name : List ℕ) → None ≡ home (prefixed prefix name)
unfolding home prefix_text
other_name prefix = elim prefix as (λ p. p ≢ Prefixes.Wd → p ≢ Prefixes.Wds → (name : List ℕ) → None ≡ home (prefixed p name)) [
  | Prefixes.Wd ↦ λ h k name. absurd (h refl)
  | Prefixes.Wds ↦ λ h k name. absurd (k refl)
  | _ ↦ λ h k name. refl
]

not_statement : (kind : IdKind) (rest : List ℕ) → letter_of kind ∷ rest ≡ without_prefix (codes "statement/") (letter_of kind ∷ rest)
not_statement P rest = refl
not_statement Q rest = refl
not_statement L rest = refl

-- an id in either namespace is read back
pub entity_id : (id : EntityId) → IsId id → Some id ≡ home (id_term Prefixes.Wd id)
unfolding prefix_text
entity_id id is = sym (home-entity id is)

pub statement_id : (id : EntityId) → IsId id → Some id ≡ home (id_term Prefixes.Wds id)
unfolding home prefix_text
statement_id id is = sym (ap named_id (not_statement id.kind (decimal id.number)) ∙ home-entity id is)

-- there is none with the number 0
none_named : (kind : IdKind) → None ≡ named_id (letter_of kind ∷ decimal 0)
unfolding digits
none_named P = refl
none_named Q = refl
none_named L = refl

none_in_entities : (kind : IdKind) → None ≡ named_in (Some (letter_of kind ∷ decimal 0))
unfolding digits
none_in_entities P = refl
none_in_entities Q = refl
none_in_entities L = refl

pub no_id : (prefix : Prefix) (id : EntityId) → id.number ≡ 0 → None ≡ home (id_term prefix id)
unfolding home prefix_text
no_id prefix id zero = elim prefix as (λ p. None ≡ home (id_term p id)) [
  | Prefixes.Wd ↦ none_in_entities id.kind ∙ ap (λ n. named_in (Some (letter_of id.kind ∷ decimal n))) (sym zero)
  | Prefixes.Wds ↦ none_named id.kind ∙ ap (λ n. named_id (letter_of id.kind ∷ decimal n)) (sym zero)
  | _ ↦ refl
]
