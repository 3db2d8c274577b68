-- What a page says of its entity, its class and its texts, and what an item's or a property's page says of its dataset.
use Rattle.std.specs.Prelude.{ℕ, List, [], ◌∷◌, ◌++◌, length}
use Rattle.std.specs.List.{flat_map}
use Rattle.rdf_term.specs.declared.term.Term.{Term}
use Rattle.rdf_term.specs.declared.triple.Triple.{Triple}
use Rattle.entity_model.specs.declared.id.EntityId.{EntityId}
use Rattle.entity_model.specs.declared.id.IdKind.{IdKind}
use Rattle.entity_model.specs.declared.id.IdKind.TheVariants.{P, Q, L}
use Rattle.entity_model.specs.declared.value.Tagged.{Tagged}
use Rattle.entity_model.specs.declared.entity.Entity.{Entity}
use Rattle.rdf_vocabulary.specs.declared.predicate.Predicate.{Predicate}
use Rattle.rdf_vocabulary.specs.declared.predicate.Predicate.TheVariants as Say
use Rattle.rdf_vocabulary.specs.declared.resource.Resource.{Resource}
use Rattle.rdf_vocabulary.specs.declared.resource.Resource.TheVariants.{Item, Property, Lexeme}
use Rattle.rdf_vocabulary.specs.Predicate.{about}
use Rattle.rdf_vocabulary.specs.Prefix.{entity_term}
use Rattle.rdf_vocabulary.specs.Resource.{class_triple}
use Rattle.page_rdf.specs.Dataset.{change_triples, dataset_term, number_term, number_triples, page_triples}
use Rattle.page_rdf.specs.Texts.{tagged_term}

-- the class of an entity, by the letter of its id
abbrev pub class_of : IdKind → Resource
class_of P = Property
class_of Q = Item
class_of L = Lexeme

abbrev pub class_triples : EntityId → List Triple
class_triples x = class_triple (entity_term x) (class_of x.kind) ∷ []

-- a text of an entity that has one predicate
abbrev pub tagged_triples : Predicate → Term → Tagged → List Triple
tagged_triples predicate entity t = about entity predicate (tagged_term t) ∷ []

-- a label, a description and an alias
abbrev pub label_triples : Term → Tagged → List Triple
label_triples entity t =
    about entity Say.Label (tagged_term t) ∷ about entity Say.PrefLabel (tagged_term t) ∷ about entity Say.Name (tagged_term t) ∷ []

abbrev pub description_triples : Term → Tagged → List Triple
description_triples entity t = about entity Say.Description (tagged_term t) ∷ []

abbrev pub alias_triples : Term → Tagged → List Triple
alias_triples entity t = about entity Say.AltLabel (tagged_term t) ∷ []

-- the class and the texts of an entity
abbrev pub text_triples : EntityId → Entity → List Triple
text_triples x e =
    class_triples x
    ++ flat_map (label_triples (entity_term x)) e.labels
    ++ flat_map (description_triples (entity_term x)) e.descriptions
    ++ flat_map (alias_triples (entity_term x)) e.aliases

-- how many site links an item has
abbrev pub link_count : IdKind → Term → ℕ → List Triple
link_count P dataset n = []
link_count Q dataset n = about dataset Say.Sitelinks (number_term n) ∷ []
link_count L dataset n = []

-- what is said of the dataset of the revision's page
abbrev pub dataset_triples : EntityId → ℕ → Entity → List Triple
dataset_triples x rev e =
    page_triples x
    ++ number_triples (dataset_term x) rev e.statements
    ++ link_count x.kind (dataset_term x) (length e.links)
    ++ change_triples (dataset_term x) e.modified
