-- The dump again, rule by rule: which triples the document of an entity says. Each case is a rule of the RDF dump format.
use Rattle.std.specs.Prelude.{◌≡◌, ℕ, List, length, Some}
use Rattle.sorted_sets.specs.Rising.{In}
use Rattle.rdf_term.specs.declared.term.Term.TheVariants.{Plain}
use Rattle.rdf_term.specs.declared.triple.Triple.{Triple}
use Rattle.entity_model.specs.declared.id.EntityId.{EntityId}
use Rattle.entity_model.specs.declared.id.IdKind.TheVariants.{P, Q}
use Rattle.entity_model.specs.declared.value.Tagged.{Tagged}
use Rattle.entity_model.specs.declared.statement.Statement.{Statement}
use Rattle.entity_model.specs.declared.entity.Entity.{Entity}
use Rattle.entity_model.specs.declared.entity.Link.{Link}
use Rattle.entity_model.specs.declared.document.Document.{Document}
use Rattle.entity_model.specs.declared.document.Document.TheVariants.{Entity as AnEntity, Redirect, Lexeme as ALexeme}
use Rattle.entity_model.specs.declared.mapping.MappingVersion.{MappingVersion}
use Rattle.rdf_vocabulary.specs.declared.datatype.Datatype.TheVariants.{DateTime}
use Rattle.rdf_vocabulary.specs.declared.predicate.Predicate.TheVariants as Say
use Rattle.rdf_vocabulary.specs.declared.resource.Resource.TheVariants.{Dataset, PublicDomain}
use Rattle.rdf_vocabulary.specs.Datatype.{typed}
use Rattle.rdf_vocabulary.specs.Predicate.{about}
use Rattle.rdf_vocabulary.specs.Prefix.{entity_term}
use Rattle.rdf_vocabulary.specs.Resource.{class_triple, resource_term}
use Rattle.sitelinks.specs.Article.{article_triples}
use Rattle.statement_rdf.specs.Gives.{StatementGives}
use Rattle.statement_facts.specs.Ranking.{is_best}
use Rattle.entity_rdf.specs.LexemeGives.{LexemeGives}
use Rattle.page_rdf.specs.Dataset.{dataset_term, format_version, identifiers, number_term}
use Rattle.page_rdf.specs.Texts.{tagged_term}
use Rattle.page_rdf.specs.About.{class_of}
use Rattle.page_rdf.specs.Property.{other_predicates, type_triples, value_predicates}

-- the document of an entity says the triple
pub data EntityGives (version : MappingVersion) (x : EntityId) (rev : ℕ) (e : Entity) (t : Triple) : Type 0 where
  class : t ≡ class_triple (entity_term x) (class_of x.kind) → EntityGives version x rev e t
  label : (l : Tagged) → In l e.labels → t ≡ about (entity_term x) Say.Label (tagged_term l) → EntityGives version x rev e t
  preferred_label : (l : Tagged) → In l e.labels → t ≡ about (entity_term x) Say.PrefLabel (tagged_term l) → EntityGives version x rev e t
  name : (l : Tagged) → In l e.labels → t ≡ about (entity_term x) Say.Name (tagged_term l) → EntityGives version x rev e t
  description : (d : Tagged) → In d e.descriptions → t ≡ about (entity_term x) Say.Description (tagged_term d) → EntityGives version x rev e t
  alternative_label : (a : Tagged) → In a e.aliases → t ≡ about (entity_term x) Say.AltLabel (tagged_term a) → EntityGives version x rev e t
  dataset : t ≡ class_triple (dataset_term x) Dataset → EntityGives version x rev e t
  dataset_about : t ≡ about (dataset_term x) Say.About (entity_term x) → EntityGives version x rev e t
  license : t ≡ about (dataset_term x) Say.License (resource_term PublicDomain) → EntityGives version x rev e t
  format : t ≡ about (dataset_term x) Say.SoftwareVersion (Plain format_version) → EntityGives version x rev e t
  revision : t ≡ about (dataset_term x) Say.Version (number_term rev) → EntityGives version x rev e t
  statement_count : t ≡ about (dataset_term x) Say.Statements (number_term (length e.statements)) → EntityGives version x rev e t
  identifier_count : t ≡ about (dataset_term x) Say.Identifiers (number_term (identifiers e.statements)) → EntityGives version x rev e t
  link_count : x.kind ≡ Q → t ≡ about (dataset_term x) Say.Sitelinks (number_term (length e.links)) → EntityGives version x rev e t
  modified : (time : List ℕ) → e.modified ≡ Some time → t ≡ about (dataset_term x) Say.DateModified (typed time DateTime) → EntityGives version x rev e t
  property_type : (datatype : List ℕ) → x.kind ≡ P → e.datatype ≡ Some datatype → In t (type_triples (entity_term x) datatype) → EntityGives version x rev e t
  value_predicate : x.kind ≡ P → In t (value_predicates x) → EntityGives version x rev e t
  other_predicate : x.kind ≡ P → In t (other_predicates x) → EntityGives version x rev e t
  article : (l : Link) → In l e.links → In t (article_triples x l) → EntityGives version x rev e t
  statement : (s : Statement) → In s e.statements → StatementGives version (entity_term x) s (is_best e.statements s) t → EntityGives version x rev e t

-- the document says the triple: that of a redirect, that it is the entity which is named, and that of a lexeme by rules of its own
abbrev pub Gives : MappingVersion → EntityId → ℕ → Document → Triple → Type 0
Gives version x rev (AnEntity e) t = EntityGives version x rev e t
Gives version x rev (Redirect y) t = t ≡ about (entity_term x) Say.SameAs (entity_term y)
Gives version x rev (ALexeme l) t = LexemeGives version x rev l t
