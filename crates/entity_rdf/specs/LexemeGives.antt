-- The dump of a lexeme again, rule by rule: which triples its page says.
use Rattle.std.specs.Prelude.{◌≡◌, ℕ, List, length, Some}
use Rattle.sorted_sets.specs.Rising.{In}
use Rattle.rdf_term.specs.declared.term.Term.{Term}
use Rattle.rdf_term.specs.declared.term.Term.TheVariants.{Plain}
use Rattle.rdf_term.specs.declared.triple.Triple.{Triple}
use Rattle.entity_model.specs.declared.id.EntityId.{EntityId}
use Rattle.entity_model.specs.declared.mapping.MappingVersion.{MappingVersion}
use Rattle.entity_model.specs.declared.statement.Statement.{Statement}
use Rattle.entity_model.specs.declared.value.Tagged.{Tagged}
use Rattle.rdf_vocabulary.specs.declared.datatype.Datatype.TheVariants.{DateTime}
use Rattle.rdf_vocabulary.specs.declared.predicate.Predicate.TheVariants as Say
use Rattle.rdf_vocabulary.specs.declared.resource.Resource.TheVariants.{Dataset, PublicDomain}
use Rattle.rdf_vocabulary.specs.Datatype.{typed}
use Rattle.rdf_vocabulary.specs.Predicate.{about}
use Rattle.rdf_vocabulary.specs.Prefix.{entity_term}
use Rattle.rdf_vocabulary.specs.Resource.{class_triple, resource_term}
use Rattle.statement_rdf.specs.Gives.{StatementGives}
use Rattle.statement_facts.specs.Ranking.{is_best}
use Rattle.page_rdf.specs.Dataset.{dataset_term, format_version, identifiers, number_term}
use Rattle.page_rdf.specs.Texts.{tagged_term}
use Rattle.rdf_vocabulary.specs.declared.resource.Resource.TheVariants as Classes
use Rattle.entity_model.specs.declared.lexeme.Lexeme.{Lexeme}
use Rattle.entity_model.specs.declared.lexeme.Part.{Part}
use Rattle.rdf_vocabulary.specs.declared.predicate.Predicate.{Predicate}
use Rattle.page_rdf.specs.Part.{part_term}

-- what is said of a lexeme itself
pub data EntryGives (x : EntityId) (l : Lexeme) (t : Triple) : Type 0 where
  lexical_entry : t ≡ class_triple (entity_term x) Classes.LexicalEntry → EntryGives x l t
  lexeme : t ≡ class_triple (entity_term x) Classes.Lexeme → EntryGives x l t
  language : t ≡ about (entity_term x) Say.Language (entity_term l.language) → EntryGives x l t
  category : t ≡ about (entity_term x) Say.LexicalCategory (entity_term l.category) → EntryGives x l t

-- a text of a node, which is a label too
pub data TextGives (predicate : Predicate) (node : Term) (text : Tagged) (t : Triple) : Type 0 where
  spelled : t ≡ about node predicate (tagged_term text) → TextGives predicate node text t
  label : t ≡ about node Say.Label (tagged_term text) → TextGives predicate node text t

-- what is said of the page
pub data PageGives (x : EntityId) (rev : ℕ) (l : Lexeme) (t : Triple) : Type 0 where
  dataset : t ≡ class_triple (dataset_term x) Dataset → PageGives x rev l t
  dataset_about : t ≡ about (dataset_term x) Say.About (entity_term x) → PageGives x rev l t
  license : t ≡ about (dataset_term x) Say.License (resource_term PublicDomain) → PageGives x rev l t
  format : t ≡ about (dataset_term x) Say.SoftwareVersion (Plain format_version) → PageGives x rev l t
  revision : t ≡ about (dataset_term x) Say.Version (number_term rev) → PageGives x rev l t
  statement_count : t ≡ about (dataset_term x) Say.Statements (number_term (length l.statements)) → PageGives x rev l t
  identifier_count : t ≡ about (dataset_term x) Say.Identifiers (number_term (identifiers l.statements)) → PageGives x rev l t
  modified : (time : List ℕ) → l.modified ≡ Some time → t ≡ about (dataset_term x) Say.DateModified (typed time DateTime) → PageGives x rev l t

-- what is said of a form of the entity
pub data FormGives (entity : Term) (f : Part) (t : Triple) : Type 0 where
  lexical_form : t ≡ about entity Say.LexicalForm (part_term f.id) → FormGives entity f t
  form_class : t ≡ class_triple (part_term f.id) Classes.Form → FormGives entity f t
  wikibase_form : t ≡ class_triple (part_term f.id) Classes.WikibaseForm → FormGives entity f t
  representation : (text : Tagged) → In text f.texts → TextGives Say.Representation (part_term f.id) text t → FormGives entity f t
  feature : (item : EntityId) → In item f.features → t ≡ about (part_term f.id) Say.GrammaticalFeature (entity_term item) → FormGives entity f t

-- what is said of a sense of the entity
pub data SenseGives (entity : Term) (s : Part) (t : Triple) : Type 0 where
  lexical_sense : t ≡ about entity Say.Sense (part_term s.id) → SenseGives entity s t
  sense_class : t ≡ class_triple (part_term s.id) Classes.LexicalSense → SenseGives entity s t
  wikibase_sense : t ≡ class_triple (part_term s.id) Classes.WikibaseSense → SenseGives entity s t
  gloss : (text : Tagged) → In text s.texts → TextGives Say.Definition (part_term s.id) text t → SenseGives entity s t

-- a statement of a subject says the triple, best or not among those of the subject alone
pub data OwnGives (version : MappingVersion) (subject : Term) (all : List Statement) (t : Triple) : Type 0 where
  one : (s : Statement) → In s all → StatementGives version subject s (is_best all s) t → OwnGives version subject all t

-- the page of a lexeme says the triple
pub data LexemeGives (version : MappingVersion) (x : EntityId) (rev : ℕ) (l : Lexeme) (t : Triple) : Type 0 where
  entry : EntryGives x l t → LexemeGives version x rev l t
  lemma : (text : Tagged) → In text l.lemmas → TextGives Say.Lemma (entity_term x) text t → LexemeGives version x rev l t
  page : PageGives x rev l t → LexemeGives version x rev l t
  form : (f : Part) → In f l.forms → FormGives (entity_term x) f t → LexemeGives version x rev l t
  sense : (s : Part) → In s l.senses → SenseGives (entity_term x) s t → LexemeGives version x rev l t
  statement : OwnGives version (entity_term x) l.statements t → LexemeGives version x rev l t
  form_statement : (f : Part) → In f l.forms → OwnGives version (part_term f.id) f.statements t → LexemeGives version x rev l t
  sense_statement : (s : Part) → In s l.senses → OwnGives version (part_term s.id) s.statements t → LexemeGives version x rev l t
