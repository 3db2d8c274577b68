-- The triples of snaks and statements again, one by one: each case is a rule of the RDF dump format.
use Rattle.std.specs.Prelude.{◌≡◌, ℕ, Bool, true, List, Some}
use Rattle.sorted_sets.specs.Rising.{In}
use Rattle.rdf_term.specs.declared.term.Term.{Term}
use Rattle.rdf_term.specs.declared.triple.Triple.{Triple}
use Rattle.rdf_term.specs.Triple.{triple}
use Rattle.entity_model.specs.declared.snak.Snak.{Snak}
use Rattle.entity_model.specs.declared.snak.Content.TheVariants as Contents
use Rattle.entity_model.specs.declared.value.Value.{Value}
use Rattle.entity_model.specs.declared.statement.Reference.{Reference}
use Rattle.entity_model.specs.declared.statement.Statement.{Statement}
use Rattle.rdf_vocabulary.specs.declared.predicate.Predicate.TheVariants as Predicates
use Rattle.rdf_vocabulary.specs.declared.prefix.Prefix.TheVariants.{P, Wdt, Wdv, Wdno}
use Rattle.rdf_vocabulary.specs.declared.resource.Resource.TheVariants as Resources
use Rattle.rdf_vocabulary.specs.Predicate.{predicate_term}
use Rattle.rdf_vocabulary.specs.Prefix.{id_term, prefixed}
use Rattle.rdf_vocabulary.specs.Resource.{resource_term}
use Rattle.value_nodes.specs.Name.{node_name}
use Rattle.value_nodes.specs.Nodes.{node_triples}
use Rattle.value_nodes.specs.Terms.{simple_term}
use Rattle.entity_model.specs.declared.mapping.MappingVersion.{MappingVersion}
use Rattle.statement_facts.specs.declared.role.Role.{Role}
use Rattle.statement_facts.specs.declared.role.Role.TheVariants as Roles
use Rattle.statement_facts.specs.Node.{statement_node, reference_node}
use Rattle.statement_facts.specs.Role.{value_prefix, node_prefix}
use Rattle.statement_facts.specs.Label.{unknown_node}
use Rattle.statement_rdf.specs.Statement.{rank_resource}

-- a snak in this role of the statement with this id says the triple of its subject, or of the node of its value
pub data SnakGives (version : MappingVersion) (subject : Term) (id : List ℕ) (role : Role) (snak : Snak) (t : Triple) : Type 0 where
  simple_value : (value : Value) (term : Term) → snak.content ≡ Contents.Value value → simple_term snak.datatype value ≡ Some term
      → t ≡ triple subject (id_term (value_prefix role) snak.property) term → SnakGives version subject id role snak t
  value_node : (value : Value) (name : List ℕ) → snak.content ≡ Contents.Value value → node_name version value ≡ Some name
      → t ≡ triple subject (id_term (node_prefix role) snak.property) (prefixed Wdv name) → SnakGives version subject id role snak t
  node_part : (value : Value) → snak.content ≡ Contents.Value value → In t (node_triples version value) → SnakGives version subject id role snak t
  no_value : snak.content ≡ Contents.NoValue
      → t ≡ triple subject (predicate_term Predicates.RdfType) (id_term Wdno snak.property) → SnakGives version subject id role snak t
  unknown_value : snak.content ≡ Contents.SomeValue
      → t ≡ triple subject (id_term (value_prefix role) snak.property) (unknown_node id role snak) → SnakGives version subject id role snak t

-- the snak of a best statement says the triple of the entity
pub data DirectGives (entity : Term) (id : List ℕ) (snak : Snak) (t : Triple) : Type 0 where
  direct_value : (value : Value) (term : Term) → snak.content ≡ Contents.Value value → simple_term snak.datatype value ≡ Some term
      → t ≡ triple entity (id_term Wdt snak.property) term → DirectGives entity id snak t
  direct_no_value : snak.content ≡ Contents.NoValue
      → t ≡ triple entity (predicate_term Predicates.RdfType) (id_term Wdno snak.property) → DirectGives entity id snak t
  direct_unknown : snak.content ≡ Contents.SomeValue
      → t ≡ triple entity (id_term Wdt snak.property) (unknown_node id Roles.Main snak) → DirectGives entity id snak t

-- a statement of an entity says the triple
pub data StatementGives (version : MappingVersion) (entity : Term) (s : Statement) (best : Bool) (t : Triple) : Type 0 where
  claim : t ≡ triple entity (id_term P s.property) (statement_node s.id) → StatementGives version entity s best t
  statement_class : t ≡ triple (statement_node s.id) (predicate_term Predicates.RdfType) (resource_term Resources.Statement)
      → StatementGives version entity s best t
  statement_rank : t ≡ triple (statement_node s.id) (predicate_term Predicates.Rank) (resource_term (rank_resource s.rank))
      → StatementGives version entity s best t
  best_rank : best ≡ true
      → t ≡ triple (statement_node s.id) (predicate_term Predicates.RdfType) (resource_term Resources.BestRank) → StatementGives version entity s best t
  main_snak : SnakGives version (statement_node s.id) s.id Roles.Main s.main t → StatementGives version entity s best t
  best_snak : best ≡ true → DirectGives entity s.id s.main t → StatementGives version entity s best t
  qualifier_snak : (snak : Snak) → In snak s.qualifiers → SnakGives version (statement_node s.id) s.id Roles.Qualifier snak t
      → StatementGives version entity s best t
  derived : (r : Reference) → In r s.references
      → t ≡ triple (statement_node s.id) (predicate_term Predicates.WasDerivedFrom) (reference_node r.hash) → StatementGives version entity s best t
  source_class : (r : Reference) → In r s.references
      → t ≡ triple (reference_node r.hash) (predicate_term Predicates.RdfType) (resource_term Resources.Reference) → StatementGives version entity s best t
  source_snak : (r : Reference) (snak : Snak) → In r s.references → In snak r.snaks
      → SnakGives version (reference_node r.hash) s.id (Roles.Reference r.hash) snak t → StatementGives version entity s best t
