-- The triples of snaks.
use Rattle.std.specs.Prelude.{ℕ, List, [], ◌∷◌, ◌++◌, Option, Some, None}
use Rattle.rdf_term.specs.declared.term.Term.{Term}
use Rattle.rdf_term.specs.declared.triple.Triple.{Triple}
use Rattle.rdf_term.specs.Triple.{triple}
use Rattle.entity_model.specs.declared.id.EntityId.{EntityId}
use Rattle.entity_model.specs.declared.snak.Snak.{Snak}
use Rattle.entity_model.specs.declared.snak.Content.{Content}
use Rattle.entity_model.specs.declared.snak.Content.TheVariants as Contents
use Rattle.entity_model.specs.declared.value.Value.{Value}
use Rattle.rdf_vocabulary.specs.declared.predicate.Predicate.TheVariants.{RdfType}
use Rattle.rdf_vocabulary.specs.declared.prefix.Prefix.TheVariants.{Wdno, Wdv}
use Rattle.rdf_vocabulary.specs.Predicate.{predicate_term}
use Rattle.rdf_vocabulary.specs.Prefix.{id_term, prefixed}
use Rattle.value_nodes.specs.Name.{node_name}
use Rattle.value_nodes.specs.Nodes.{node_triples}
use Rattle.value_nodes.specs.Said.{object_triples}
use Rattle.value_nodes.specs.Terms.{simple_term}
use Rattle.entity_model.specs.declared.mapping.MappingVersion.{MappingVersion}
use Rattle.statement_facts.specs.Label.{unknown_node}
use Rattle.statement_facts.specs.declared.role.Role.{Role}
use Rattle.statement_facts.specs.Role.{value_prefix, node_prefix}

-- the triple that leads to the node of this name, where it is there
abbrev pub link_triples : Term → Term → Option (List ℕ) → List Triple
link_triples subject predicate None = []
link_triples subject predicate (Some name) = triple subject predicate (prefixed Wdv name) ∷ []

-- the subject has no value of the property: it is of the property's class of such subjects
abbrev pub no_value_triple : Term → EntityId → Triple
no_value_triple subject property = triple subject (predicate_term RdfType) (id_term Wdno property)

-- a value in this role: its simple term, its node and the node's own triples
abbrev pub value_triples : MappingVersion → Term → Role → Snak → Value → List Triple
value_triples version subject role snak value =
    object_triples subject (id_term (value_prefix role) snak.property) (simple_term snak.datatype value)
    ++ link_triples subject (id_term (node_prefix role) snak.property) (node_name version value)
    ++ node_triples version value

-- the triples of what a snak in this role says of its subject
abbrev pub content_triples : MappingVersion → Term → List ℕ → Role → Snak → Content → List Triple
content_triples version subject id role snak (Contents.Value value) = value_triples version subject role snak value
content_triples version subject id role snak Contents.NoValue = no_value_triple subject snak.property ∷ []
content_triples version subject id role snak Contents.SomeValue =
    triple subject (id_term (value_prefix role) snak.property) (unknown_node id role snak) ∷ []

-- the triples of a snak in this role of the statement with this id
abbrev pub snak_triples : MappingVersion → Term → List ℕ → Role → Snak → List Triple
snak_triples version subject id role snak = content_triples version subject id role snak snak.content
