-- The triples of statements.
use Rattle.std.specs.Prelude.{ℕ, Bool, if◌then◌else◌, List, [], ◌∷◌, ◌++◌}
use Rattle.std.specs.List.{flat_map}
use Rattle.rdf_term.specs.declared.term.Term.{Term}
use Rattle.rdf_term.specs.declared.triple.Triple.{Triple}
use Rattle.rdf_term.specs.Triple.{triple}
use Rattle.entity_model.specs.declared.snak.Snak.{Snak}
use Rattle.entity_model.specs.declared.snak.Content.{Content}
use Rattle.entity_model.specs.declared.snak.Content.TheVariants.{Value, NoValue, SomeValue}
use Rattle.entity_model.specs.declared.statement.Rank.{Rank}
use Rattle.entity_model.specs.declared.statement.Rank.TheVariants.{Deprecated, Normal, Preferred}
use Rattle.entity_model.specs.declared.statement.Reference.{Reference}
use Rattle.entity_model.specs.declared.statement.Statement.{Statement}
use Rattle.rdf_vocabulary.specs.declared.predicate.Predicate.TheVariants as Predicates
use Rattle.rdf_vocabulary.specs.declared.prefix.Prefix.TheVariants.{P, Wdt}
use Rattle.rdf_vocabulary.specs.declared.resource.Resource.{Resource}
use Rattle.rdf_vocabulary.specs.declared.resource.Resource.TheVariants as Resources
use Rattle.rdf_vocabulary.specs.Predicate.{predicate_term}
use Rattle.rdf_vocabulary.specs.Prefix.{id_term}
use Rattle.rdf_vocabulary.specs.Resource.{class_triple, resource_term}
use Rattle.value_nodes.specs.Said.{object_triples}
use Rattle.value_nodes.specs.Terms.{simple_term}
use Rattle.entity_model.specs.declared.mapping.MappingVersion.{MappingVersion}
use Rattle.statement_facts.specs.declared.role.Role.TheVariants as Roles
use Rattle.statement_facts.specs.Node.{statement_node, reference_node}
use Rattle.statement_facts.specs.Label.{unknown_node}
use Rattle.statement_rdf.specs.Snak.{no_value_triple, snak_triples}

-- the term of a rank
abbrev pub rank_resource : Rank → Resource
rank_resource Deprecated = Resources.DeprecatedRank
rank_resource Normal = Resources.NormalRank
rank_resource Preferred = Resources.PreferredRank

-- the triples that hold only where the statement is best
abbrev pub where_best : Bool → List Triple → List Triple
where_best best triples = if best then triples else []

-- the entity has the statement; the statement's class and rank, and whether it is best
abbrev pub head_triples : Term → Term → Statement → Bool → List Triple
head_triples entity node s best =
    (triple entity (id_term P s.property) node
    ∷ class_triple node Resources.Statement
    ∷ triple node (predicate_term Predicates.Rank) (resource_term (rank_resource s.rank)) ∷ [])
    ++ where_best best (class_triple node Resources.BestRank ∷ [])

-- what a best statement says of the entity itself
abbrev pub direct_content : Term → List ℕ → Snak → Content → List Triple
direct_content entity id snak (Value value) =
    object_triples entity (id_term Wdt snak.property) (simple_term snak.datatype value)
direct_content entity id snak NoValue = no_value_triple entity snak.property ∷ []
direct_content entity id snak SomeValue =
    triple entity (id_term Wdt snak.property) (unknown_node id Roles.Main snak) ∷ []

abbrev pub direct_triples : Term → List ℕ → Snak → List Triple
direct_triples entity id snak = direct_content entity id snak snak.content

-- what is stated, said of the statement, and where it is best of the entity too
abbrev pub main_triples : MappingVersion → Term → Term → Statement → Bool → List Triple
main_triples version entity node s best =
    snak_triples version node s.id Roles.Main s.main ++ where_best best (direct_triples entity s.id s.main)

-- the qualifiers, said of the statement
abbrev pub qualifier_triples : MappingVersion → Term → Statement → List Triple
qualifier_triples version node s = flat_map (snak_triples version node s.id Roles.Qualifier) s.qualifiers

-- the statement is from the source; the source's class
abbrev pub source_triples : Term → Term → List Triple
source_triples node source =
    triple node (predicate_term Predicates.WasDerivedFrom) source ∷ class_triple source Resources.Reference ∷ []

-- a reference of the statement with this id, and what it says of the source
abbrev pub reference_triples : MappingVersion → Term → List ℕ → Reference → List Triple
reference_triples version node id r =
    source_triples node (reference_node r.hash)
    ++ flat_map (snak_triples version (reference_node r.hash) id (Roles.Reference r.hash)) r.snaks

-- the triples of a statement that has this node
abbrev pub part_triples : MappingVersion → Term → Term → Statement → Bool → List Triple
part_triples version entity node s best =
    head_triples entity node s best
    ++ main_triples version entity node s best
    ++ qualifier_triples version node s
    ++ flat_map (reference_triples version node s.id) s.references

-- the triples of a statement of an entity, which may be any subject
abbrev pub statement_triples : MappingVersion → Term → Statement → Bool → List Triple
statement_triples version entity s best = part_triples version entity (statement_node s.id) s best
