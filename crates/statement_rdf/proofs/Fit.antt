-- The triples of small statements have fit and short terms.
use Rattle.std.proofs.Common.{ℕ, Bool, true, false, List, [], ◌∷◌, ◌++◌, Option, Some, None, arith}
use Rattle.std.specs.Prelude.{IfSome, option_map}
use Rattle.std.specs.List.{All, AllByRecursion, flat_map}
use Rattle.std.proofs.lemmas.List.Elements.{recursion_from_All}
use Rattle.rdf_term.specs.declared.term.Term.{Term}
use Rattle.rdf_term.specs.declared.triple.Triple.{Triple}
use Rattle.rdf_term.specs.Fit.{IsFitAndShort, HasFitAndShortTerms}
use Rattle.entity_model.specs.declared.id.EntityId.{EntityId}
use Rattle.entity_model.specs.declared.snak.Snak.{Snak}
use Rattle.entity_model.specs.declared.snak.Content.{Content}
use Rattle.entity_model.specs.declared.snak.Content.TheVariants as Contents
use Rattle.entity_model.specs.declared.statement.Reference.{Reference}
use Rattle.entity_model.specs.declared.statement.Statement.{Statement}
use Rattle.entity_model.specs.Snak.{IsSmallContent, IsSmallSnak}
use Rattle.entity_model.specs.Statement.{IsSmallReference, IsSmallStatement}
use Rattle.rdf_vocabulary.specs.declared.predicate.Predicate.TheVariants as Predicates
use Rattle.rdf_vocabulary.specs.declared.prefix.Prefix.TheVariants.{P, Wdno, Wdt, Wdv}
use Rattle.rdf_vocabulary.specs.declared.resource.Resource.TheVariants as Resources
use Rattle.rdf_vocabulary.specs.Fields.{hashed_name}
use Rattle.rdf_vocabulary.specs.Prefix.{id_term}
use Rattle.rdf_vocabulary.specs.Resource.{class_triple}
use Rattle.rdf_vocabulary.proofs.Fit.{AreFit, class_fit, join, join_all, predicate_fit, resource_fit, prefixed_fit}
use Rattle.rdf_vocabulary.proofs.Ids.{id_term_fit}
use Rattle.rdf_vocabulary.proofs.NamesFit.{hashed_name_iri, length-hashed_name}
use Rattle.value_nodes.specs.Name.{name_fields, node_name}
use Rattle.value_nodes.specs.Nodes.{node_triples}
use Rattle.value_nodes.specs.Said.{triple, object_triples}
use Rattle.value_nodes.specs.Terms.{simple_term}
use Rattle.value_nodes.proofs.Fit.{simple_term_fit}
use Rattle.value_nodes.proofs.NodesFit.{node_triples_fit}
use Rattle.entity_model.specs.declared.mapping.MappingVersion.{MappingVersion}
use Rattle.statement_facts.specs.declared.role.Role.{Role}
use Rattle.statement_facts.specs.declared.role.Role.TheVariants as Roles
use Rattle.statement_facts.specs.Node.{statement_node, reference_node}
use Rattle.statement_facts.specs.Ranking.{is_best}
use Rattle.statement_facts.specs.Role.{value_prefix, node_prefix}
use Rattle.statement_rdf.specs.Snak.{link_triples, no_value_triple, content_triples, snak_triples}
use Rattle.statement_rdf.specs.Statement.{direct_content, direct_triples, head_triples, main_triples, qualifier_triples, rank_resource, reference_triples, statement_triples, where_best}
use Rattle.statement_rdf.specs.Statements.{judged_triples, statements_triples}
use Rattle.statement_facts.proofs.NamesFit.{statement_node_fit, reference_node_fit, blank_fit}

triple_fit : (subject predicate object : Term) → IsFitAndShort subject → IsFitAndShort predicate → IsFitAndShort object → HasFitAndShortTerms (triple subject predicate object)
triple_fit subject predicate object s p o = record { subject = s; predicate = p; object = o }

object_fit : (subject predicate : Term) (object : Option Term) → IsFitAndShort subject → IsFitAndShort predicate → IfSome object IsFitAndShort → AreFit (object_triples subject predicate object)
object_fit subject predicate None s p o = tt
object_fit subject predicate (Some object) s p o = (triple_fit subject predicate object s p o, tt)

link_fit : (subject predicate : Term) (fields : Option (List ℕ)) → IsFitAndShort subject → IsFitAndShort predicate → AreFit (link_triples subject predicate (option_map hashed_name fields))
link_fit subject predicate None s p = tt
link_fit subject predicate (Some fields) s p =
    let node = prefixed_fit Wdv (hashed_name fields) (hashed_name_iri fields) (omega (arith, length-hashed_name fields)) in
    (triple_fit subject predicate _ s p node, tt)

no_value_fit : (subject : Term) (property : EntityId) → IsFitAndShort subject → HasFitAndShortTerms (no_value_triple subject property)
no_value_fit subject property s = triple_fit subject _ _ s (predicate_fit Predicates.RdfType) (id_term_fit Wdno property)

content_fit : (version : MappingVersion) (subject : Term) (id : List ℕ) (role : Role) (snak : Snak) (content : Content) → IsFitAndShort subject → IsSmallContent content → AreFit (content_triples version subject id role snak content)
content_fit version subject id role snak (Contents.Value value) s small =
    let by_value = id_term (value_prefix role) snak.property in
    let by_node = id_term (node_prefix role) snak.property in
    let objects = object_triples subject by_value (simple_term snak.datatype value) in
    let links = link_triples subject by_node (node_name version value) in
    join (objects ++ links) (node_triples version value)
    (join objects links
    (object_fit subject by_value (simple_term snak.datatype value) s (id_term_fit (value_prefix role) snak.property) (simple_term_fit snak.datatype value small))
    (link_fit subject by_node (name_fields version value) s (id_term_fit (node_prefix role) snak.property)))
    (node_triples_fit version value small)
content_fit version subject id role snak Contents.NoValue s small = (no_value_fit subject snak.property s, tt)
content_fit version subject id role snak Contents.SomeValue s small =
    (triple_fit subject _ _ s (id_term_fit (value_prefix role) snak.property) (blank_fit _), tt)

-- the triples of a small snak
pub snak_triples_fit : (version : MappingVersion) (subject : Term) (id : List ℕ) (role : Role) (snak : Snak) → IsFitAndShort subject → IsSmallSnak snak → AreFit (snak_triples version subject id role snak)
snak_triples_fit version subject id role snak s small = content_fit version subject id role snak snak.content s small.content

snaks_fit : (version : MappingVersion) (subject : Term) (id : List ℕ) (role : Role) (snaks : List Snak) → IsFitAndShort subject → AllByRecursion IsSmallSnak snaks → AreFit (flat_map (snak_triples version subject id role) snaks)
snaks_fit version subject id role snaks s small =
    join_all IsSmallSnak (snak_triples version subject id role) snaks (λ snak h. snak_triples_fit version subject id role snak s h) small

best_fit : (best : Bool) (triples : List Triple) → AreFit triples → AreFit (where_best best triples)
best_fit true triples h = h
best_fit false triples h = tt

head_fit : (entity node : Term) (s : Statement) (best : Bool) → IsFitAndShort entity → IsFitAndShort node → AreFit (head_triples entity node s best)
head_fit entity node s best e n =
    let best_class = class_triple node Resources.BestRank ∷ [] in (
      triple_fit entity _ node e (id_term_fit P s.property) n,
      (
        class_fit node Resources.Statement n,
        (
          triple_fit node _ _ n (predicate_fit Predicates.Rank) (resource_fit (rank_resource s.rank)),
          best_fit best best_class (class_fit node Resources.BestRank n, tt),
        ),
      ),
    )

direct_fit : (entity : Term) (id : List ℕ) (snak : Snak) (content : Content) → IsFitAndShort entity → IsSmallContent content → AreFit (direct_content entity id snak content)
direct_fit entity id snak (Contents.Value value) e small =
    object_fit entity _ (simple_term snak.datatype value) e (id_term_fit Wdt snak.property) (simple_term_fit snak.datatype value small)
direct_fit entity id snak Contents.NoValue e small = (no_value_fit entity snak.property e, tt)
direct_fit entity id snak Contents.SomeValue e small =
    (triple_fit entity _ _ e (id_term_fit Wdt snak.property) (blank_fit _), tt)

main_fit : (version : MappingVersion) (entity node : Term) (s : Statement) (best : Bool) → IsFitAndShort entity → IsFitAndShort node → IsSmallSnak s.main → AreFit (main_triples version entity node s best)
main_fit version entity node s best e n small =
    let said = snak_triples version node s.id Roles.Main s.main in
    let direct = direct_triples entity s.id s.main in
    join said (where_best best direct) (snak_triples_fit version node s.id Roles.Main s.main n small)
    (best_fit best direct (direct_fit entity s.id s.main s.main.content e small.content))

reference_fit : (version : MappingVersion) (node : Term) (id : List ℕ) (r : Reference) → IsFitAndShort node → IsSmallReference r → AreFit (reference_triples version node id r)
reference_fit version node id r n small =
    let source = reference_node r.hash in
    let is_fit = reference_node_fit r.hash small.hash in (
      triple_fit node _ source n (predicate_fit Predicates.WasDerivedFrom) is_fit,
      (
        class_fit source Resources.Reference is_fit,
        snaks_fit version source id (Roles.Reference r.hash) r.snaks is_fit (recursion_from_All IsSmallSnak r.snaks small.snaks),
      ),
    )

-- the triples of a small statement
pub statement_triples_fit : (version : MappingVersion) (entity : Term) (s : Statement) (best : Bool) → IsFitAndShort entity → IsSmallStatement s → AreFit (statement_triples version entity s best)
statement_triples_fit version entity s best e small =
    let node = statement_node s.id in
    let n = statement_node_fit s.id small.id in
    let head = head_triples entity node s best in
    let main = main_triples version entity node s best in
    let qualifiers = qualifier_triples version node s in
    let references = flat_map (reference_triples version node s.id) s.references in
    join (head ++ main ++ qualifiers) references
    (join (head ++ main) qualifiers
    (join head main (head_fit entity node s best e n) (main_fit version entity node s best e n small.main))
    (snaks_fit version node s.id Roles.Qualifier s.qualifiers n (recursion_from_All IsSmallSnak s.qualifiers small.qualifiers)))
    (join_all IsSmallReference (reference_triples version node s.id) s.references (λ r h. reference_fit version node s.id r n h)
    (recursion_from_All IsSmallReference s.references small.references))

-- the triples of all statements of a subject
pub statements_fit : (version : MappingVersion) (subject : Term) (all : List Statement) → IsFitAndShort subject → All IsSmallStatement all → AreFit (statements_triples version subject all)
statements_fit version subject all n small =
    join_all IsSmallStatement (judged_triples version subject all) all (λ s is. statement_triples_fit version subject s (is_best all s) n is) (recursion_from_All IsSmallStatement all small)
