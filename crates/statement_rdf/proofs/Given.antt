-- The triples of a statement are those that a rule gives.
use Rattle.std.proofs.Common.{◌≡◌, ℕ, inl, inr, Bool, true, false, List, [], ◌∷◌, ◌++◌, Option, Some, None, refl, subst, sym}
use Rattle.std.specs.Prelude.{◌↔◌}
use Rattle.std.specs.List.{flat_map}
use Rattle.sorted_sets.specs.Rising.{In}
use Rattle.rdf_term.specs.declared.term.Term.{Term}
use Rattle.rdf_term.specs.declared.triple.Triple.{Triple}
use Rattle.entity_model.specs.declared.snak.Snak.{Snak}
use Rattle.entity_model.specs.declared.snak.Content.{Content}
use Rattle.entity_model.specs.declared.snak.Content.TheVariants as Contents
use Rattle.entity_model.specs.declared.value.Value.{Value}
use Rattle.entity_model.specs.declared.statement.Reference.{Reference}
use Rattle.entity_model.specs.declared.statement.Statement.{Statement}
use Rattle.rdf_vocabulary.specs.declared.prefix.Prefix.TheVariants.{Wdt}
use Rattle.rdf_vocabulary.specs.declared.resource.Resource.TheVariants as Resources
use Rattle.rdf_vocabulary.specs.Prefix.{id_term}
use Rattle.rdf_vocabulary.specs.Resource.{class_triple}
use Rattle.value_nodes.specs.Name.{node_name}
use Rattle.value_nodes.specs.Nodes.{node_triples}
use Rattle.value_nodes.specs.Said.{object_triples}
use Rattle.value_nodes.specs.Terms.{simple_term}
use Rattle.entity_model.specs.declared.mapping.MappingVersion.{MappingVersion}
use Rattle.statement_facts.specs.declared.role.Role.{Role}
use Rattle.statement_facts.specs.declared.role.Role.TheVariants as Roles
use Rattle.statement_rdf.specs.Gives.{SnakGives, simple_value, value_node, node_part, no_value, unknown_value, DirectGives, direct_value, direct_no_value, direct_unknown, StatementGives, claim, statement_class, statement_rank, best_rank, main_snak, best_snak, qualifier_snak, derived, source_class, source_snak}
use Rattle.statement_facts.specs.Node.{statement_node, reference_node}
use Rattle.statement_facts.specs.Role.{value_prefix, node_prefix}
use Rattle.statement_rdf.specs.Snak.{link_triples, content_triples, snak_triples}
use Rattle.statement_rdf.specs.Statement.{direct_content, direct_triples, head_triples, main_triples, qualifier_triples, reference_triples, statement_triples, where_best}
use Rattle.statement_rdf.proofs.Members.{in_front, in_back, in_either, in_flat_map, flat_map_in}

module _ (version : MappingVersion) (subject : Term) (id : List ℕ) (role : Role) (snak : Snak) (t : Triple) where
  by_object : (value : Value) (found : Option Term) → snak.content ≡ Contents.Value value → simple_term snak.datatype value ≡ found → In t (object_triples subject (id_term (value_prefix role) snak.property) found) → SnakGives version subject id role snak t
  by_object value None is found h = absurd h
  by_object value (Some term) is found (inl e) = simple_value value term is found e
  by_object value (Some term) is found (inr h) = absurd h

  by_link : (value : Value) (found : Option (List ℕ)) → snak.content ≡ Contents.Value value → node_name version value ≡ found → In t (link_triples subject (id_term (node_prefix role) snak.property) found) → SnakGives version subject id role snak t
  by_link value None is found h = absurd h
  by_link value (Some name) is found (inl e) = value_node value name is found e
  by_link value (Some name) is found (inr h) = absurd h

  by_content : (content : Content) → snak.content ≡ content → In t (content_triples version subject id role snak content) → SnakGives version subject id role snak t
  by_content (Contents.Value value) is h =
      let object = object_triples subject (id_term (value_prefix role) snak.property) (simple_term snak.datatype value) in
      let link = link_triples subject (id_term (node_prefix role) snak.property) (node_name version value) in
      elim (in_either t (object ++ link) (node_triples version value) h) [
        | inl front ↦ elim (in_either t object link front) [
          | inl said ↦ by_object value (simple_term snak.datatype value) is refl said
          | inr linked ↦ by_link value (node_name version value) is refl linked
        ]
        | inr part ↦ node_part value is part
      ]
  by_content Contents.NoValue is (inl e) = no_value is e
  by_content Contents.NoValue is (inr h) = absurd h
  by_content Contents.SomeValue is (inl e) = unknown_value is e
  by_content Contents.SomeValue is (inr h) = absurd h

  -- a triple of the list is given
  pub snak_gives : In t (snak_triples version subject id role snak) → SnakGives version subject id role snak t
  snak_gives h = by_content snak.content refl h

  content_is : (content : Content) → snak.content ≡ content → In t (content_triples version subject id role snak content) → In t (snak_triples version subject id role snak)
  content_is content is h = subst (λ c. In t (content_triples version subject id role snak c)) (sym is) h

  -- and each triple that is given is in the list
  pub snak_given : SnakGives version subject id role snak t → In t (snak_triples version subject id role snak)
  snak_given (simple_value value term is found e) =
      let object = object_triples subject (id_term (value_prefix role) snak.property) in
      let link = link_triples subject (id_term (node_prefix role) snak.property) (node_name version value) in
      let said : In t (object (simple_term snak.datatype value)) = subst (λ o. In t (object o)) (sym found) (inl e) in
      content_is (Contents.Value value) is
      (in_front t (object (simple_term snak.datatype value) ++ link) (node_triples version value) (in_front t (object (simple_term snak.datatype value)) link said))
  snak_given (value_node value name is found e) =
      let object = object_triples subject (id_term (value_prefix role) snak.property) (simple_term snak.datatype value) in
      let link = link_triples subject (id_term (node_prefix role) snak.property) in
      let linked : In t (link (node_name version value)) = subst (λ o. In t (link o)) (sym found) (inl e) in
      content_is (Contents.Value value) is
      (in_front t (object ++ link (node_name version value)) (node_triples version value) (in_back t object (link (node_name version value)) linked))
  snak_given (node_part value is part) =
      let object = object_triples subject (id_term (value_prefix role) snak.property) (simple_term snak.datatype value) in
      let link = link_triples subject (id_term (node_prefix role) snak.property) (node_name version value) in
      content_is (Contents.Value value) is (in_back t (object ++ link) (node_triples version value) part)
  snak_given (no_value is e) = content_is Contents.NoValue is (inl e)
  snak_given (unknown_value is e) = content_is Contents.SomeValue is (inl e)

module _ (entity : Term) (id : List ℕ) (snak : Snak) (t : Triple) where
  by_direct_object : (value : Value) (found : Option Term) → snak.content ≡ Contents.Value value → simple_term snak.datatype value ≡ found → In t (object_triples entity (id_term Wdt snak.property) found) → DirectGives entity id snak t
  by_direct_object value None is found h = absurd h
  by_direct_object value (Some term) is found (inl e) = direct_value value term is found e
  by_direct_object value (Some term) is found (inr h) = absurd h

  by_direct : (content : Content) → snak.content ≡ content → In t (direct_content entity id snak content) → DirectGives entity id snak t
  by_direct (Contents.Value value) is h = by_direct_object value (simple_term snak.datatype value) is refl h
  by_direct Contents.NoValue is (inl e) = direct_no_value is e
  by_direct Contents.NoValue is (inr h) = absurd h
  by_direct Contents.SomeValue is (inl e) = direct_unknown is e
  by_direct Contents.SomeValue is (inr h) = absurd h

  pub direct_gives : In t (direct_triples entity id snak) → DirectGives entity id snak t
  direct_gives h = by_direct snak.content refl h

  direct_is : (content : Content) → snak.content ≡ content → In t (direct_content entity id snak content) → In t (direct_triples entity id snak)
  direct_is content is h = subst (λ c. In t (direct_content entity id snak c)) (sym is) h

  pub direct_given : DirectGives entity id snak t → In t (direct_triples entity id snak)
  direct_given (direct_value value term is found e) =
      direct_is (Contents.Value value) is (subst (λ o. In t (object_triples entity (id_term Wdt snak.property) o)) (sym found) (inl e))
  direct_given (direct_no_value is e) = direct_is Contents.NoValue is (inl e)
  direct_given (direct_unknown is e) = direct_is Contents.SomeValue is (inl e)

-- what holds only where the statement is best
best_in : (t : Triple) (best : Bool) (triples : List Triple) → In t (where_best best triples) → (best ≡ true) × In t triples
best_in t true triples h = (refl, h)
best_in t false triples h = absurd h

in_best : (t : Triple) (best : Bool) (triples : List Triple) → best ≡ true → In t triples → In t (where_best best triples)
in_best t true triples is h = h
in_best t false triples is h = absurd cc

-- the one element of a list
only : (t u : Triple) → In t (u ∷ []) → t ≡ u
only t u (inl e) = e
only t u (inr h) = absurd h

module _ (version : MappingVersion) (entity : Term) (s : Statement) (best : Bool) (t : Triple) where
  by_head : In t (head_triples entity (statement_node s.id) s best) → StatementGives version entity s best t
  by_head (inl e) = claim e
  by_head (inr (inl e)) = statement_class e
  by_head (inr (inr (inl e))) = statement_rank e
  by_head (inr (inr (inr h))) =
      let class = class_triple (statement_node s.id) Resources.BestRank in
      let found = best_in t best (class ∷ []) h in
      best_rank found.0 (only t class found.1)

  by_main : In t (main_triples version entity (statement_node s.id) s best) → StatementGives version entity s best t
  by_main h =
      let said = snak_triples version (statement_node s.id) s.id Roles.Main s.main in
      let direct = direct_triples entity s.id s.main in
      elim (in_either t said (where_best best direct) h) [
        | inl front ↦ main_snak (snak_gives version (statement_node s.id) s.id Roles.Main s.main t front)
        | inr back ↦ let found = best_in t best direct back in best_snak found.0 (direct_gives entity s.id s.main t found.1)
      ]

  by_qualifiers : In t (qualifier_triples version (statement_node s.id) s) → StatementGives version entity s best t
  by_qualifiers h =
      let found = flat_map_in (snak_triples version (statement_node s.id) s.id Roles.Qualifier) t s.qualifiers h in
      qualifier_snak found.0 found.1 (snak_gives version (statement_node s.id) s.id Roles.Qualifier found.0 t found.2)

  by_reference : (r : Reference) → In r s.references → In t (reference_triples version (statement_node s.id) s.id r) → StatementGives version entity s best t
  by_reference r among (inl e) = derived r among e
  by_reference r among (inr (inl e)) = source_class r among e
  by_reference r among (inr (inr h)) =
      let role = Roles.Reference r.hash in
      let found = flat_map_in (snak_triples version (reference_node r.hash) s.id role) t r.snaks h in
      source_snak r found.0 among found.1 (snak_gives version (reference_node r.hash) s.id role found.0 t found.2)

  by_references : In t (flat_map (reference_triples version (statement_node s.id) s.id) s.references) → StatementGives version entity s best t
  by_references h =
      let found = flat_map_in (reference_triples version (statement_node s.id) s.id) t s.references h in
      by_reference found.0 found.1 found.2

  -- a triple of the list is given
  pub statement_gives : In t (statement_triples version entity s best) → StatementGives version entity s best t
  statement_gives h =
      let head = head_triples entity (statement_node s.id) s best in
      let main = main_triples version entity (statement_node s.id) s best in
      let qualifiers = qualifier_triples version (statement_node s.id) s in
      let references = flat_map (reference_triples version (statement_node s.id) s.id) s.references in
      elim (in_either t (head ++ main ++ qualifiers) references h) [
        | inl a ↦ elim (in_either t (head ++ main) qualifiers a) [
          | inl b ↦ elim (in_either t head main b) [ inl c ↦ by_head c | inr c ↦ by_main c ]
          | inr b ↦ by_qualifiers b
        ]
        | inr a ↦ by_references a
      ]

  in_head : In t (head_triples entity (statement_node s.id) s best) → In t (statement_triples version entity s best)
  in_head h =
      let head = head_triples entity (statement_node s.id) s best in
      let main = main_triples version entity (statement_node s.id) s best in
      let qualifiers = qualifier_triples version (statement_node s.id) s in
      let references = flat_map (reference_triples version (statement_node s.id) s.id) s.references in
      in_front t (head ++ main ++ qualifiers) references (in_front t (head ++ main) qualifiers (in_front t head main h))

  in_main : In t (main_triples version entity (statement_node s.id) s best) → In t (statement_triples version entity s best)
  in_main h =
      let head = head_triples entity (statement_node s.id) s best in
      let main = main_triples version entity (statement_node s.id) s best in
      let qualifiers = qualifier_triples version (statement_node s.id) s in
      let references = flat_map (reference_triples version (statement_node s.id) s.id) s.references in
      in_front t (head ++ main ++ qualifiers) references (in_front t (head ++ main) qualifiers (in_back t head main h))

  in_qualifiers : In t (qualifier_triples version (statement_node s.id) s) → In t (statement_triples version entity s best)
  in_qualifiers h =
      let head = head_triples entity (statement_node s.id) s best in
      let main = main_triples version entity (statement_node s.id) s best in
      let qualifiers = qualifier_triples version (statement_node s.id) s in
      let references = flat_map (reference_triples version (statement_node s.id) s.id) s.references in
      in_front t (head ++ main ++ qualifiers) references (in_back t (head ++ main) qualifiers h)

  in_references : (r : Reference) → In r s.references → In t (reference_triples version (statement_node s.id) s.id r) → In t (statement_triples version entity s best)
  in_references r among h =
      let head = head_triples entity (statement_node s.id) s best in
      let main = main_triples version entity (statement_node s.id) s best in
      let qualifiers = qualifier_triples version (statement_node s.id) s in
      let references = flat_map (reference_triples version (statement_node s.id) s.id) s.references in
      in_back t (head ++ main ++ qualifiers) references (in_flat_map (reference_triples version (statement_node s.id) s.id) t r s.references among h)

  -- and each triple that is given is in the list
  pub statement_given : StatementGives version entity s best t → In t (statement_triples version entity s best)
  statement_given (claim e) = in_head (inl e)
  statement_given (statement_class e) = in_head (inr (inl e))
  statement_given (statement_rank e) = in_head (inr (inr (inl e)))
  statement_given (best_rank is e) =
      let class = class_triple (statement_node s.id) Resources.BestRank in
      in_head (inr (inr (inr (in_best t best (class ∷ []) is (inl e)))))
  statement_given (main_snak gives) =
      let said = snak_triples version (statement_node s.id) s.id Roles.Main s.main in
      let direct = where_best best (direct_triples entity s.id s.main) in
      in_main (in_front t said direct (snak_given version (statement_node s.id) s.id Roles.Main s.main t gives))
  statement_given (best_snak is gives) =
      let said = snak_triples version (statement_node s.id) s.id Roles.Main s.main in
      let direct = direct_triples entity s.id s.main in
      in_main (in_back t said (where_best best direct) (in_best t best direct is (direct_given entity s.id s.main t gives)))
  statement_given (qualifier_snak snak among gives) =
      in_qualifiers (in_flat_map (snak_triples version (statement_node s.id) s.id Roles.Qualifier) t snak s.qualifiers among (snak_given version (statement_node s.id) s.id Roles.Qualifier snak t gives))
  statement_given (derived r among e) = in_references r among (inl e)
  statement_given (source_class r among e) = in_references r among (inr (inl e))
  statement_given (source_snak r snak among within gives) =
      let role = Roles.Reference r.hash in
      in_references r among (inr (inr (in_flat_map (snak_triples version (reference_node r.hash) s.id role) t snak r.snaks within (snak_given version (reference_node r.hash) s.id role snak t gives))))

-- the list and the rules say the same
pub statement_rules : (version : MappingVersion) (entity : Term) (s : Statement) (best : Bool) (t : Triple) → In t (statement_triples version entity s best) ↔ StatementGives version entity s best t
statement_rules version entity s best t = (statement_gives version entity s best t, statement_given version entity s best t)
