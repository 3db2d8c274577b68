-- How many terms the triples of the parts of a page have.
use Rattle.std.proofs.Common.{◌≡◌, refl, sym, subst, inl, inr, ℕ, ◌+◌, Bool, true, false, List, [], ◌∷◌, ◌++◌, Option, Some, None, arith}
use Rattle.std.specs.List.{flat_map}
use Rattle.sorted_sets.specs.Rising.{In}
use Rattle.rdf_term.specs.{declared.term.Term.Term, declared.triple.Triple.Triple}
use Rattle.entity_model.specs.{declared.entity.Entity.Entity, declared.value.Tagged.Tagged, declared.mapping.MappingVersion.MappingVersion}
use Rattle.entity_model.specs.declared.snak.Content.{Content}
use Rattle.entity_model.specs.declared.snak.Content.TheVariants.{Value as AValue, NoValue, SomeValue}
use Rattle.entity_model.specs.{declared.snak.Snak.Snak, declared.statement.Reference.Reference, declared.statement.Statement.Statement}
use Rattle.entity_model.specs.declared.value.Value.{Value}
use Rattle.entity_model.specs.declared.value.Value.TheVariants.{Entity as AnId, Str, Time, Quantity, Globe, Mono, Other}
use Rattle.rdf_vocabulary.specs.{declared.predicate.Predicate.Predicate, declared.prefix.Prefix.TheVariants.Wdv}
use Rattle.rdf_vocabulary.specs.Prefix.{entity_term, prefixed}
use Rattle.value_nodes.specs.Name.{node_name}
use Rattle.value_nodes.specs.Nodes.{bound_triples, named_triples, node_triples, precision_triples, value_part_triples}
use Rattle.value_nodes.specs.Said.{object_triples}
use Rattle.statement_facts.specs.{declared.role.Role.Role, Node.reference_node, Node.statement_node}
use Rattle.statement_facts.specs.declared.role.Role.TheVariants as Roles
use Rattle.statement_rdf.specs.Snak.{content_triples, link_triples, snak_triples}
use Rattle.statement_rdf.specs.Statement.{direct_content, head_triples, main_triples, reference_triples, source_triples, statement_triples, where_best}
use Rattle.statement_rdf.specs.Statements.{statements_triples}
use Rattle.sitelinks.specs.Article.{article_triples}
use Rattle.page_rdf.specs.{Dataset.dataset_term, Spoken.spoken_triples}
use Rattle.entity_rdf.specs.Dump.{entity_triples}
use Rattle.drill_replay.specs.Drill.{item}
use Rattle.drill_replay.proofs.Parts.{HasNone, IsLabelled, IsSourced}
use Rattle.drill_replay.proofs.Covered.{Covered, at_most, joined, none, own, said}

module _ {known : List Term} (version : MappingVersion) where
  object : (s p : Term) (o : Option Term) → In s known → Covered known 2 (object_triples s p o)
  object s p None knows = at_most 2 (omega arith) none
  object s p (Some o) knows = said s p o knows none

  link : (s p : Term) (name : Option (List ℕ)) → In s known → Covered known 2 (link_triples s p name)
  link s p None knows = at_most 2 (omega arith) none
  link s p (Some name) knows = said s p (prefixed Wdv name) knows none

  bound : (s : Term) (p : Predicate) (b : Option (List ℕ)) → In s known → Covered known 2 (bound_triples s p b)
  bound s p None knows = at_most 2 (omega arith) none
  bound s p (Some b) knows = said s _ _ knows none

  precision : (s : Term) (b : Option (List ℕ)) → In s known → Covered known 2 (precision_triples s b)
  precision s None knows = at_most 2 (omega arith) none
  precision s (Some b) knows = said s _ _ knows none

  parts : (s : Term) (value : Value) → In s known → Covered known 10 (value_part_triples s value)
  parts s (AnId id) knows = at_most 10 (omega arith) none
  parts s (Str text) knows = at_most 10 (omega arith) none
  parts s (Time time) knows = said s _ _ knows (said s _ _ knows (said s _ _ knows (said s _ _ knows (said s _ _ knows none))))
  parts s (Quantity q) knows = said s _ _ knows (joined (joined (said s _ _ knows (said s _ _ knows none)) (bound s _ q.upper knows)) (bound s _ q.lower knows))
  parts s (Globe g) knows = said s _ _ knows (joined (joined (said s _ _ knows (said s _ _ knows none)) (precision s g.precision knows)) (said s _ _ knows none))
  parts s (Mono tagged) knows = at_most 10 (omega arith) none
  parts s Other knows = at_most 10 (omega arith) none

module _ {known : List Term} (version : MappingVersion) where
  node : (value : Value) → Covered known 11 (node_triples version value)
  node value = by (node_name version value)
    where
      by : (name : Option (List ℕ)) → Covered known 11 (named_triples value name)
      by None = at_most 11 (omega arith) none
      by (Some name) = own (prefixed Wdv name) (parts version (prefixed Wdv name) value (inl refl))

  content : (s : Term) (id : List ℕ) (role : Role) (snak : Snak) (says : Content) → In s known → Covered known 15 (content_triples version s id role snak says)
  content s id role snak (AValue value) knows = joined (joined (object version s _ _ knows) (link version s _ (node_name version value) knows)) (node value)
  content s id role snak NoValue knows = at_most 15 (omega arith) (said s _ _ knows none)
  content s id role snak SomeValue knows = at_most 15 (omega arith) (said s _ _ knows none)

  direct : (s : Term) (id : List ℕ) (snak : Snak) (says : Content) → In s known → Covered known 2 (direct_content s id snak says)
  direct s id snak (AValue value) knows = object version s _ _ knows
  direct s id snak NoValue knows = said s _ _ knows none
  direct s id snak SomeValue knows = said s _ _ knows none

  best_alone : {n : ℕ} {ts : List Triple} (best : Bool) → Covered known n ts → Covered known n (where_best best ts)
  best_alone true c = c
  best_alone {n} false c = at_most n (omega arith) none

  head : (entity node : Term) (s : Statement) (best : Bool) → In entity known → In node known → Covered known 8 (head_triples entity node s best)
  head entity node s best of_entity of_node =
      joined (said entity _ _ of_entity (said node _ _ of_node (said node _ _ of_node none))) (best_alone best (said node _ _ of_node none))

  main : (entity node : Term) (s : Statement) (best : Bool) → In entity known → In node known → Covered known 17 (main_triples version entity node s best)
  main entity node s best of_entity of_node = joined (content node s.id Roles.Main s.main s.main.content of_node) (best_alone best (direct entity s.id s.main s.main.content of_entity))

-- a statement of one reference of one snak
module _ {known : List Term} (version : MappingVersion) (entity : Term) (s : Statement) (r : Reference) (k : Snak) where
  reference_parts : In (statement_node s.id) known → r.snaks ≡ k ∷ [] → Covered known 20 (reference_triples version (statement_node s.id) s.id r)
  reference_parts of_node says =
      subst (λ ks. Covered known 20 (source_triples (statement_node s.id) (reference_node r.hash) ++ flat_map (snak_triples version (reference_node r.hash) s.id (Roles.Reference r.hash)) ks)) (sym says)
      (own (reference_node r.hash) (joined
      (said (statement_node s.id) _ _ (inr of_node) (said (reference_node r.hash) _ _ (inl refl) none))
      (joined (content version (reference_node r.hash) s.id (Roles.Reference r.hash) k k.content (inl refl)) none)))

module _ {known : List Term} (version : MappingVersion) (entity : Term) (s : Statement) (best : Bool) (r : Reference) (k : Snak) where
  statement_parts : In entity known → s.qualifiers ≡ [] → s.references ≡ r ∷ [] → r.snaks ≡ k ∷ [] → Covered known 46 (statement_triples version entity s best)
  statement_parts of_entity unqualified from says =
      subst (λ qs. Covered known 46 (head_triples entity (statement_node s.id) s best ++ main_triples version entity (statement_node s.id) s best
      ++ flat_map (snak_triples version (statement_node s.id) s.id Roles.Qualifier) qs ++ flat_map (reference_triples version (statement_node s.id) s.id) s.references)) (sym unqualified)
      (subst (λ rs. Covered known 46 (head_triples entity (statement_node s.id) s best ++ main_triples version entity (statement_node s.id) s best
      ++ [] ++ flat_map (reference_triples version (statement_node s.id) s.id) rs)) (sym from)
      (own (statement_node s.id) (joined (joined (joined
      (head version entity (statement_node s.id) s best (inr of_entity) (inl refl))
      (main version entity (statement_node s.id) s best (inr of_entity) (inl refl)))
      none)
      (joined (reference_parts version entity s r k (inl refl) says) none))))

-- an entity of one label
module _ (version : MappingVersion) (i rev : ℕ) (e : Entity) where
  abbrev subjects : List Term
  subjects = dataset_term (item i) ∷ entity_term (item i) ∷ []

  -- all but the statements
  spoken : (label : Tagged) → e.labels ≡ label ∷ [] → e.descriptions ≡ [] → e.aliases ≡ [] → e.modified ≡ None → Covered subjects 24 (spoken_triples (item i) rev e)
  spoken label labels descriptions aliases modified = rw (labels, descriptions, aliases, modified) (
      at_most 24 (omega arith) (joined (joined
      (joined (joined (joined (said _ _ _ of_entity none) (said _ _ _ of_entity (said _ _ _ of_entity (said _ _ _ of_entity none)))) none) none)
      (joined (joined (joined
      (said _ _ _ of_page (said _ _ _ of_page (said _ _ _ of_page (said _ _ _ of_page none))))
      (said _ _ _ of_page (said _ _ _ of_page (said _ _ _ of_page none))))
      (said _ _ _ of_page none))
      none))
      none))
    where
      of_page : In (dataset_term (item i)) subjects
      of_page = inl refl

      of_entity : In (entity_term (item i)) subjects
      of_entity = inr (inl refl)

  -- a page with such statements
  labelled : {n : ℕ} (S : List Statement → Type 0) → IsLabelled S e → Covered subjects n (statements_triples version (entity_term (item i)) e.statements) → Covered [] (n + 26) (entity_triples version (item i) rev e)
  labelled {n} S h c =
      subst (λ links. Covered [] (n + 26) (spoken_triples (item i) rev e ++ flat_map (article_triples (item i)) links ++ statements_triples version (entity_term (item i)) e.statements)) (sym h.links)
      (at_most (n + 26) (omega arith) (own (entity_term (item i)) (own (dataset_term (item i))
      (joined (joined (spoken h.label h.labels h.descriptions h.aliases h.modified) none) c))))

  pub unstated : IsLabelled HasNone e → Covered [] 26 (entity_triples version (item i) rev e)
  unstated h = labelled HasNone h (subst (λ ss. Covered subjects 0 (statements_triples version (entity_term (item i)) ss)) (sym h.statements) none)

  pub stated : IsLabelled IsSourced e → Covered [] 72 (entity_triples version (item i) rev e)
  stated h =
      let one = h.statements in
      labelled IsSourced h (subst (λ ss. Covered subjects 46 (statements_triples version (entity_term (item i)) ss)) (sym one.one)
      (joined (statement_parts version (entity_term (item i)) one.statement _ one.reference one.snak (inr (inl refl)) one.unqualified one.from one.says) none))
