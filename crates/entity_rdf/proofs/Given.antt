-- The triples of a document are those that a rule gives.
use Rattle.std.proofs.Common.{◌≡◌, ℕ, inl, inr, List, ◌++◌, Option, Some, None, length, refl, subst, sym}
use Rattle.std.specs.Prelude.{◌↔◌}
use Rattle.std.specs.List.{flat_map}
use Rattle.sorted_sets.specs.Rising.{In}
use Rattle.rdf_term.specs.declared.triple.Triple.{Triple}
use Rattle.entity_model.specs.declared.id.EntityId.{EntityId}
use Rattle.entity_model.specs.declared.id.IdKind.{IdKind}
use Rattle.entity_model.specs.declared.id.IdKind.TheVariants.{P, Q, L}
use Rattle.entity_model.specs.declared.entity.Entity.{Entity}
use Rattle.entity_model.specs.declared.document.Document.{Document}
use Rattle.entity_model.specs.declared.document.Document.TheVariants.{Entity as AnEntity, Redirect, Lexeme as ALexeme}
use Rattle.entity_model.specs.declared.mapping.MappingVersion.{MappingVersion}
use Rattle.rdf_vocabulary.specs.Prefix.{entity_term}
use Rattle.statement_facts.specs.Ranking.{is_best}
use Rattle.statement_rdf.proofs.Given.{statement_rules}
use Rattle.statement_rdf.proofs.Members.{in_front, in_back, in_either, in_flat_map, flat_map_in}
use Rattle.page_rdf.specs.Dataset.{change_triples, dataset_term, number_triples, page_triples}
use Rattle.statement_rdf.specs.Statements.{judged_triples, statements_triples}
use Rattle.entity_rdf.proofs.LexemeGiven.{lexdump_rules}
use Rattle.page_rdf.specs.About.{alias_triples, class_triples, dataset_triples, description_triples, label_triples, link_count as link_counts, text_triples}
use Rattle.page_rdf.specs.Property.{datatype_triples, other_predicates, property_triples, property_triples_of, value_predicates}
use Rattle.page_rdf.specs.Spoken.{spoken_triples}
use Rattle.entity_rdf.specs.Dump.{dump, entity_triples}
use Rattle.sitelinks.specs.Article.{article_triples}
use Rattle.entity_rdf.specs.Gives.{Gives, EntityGives, class, label, preferred_label, name, description, alternative_label, dataset, dataset_about, license, format, revision, statement_count, identifier_count, link_count, modified, property_type, value_predicate, other_predicate, article, statement}

module _ (version : MappingVersion) (x : EntityId) (rev : ℕ) (e : Entity) (t : Triple) where
  by_class : In t (class_triples x) → EntityGives version x rev e t
  by_class (inl is) = class is
  by_class (inr h) = absurd h

  by_label : In t (flat_map (label_triples (entity_term x)) e.labels) → EntityGives version x rev e t
  by_label h = let found = flat_map_in (label_triples (entity_term x)) t e.labels h in elim found.2 [
    | inl is ↦ label found.0 found.1 is
    | inr (inl is) ↦ preferred_label found.0 found.1 is
    | inr (inr (inl is)) ↦ name found.0 found.1 is
    | inr (inr (inr none)) ↦ absurd none
  ]

  by_description : In t (flat_map (description_triples (entity_term x)) e.descriptions) → EntityGives version x rev e t
  by_description h = let found = flat_map_in (description_triples (entity_term x)) t e.descriptions h in elim found.2 [
    | inl is ↦ description found.0 found.1 is
    | inr none ↦ absurd none
  ]

  by_alias : In t (flat_map (alias_triples (entity_term x)) e.aliases) → EntityGives version x rev e t
  by_alias h = let found = flat_map_in (alias_triples (entity_term x)) t e.aliases h in elim found.2 [
    | inl is ↦ alternative_label found.0 found.1 is
    | inr none ↦ absurd none
  ]

  by_page : In t (page_triples x) → EntityGives version x rev e t
  by_page (inl is) = dataset is
  by_page (inr (inl is)) = dataset_about is
  by_page (inr (inr (inl is))) = license is
  by_page (inr (inr (inr (inl is)))) = format is
  by_page (inr (inr (inr (inr none)))) = absurd none

  by_number : In t (number_triples (dataset_term x) rev e.statements) → EntityGives version x rev e t
  by_number (inl is) = revision is
  by_number (inr (inl is)) = statement_count is
  by_number (inr (inr (inl is))) = identifier_count is
  by_number (inr (inr (inr none))) = absurd none

  by_link_count : (k : IdKind) → x.kind ≡ k → In t (link_counts k (dataset_term x) (length e.links)) → EntityGives version x rev e t
  by_link_count P is h = absurd h
  by_link_count L is h = absurd h
  by_link_count Q is (inl said) = link_count is said
  by_link_count Q is (inr none) = absurd none

  by_change : (o : Option (List ℕ)) → e.modified ≡ o → In t (change_triples (dataset_term x) o) → EntityGives version x rev e t
  by_change None is h = absurd h
  by_change (Some time) is (inl said) = modified time is said
  by_change (Some time) is (inr none) = absurd none

  by_datatype : (o : Option (List ℕ)) → x.kind ≡ P → e.datatype ≡ o → In t (datatype_triples (entity_term x) o) → EntityGives version x rev e t
  by_datatype None kind is h = absurd h
  by_datatype (Some datatype) kind is h = property_type datatype kind is h

  by_property : (k : IdKind) → x.kind ≡ k → In t (property_triples_of k x e.datatype) → EntityGives version x rev e t
  by_property P is h =
      let types = datatype_triples (entity_term x) e.datatype in
      elim (in_either t (types ++ value_predicates x) (other_predicates x) h) [
        | inl front ↦ elim (in_either t types (value_predicates x) front) [
          | inl type ↦ by_datatype e.datatype is refl type
          | inr value ↦ value_predicate is value
        ]
        | inr other ↦ other_predicate is other
      ]
  by_property Q is h = absurd h
  by_property L is h = absurd h

  by_statement : In t (statements_triples version (entity_term x) e.statements) → EntityGives version x rev e t
  by_statement h =
      let found = flat_map_in (judged_triples version (entity_term x) e.statements) t e.statements h in
      statement found.0 found.1 ((statement_rules version (entity_term x) found.0 (is_best e.statements found.0) t).0 found.2)

  by_text : In t (text_triples x e) → EntityGives version x rev e t
  by_text h =
      let labels = flat_map (label_triples (entity_term x)) e.labels in
      let descriptions = flat_map (description_triples (entity_term x)) e.descriptions in
      let aliases = flat_map (alias_triples (entity_term x)) e.aliases in
      elim (in_either t (class_triples x ++ labels ++ descriptions) aliases h) [
        | inl front ↦ elim (in_either t (class_triples x ++ labels) descriptions front) [
          | inl first ↦ elim (in_either t (class_triples x) labels first) [
            | inl one ↦ by_class one
            | inr one ↦ by_label one
          ]
          | inr one ↦ by_description one
        ]
        | inr one ↦ by_alias one
      ]

  by_dataset : In t (dataset_triples x rev e) → EntityGives version x rev e t
  by_dataset h =
      let numbers = number_triples (dataset_term x) rev e.statements in
      let links = link_counts x.kind (dataset_term x) (length e.links) in
      let change = change_triples (dataset_term x) e.modified in
      elim (in_either t (page_triples x ++ numbers ++ links) change h) [
        | inl front ↦ elim (in_either t (page_triples x ++ numbers) links front) [
          | inl first ↦ elim (in_either t (page_triples x) numbers first) [
            | inl one ↦ by_page one
            | inr one ↦ by_number one
          ]
          | inr one ↦ by_link_count x.kind refl one
        ]
        | inr one ↦ by_change e.modified refl one
      ]

  by_article : In t (flat_map (article_triples x) e.links) → EntityGives version x rev e t
  by_article h = let found = flat_map_in (article_triples x) t e.links h in article found.0 found.1 found.2

  by_spoken : In t (spoken_triples x rev e) → EntityGives version x rev e t
  by_spoken h =
      let texts = text_triples x e in
      let set = dataset_triples x rev e in
      elim (in_either t (texts ++ set) (property_triples x e.datatype) h) [
        | inl first ↦ elim (in_either t texts set first) [
          | inl one ↦ by_text one
          | inr one ↦ by_dataset one
        ]
        | inr one ↦ by_property x.kind refl one
      ]

  -- a triple of the list is given
  pub entity_gives : In t (entity_triples version x rev e) → EntityGives version x rev e t
  entity_gives h =
      let spoken = spoken_triples x rev e in
      let articles = flat_map (article_triples x) e.links in
      elim (in_either t (spoken ++ articles) (statements_triples version (entity_term x) e.statements) h) [
        | inl front ↦ elim (in_either t spoken articles front) [
          | inl one ↦ by_spoken one
          | inr one ↦ by_article one
        ]
        | inr one ↦ by_statement one
      ]

  in_spoken : In t (spoken_triples x rev e) → In t (entity_triples version x rev e)
  in_spoken h =
      let spoken = spoken_triples x rev e in
      let articles = flat_map (article_triples x) e.links in
      in_front t (spoken ++ articles) (statements_triples version (entity_term x) e.statements) (in_front t spoken articles h)

  in_texts : In t (text_triples x e) → In t (entity_triples version x rev e)
  in_texts h =
      let texts = text_triples x e in
      let set = dataset_triples x rev e in
      in_spoken (in_front t (texts ++ set) (property_triples x e.datatype) (in_front t texts set h))

  in_labels : In t (flat_map (label_triples (entity_term x)) e.labels) → In t (entity_triples version x rev e)
  in_labels h =
      let labels = flat_map (label_triples (entity_term x)) e.labels in
      let descriptions = flat_map (description_triples (entity_term x)) e.descriptions in
      let aliases = flat_map (alias_triples (entity_term x)) e.aliases in
      in_texts (in_front t (class_triples x ++ labels ++ descriptions) aliases (in_front t (class_triples x ++ labels) descriptions (in_back t (class_triples x) labels h)))

  in_dataset : In t (dataset_triples x rev e) → In t (entity_triples version x rev e)
  in_dataset h =
      let texts = text_triples x e in
      let set = dataset_triples x rev e in
      in_spoken (in_front t (texts ++ set) (property_triples x e.datatype) (in_back t texts set h))

  in_page : In t (page_triples x) → In t (entity_triples version x rev e)
  in_page h =
      let numbers = number_triples (dataset_term x) rev e.statements in
      let links = link_counts x.kind (dataset_term x) (length e.links) in
      let change = change_triples (dataset_term x) e.modified in
      in_dataset (in_front t (page_triples x ++ numbers ++ links) change (in_front t (page_triples x ++ numbers) links (in_front t (page_triples x) numbers h)))

  in_numbers : In t (number_triples (dataset_term x) rev e.statements) → In t (entity_triples version x rev e)
  in_numbers h =
      let numbers = number_triples (dataset_term x) rev e.statements in
      let links = link_counts x.kind (dataset_term x) (length e.links) in
      let change = change_triples (dataset_term x) e.modified in
      in_dataset (in_front t (page_triples x ++ numbers ++ links) change (in_front t (page_triples x ++ numbers) links (in_back t (page_triples x) numbers h)))

  in_link_count : x.kind ≡ Q → In t (link_counts Q (dataset_term x) (length e.links)) → In t (entity_triples version x rev e)
  in_link_count is h =
      let numbers = number_triples (dataset_term x) rev e.statements in
      let links = link_counts x.kind (dataset_term x) (length e.links) in
      let change = change_triples (dataset_term x) e.modified in
      let there : In t links = subst (λ k. In t (link_counts k (dataset_term x) (length e.links))) (sym is) h in
      in_dataset (in_front t (page_triples x ++ numbers ++ links) change (in_back t (page_triples x ++ numbers) links there))

  in_change : (time : List ℕ) → e.modified ≡ Some time → In t (change_triples (dataset_term x) (Some time)) → In t (entity_triples version x rev e)
  in_change time is h =
      let numbers = number_triples (dataset_term x) rev e.statements in
      let links = link_counts x.kind (dataset_term x) (length e.links) in
      let change = change_triples (dataset_term x) e.modified in
      in_dataset (in_back t (page_triples x ++ numbers ++ links) change (subst (λ o. In t (change_triples (dataset_term x) o)) (sym is) h))

  in_property : x.kind ≡ P → In t (property_triples_of P x e.datatype) → In t (entity_triples version x rev e)
  in_property is h =
      let texts = text_triples x e in
      let set = dataset_triples x rev e in
      let property = property_triples x e.datatype in
      let there : In t property = subst (λ k. In t (property_triples_of k x e.datatype)) (sym is) h in
      in_spoken (in_back t (texts ++ set) property there)

  -- and each triple that is given is in the list
  pub entity_given : EntityGives version x rev e t → In t (entity_triples version x rev e)
  entity_given (class is) =
      let labels = flat_map (label_triples (entity_term x)) e.labels in
      let descriptions = flat_map (description_triples (entity_term x)) e.descriptions in
      let aliases = flat_map (alias_triples (entity_term x)) e.aliases in
      in_texts (in_front t (class_triples x ++ labels ++ descriptions) aliases (in_front t (class_triples x ++ labels) descriptions (in_front t (class_triples x) labels (inl is))))
  entity_given (label l among is) = in_labels (in_flat_map (label_triples (entity_term x)) t l e.labels among (inl is))
  entity_given (preferred_label l among is) = in_labels (in_flat_map (label_triples (entity_term x)) t l e.labels among (inr (inl is)))
  entity_given (name l among is) = in_labels (in_flat_map (label_triples (entity_term x)) t l e.labels among (inr (inr (inl is))))
  entity_given (description d among is) =
      let labels = flat_map (label_triples (entity_term x)) e.labels in
      let descriptions = flat_map (description_triples (entity_term x)) e.descriptions in
      let aliases = flat_map (alias_triples (entity_term x)) e.aliases in
      let there : In t descriptions = in_flat_map (description_triples (entity_term x)) t d e.descriptions among (inl is) in
      in_texts (in_front t (class_triples x ++ labels ++ descriptions) aliases (in_back t (class_triples x ++ labels) descriptions there))
  entity_given (alternative_label a among is) =
      let labels = flat_map (label_triples (entity_term x)) e.labels in
      let descriptions = flat_map (description_triples (entity_term x)) e.descriptions in
      let aliases = flat_map (alias_triples (entity_term x)) e.aliases in
      in_texts (in_back t (class_triples x ++ labels ++ descriptions) aliases (in_flat_map (alias_triples (entity_term x)) t a e.aliases among (inl is)))
  entity_given (dataset is) = in_page (inl is)
  entity_given (dataset_about is) = in_page (inr (inl is))
  entity_given (license is) = in_page (inr (inr (inl is)))
  entity_given (format is) = in_page (inr (inr (inr (inl is))))
  entity_given (revision is) = in_numbers (inl is)
  entity_given (statement_count is) = in_numbers (inr (inl is))
  entity_given (identifier_count is) = in_numbers (inr (inr (inl is)))
  entity_given (link_count kind is) = in_link_count kind (inl is)
  entity_given (modified time found is) = in_change time found (inl is)
  entity_given (property_type datatype kind found h) =
      let types = datatype_triples (entity_term x) e.datatype in
      let there : In t types = subst (λ o. In t (datatype_triples (entity_term x) o)) (sym found) h in
      in_property kind (in_front t (types ++ value_predicates x) (other_predicates x) (in_front t types (value_predicates x) there))
  entity_given (value_predicate kind h) =
      let types = datatype_triples (entity_term x) e.datatype in
      in_property kind (in_front t (types ++ value_predicates x) (other_predicates x) (in_back t types (value_predicates x) h))
  entity_given (other_predicate kind h) =
      let types = datatype_triples (entity_term x) e.datatype in
      in_property kind (in_back t (types ++ value_predicates x) (other_predicates x) h)
  entity_given (article l among said) =
      let spoken = spoken_triples x rev e in
      let articles = flat_map (article_triples x) e.links in
      in_front t (spoken ++ articles) (statements_triples version (entity_term x) e.statements) (in_back t spoken articles (in_flat_map (article_triples x) t l e.links among said))
  entity_given (statement s among gives) =
      let spoken = spoken_triples x rev e in
      let articles = flat_map (article_triples x) e.links in
      let said = (statement_rules version (entity_term x) s (is_best e.statements s) t).1 gives in
      in_back t (spoken ++ articles) (statements_triples version (entity_term x) e.statements) (in_flat_map (judged_triples version (entity_term x) e.statements) t s e.statements among said)

-- the list and the rules say the same
pub dump_rules : (version : MappingVersion) (x : EntityId) (rev : ℕ) (document : Document) (t : Triple) → In t (dump version x rev document) ↔ Gives version x rev document t
dump_rules version x rev (AnEntity e) t = (entity_gives version x rev e t, entity_given version x rev e t)
dump_rules version x rev (ALexeme l) t = lexdump_rules version x rev l t
dump_rules version x rev (Redirect y) t = ((λ h. elim h [ inl is ↦ is | inr none ↦ absurd none ]), (λ is. inl is))
