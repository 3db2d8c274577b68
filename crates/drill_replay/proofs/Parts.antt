-- Of which parts the documents of a drill's pages are.
use Rattle.std.proofs.Common.{◌≡◌, ◌∙◌, refl, sym, ap, subst, ℕ, ◌%◌, List, [], ◌∷◌, Option, Some, None}
use Rattle.std.specs.Prelude.{codes}
use Rattle.json_spell.specs.Tree.{Tree, array, no_trees, tree, member_of}
use Rattle.entity_model.specs.declared.document.Document.{Document}
use Rattle.entity_model.specs.declared.document.Document.TheVariants.{Entity as AnEntity, Redirect, Lexeme as ALexeme}
use Rattle.entity_model.specs.{declared.entity.Entity.Entity, declared.entity.Link.Link, declared.id.EntityId.EntityId}
use Rattle.entity_model.specs.declared.id.IdKind.{IdKind}
use Rattle.entity_model.specs.declared.id.IdKind.TheVariants.{P, Q, L}
use Rattle.entity_model.specs.{declared.snak.Snak.Snak, declared.statement.Reference.Reference, declared.statement.Statement.Statement}
use Rattle.entity_model.specs.declared.value.Tagged.{Tagged}
use Rattle.entity_json.specs.{declared.page.Page.Page, Maps.map_at, Members.HasOptionalText}
use Rattle.entity_json.specs.Pages.{HasLinks, IsDocument, IsEntity, IsPage, StandsAt}
use Rattle.entity_json.specs.Statements.{AreStatements, IsReference, IsStatement}
use Rattle.entity_json.specs.Leaves.{◌>>=◌, text_at, text_of}
use Rattle.drill_replay.specs.Trees.{claims, earlier_tree, labels, later_tree, page, reference, source_snak, statement}
use Rattle.drill_replay.proofs.Unwound.{none_in_map, one_in_list, one_in_map}

-- one statement without qualifiers, from one reference of one snak
pub record IsSourced (ss : List Statement) : Type 0 where
  pub statement : Statement
  pub reference : Reference
  pub snak : Snak
  pub one : ss ≡ statement ∷ []
  pub unqualified : statement.qualifiers ≡ []
  pub from : statement.references ≡ reference ∷ []
  pub says : reference.snaks ≡ snak ∷ []

abbrev pub HasNone : List Statement → Type 0
HasNone ss = ss ≡ []

-- one label and such statements, and nothing else
pub record IsLabelled (S : List Statement → Type 0) (e : Entity) : Type 0 where
  pub label : Tagged
  pub labels : e.labels ≡ label ∷ []
  pub descriptions : e.descriptions ≡ []
  pub aliases : e.aliases ≡ []
  pub links : e.links ≡ []
  pub modified : e.modified ≡ None
  pub statements : S e.statements

-- a document that is such an entity
abbrev pub IsLabelledPage : (List Statement → Type 0) → Document → Type 0
IsLabelledPage S (AnEntity e) = IsLabelled S e
IsLabelledPage S (Redirect y) = ⊥
IsLabelledPage S (ALexeme l) = ⊥

-- the members of the tree of an item that has one label
record HasLabel (S : List Statement → Type 0) (t : Tree) : Type 0 where
  entry : List ℕ × Tree
  alone : member_of (codes "entities") t ≡ None
  no_redirect : member_of (codes "redirect") t ≡ None
  type : text_at (codes "type") t ≡ Some (codes "item")
  labels : map_at (codes "labels") t ≡ Some (entry ∷ [])
  descriptions : map_at (codes "descriptions") t ≡ Some []
  aliases : map_at (codes "aliases") t ≡ Some []
  links : map_at (codes "sitelinks") t ≡ Some []
  unmodified : member_of (codes "modified") t ≡ None
  statements : (ss : List Statement) → AreStatements t ss → S ss

module _ (S : List Statement → Type 0) (t : Tree) (has : HasLabel S t) where
  links_none : (kind : IdKind) (xs : List Link) → HasLinks kind t xs → xs ≡ []
  links_none P xs h = h
  links_none L xs h = h
  links_none Q xs h = none_in_map _ (codes "sitelinks") t xs has.links h

  modified_none : (modified : Option (List ℕ)) → HasOptionalText (codes "modified") t modified → modified ≡ None
  modified_none None h = refl
  modified_none (Some text) h = let never = sym (ap (λ o. o >>= text_of) has.unmodified) ∙ h in absurd cc

  labelled : (e : Entity) → IsEntity t e → IsLabelled S e
  labelled e h =
      let one = one_in_map _ (codes "labels") t has.entry e.labels has.labels h.labels in record {
        label = one.item;
        labels = one.is;
        descriptions = none_in_map _ (codes "descriptions") t e.descriptions has.descriptions h.descriptions;
        aliases = none_in_map _ (codes "aliases") t e.aliases has.aliases h.aliases;
        links = links_none e.id.kind e.links h.links;
        modified = modified_none e.modified h.modified;
        statements = has.statements e.statements h.statements;
      }

  document_labelled : (id : EntityId) (document : Document) → IsDocument t id document → IsLabelledPage S document
  document_labelled id (AnEntity e) h = labelled e h.1
  document_labelled id (Redirect y) h = let never = sym (ap (λ o. o >>= text_of) has.no_redirect) ∙ h.1.text in absurd cc
  document_labelled id (ALexeme l) h = let never = sym has.type ∙ h.1.type in absurd cc

  page_labelled : (p : Page) → IsPage t p → IsLabelledPage S p.document
  page_labelled p h =
      let page_tree : h.page_tree ≡ t = subst (λ o. StandsAt o t h.page_tree) has.alone h.stands in
      document_labelled p.id p.document (subst (λ u. IsDocument u p.id p.document) page_tree h.holds)

earlier_has : (i : ℕ) → HasLabel HasNone (earlier_tree i)
unfolding page labels
earlier_has i = record {
  entry = (codes "en", _);
  alone = refl;
  no_redirect = refl;
  type = refl;
  labels = refl;
  descriptions = refl;
  aliases = refl;
  links = refl;
  unmodified = refl;
  statements = λ ss h. none_in_map _ (codes "claims") (earlier_tree i) ss refl h;
}

pub earlier_shape : (i : ℕ) (p : Page) → IsPage (earlier_tree i) p → IsLabelledPage HasNone p.document
earlier_shape i = page_labelled HasNone (earlier_tree i) (earlier_has i)

module _ (i amount source : ℕ) where
  one_snak : (r : Reference) → IsReference (reference source) r → (k : Snak) × (r.snaks ≡ k ∷ [])
  unfolding reference
  one_snak r h =
      let under = one_in_map _ (codes "snaks") (reference source) (codes "P2", array (tree (source_snak source) no_trees)) r.snaks refl h.snaks in
      let one = one_in_list _ (source_snak source) r.snaks under.parts in
      (one.item, one.is)

  sourced : (ss : List Statement) (p : EntityId) (s : Statement) → ss ≡ s ∷ [] → IsStatement p (statement i amount source) s → IsSourced ss
  unfolding statement
  sourced ss p s is h =
      let one = one_in_list _ (reference source) s.references h.references in
      let says = one_snak one.item one.holds in record {
        statement = s;
        reference = one.item;
        snak = says.0;
        one = is;
        unqualified = none_in_map _ (codes "qualifiers") (statement i amount source) s.qualifiers refl h.qualifiers;
        from = one.is;
        says = says.1;
      }

later_has : (i : ℕ) → HasLabel IsSourced (later_tree i)
unfolding page labels claims
later_has i = record {
  entry = (codes "en", _);
  alone = refl;
  no_redirect = refl;
  type = refl;
  labels = refl;
  descriptions = refl;
  aliases = refl;
  links = refl;
  unmodified = refl;
  statements = λ ss h.
      let under = one_in_map _ (codes "claims") (later_tree i) (codes "P1", array (tree (statement i (i % 7) (i % 3)) no_trees)) ss refl h in
      let one = one_in_list _ (statement i (i % 7) (i % 3)) ss under.parts in
      sourced i (i % 7) (i % 3) ss under.property one.item one.is one.holds;
}

pub later_shape : (i : ℕ) (p : Page) → IsPage (later_tree i) p → IsLabelledPage IsSourced p.document
later_shape i = page_labelled IsSourced (later_tree i) (later_has i)
