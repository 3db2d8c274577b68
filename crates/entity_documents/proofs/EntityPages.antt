-- A page that is told apart from another one is that of an item or a property, where what it has of its own is.
use Rattle.std.proofs.Common.{◌≡◌, ℕ, Bool, true, false, List, [], Option, Some, None, Result, Ok, Err, is_some, inl, inr, refl, sym, ap, subst, ◌∙◌, true≢false}
use Rattle.std.specs.Prelude.{codes, unwrap_or}
use Rattle.std.specs.Str.{bytes_eq}
use Rattle.json_spell.specs.Tree.{Tree, member_of}
use Rattle.json_spell.specs.View.{json_view}
use Rattle.json_spell.proofs.{Complete.one_tree, Opened.some_is}
use Rattle.json_differing.specs.Differing.{Differ, Differs, Inside}
use Rattle.json_differing.specs.{declared.differing.Differing.Differing, Found.AreDiffering}
use Rattle.entity_model.specs.declared.id.EntityId.{EntityId}
use Rattle.entity_model.specs.declared.id.IdKind.{IdKind}
use Rattle.entity_model.specs.declared.id.IdKind.TheVariants.{P, Q, L}
use Rattle.entity_model.specs.declared.unfit.Unfit.{Unfit}
use Rattle.entity_model.specs.declared.entity.Entity.{Entity}
use Rattle.entity_model.specs.declared.document.Document.{Document}
use Rattle.entity_model.specs.declared.document.Document.TheVariants.{Entity as AnEntity, Redirect, Lexeme as ALexeme}
use Rattle.entity_json.specs.declared.page.Page.{Page}
use Rattle.entity_json.specs.Document.{document_by, document_of, document_or_cause, unfit_by, unfit_of}
use Rattle.entity_json.specs.Leaves.{◌>>=◌, text_at, text_of}
use Rattle.entity_json.specs.Maps.{only_of}
use Rattle.entity_json.specs.Pages.{HasDatatype, IsDocument, IsPage, StandsAt, page_type}
use Rattle.entity_json.specs.Reading.Pages.{page_of}
use Rattle.entity_json.proofs.{AgreePages.one_page, AgreePages.page_agrees, Fitness.documents}
use Rattle.entity_documents.specs.Changed.{IsEntityPage, depth_of}
use Rattle.entity_documents.proofs.{ChangedEntities.text_same, ChangedMaps.member_differs}
use Rattle.entity_documents.proofs.Rows.{AreOnly, only_values, under_name}

-- a document of an item or a property
pub record IsAnEntity (document : Document) : Type 0 where
  pub entity : Entity
  pub is : document ≡ AnEntity entity

no_lexeme : (kind : IdKind) (t : Tree) (datatype : Option (List ℕ)) → HasDatatype kind t datatype → Some (page_type kind) ≡ Some (codes "lexeme") → ⊥
no_lexeme P t datatype h e = true≢false (sym (ap (λ o. bytes_eq (unwrap_or o []) (codes "lexeme")) e))
no_lexeme Q t datatype h e = true≢false (sym (ap (λ o. bytes_eq (unwrap_or o []) (codes "lexeme")) e))
no_lexeme L t datatype h e = h

-- the first page is of the kind that what it has of its own is of
kind_of : (x : EntityId) (old new gone come : Tree) (d : Document) (g : Entity) → Differ 1 old new gone come → IsDocument old x d → IsDocument gone x (AnEntity g) → IsAnEntity d
kind_of x old new gone come (AnEntity e) g differ h k = record { entity = e; is = refl }
kind_of x old new gone come (Redirect y) g differ h k =
    let same : text_at (codes "redirect") gone ≡ text_at (codes "redirect") old = (text_same (codes "redirect") old new gone come (member_differs (codes "redirect") old new gone come differ)).0 in
    let none : text_at (codes "redirect") gone ≡ None = ap (λ m. m >>= text_of) k.0 in
    absurd (true≢false (sym (ap is_some h.1.text) ∙ ap is_some (sym same ∙ none)))
kind_of x old new gone come (ALexeme l) g differ h k =
    let same : text_at (codes "type") gone ≡ text_at (codes "type") old = (text_same (codes "type") old new gone come (member_differs (codes "type") old new gone come differ)).0 in
    absurd (no_lexeme g.id.kind gone g.datatype k.1.datatype (sym k.1.type ∙ same ∙ h.1.type))

-- the page of a document
abbrev DocumentPage : EntityId → Tree → Document → Type 0
DocumentPage x tree d = IsPage tree (record { id = x; document = d })

module _ (x : EntityId) where
  -- a page that stands alone
  alone : (tree : Tree) (d : Document) → member_of (codes "entities") tree ≡ None → DocumentPage x tree d → IsDocument tree x d
  alone tree d none h =
      let same : h.page_tree ≡ tree = subst (λ (o : Option Tree). StandsAt o tree h.page_tree) none h.stands in
      subst (λ (t : Tree). IsDocument t x d) same h.holds

  -- a page that is the only entity
  in_entities : (tree entities : Tree) (d : Document) → member_of (codes "entities") tree ≡ Some entities → (h : DocumentPage x tree d) → only_of entities ≡ Some h.page_tree
  in_entities tree entities d at h = subst (λ (o : Option Tree). StandsAt o tree h.page_tree) at h.stands

  module _ (old new gone come : Tree) (d : Document) (g : Entity) (h : DocumentPage x old d) (k : DocumentPage x gone (AnEntity g)) where
    bare : Differ 1 old new gone come → member_of (codes "entities") gone ≡ None → IsAnEntity d
    bare differ no_gone = elim (under_name 0 (codes "entities") old new gone come differ) [
      | inl kept ↦
          let no_old : member_of (codes "entities") old ≡ None = sym kept.0 ∙ no_gone in
          kind_of x old new gone come d g differ (alone old d no_old h) (alone gone (AnEntity g) no_gone k)
      | inr there ↦ let some = sym no_gone ∙ there.gone_at in absurd cc
    ]

    -- where nothing was left out, the pages are one
    kept : (entities : Tree) → member_of (codes "entities") old ≡ Some entities → member_of (codes "entities") gone ≡ Some entities → IsAnEntity d
    kept entities old_at gone_at =
        let page : DocumentPage x old (AnEntity g) = record {
          page_tree = k.page_tree;
          stands = subst (λ (o : Option Tree). StandsAt o old k.page_tree) (sym old_at) (in_entities gone entities (AnEntity g) gone_at k);
          holds = k.holds;
        } in
        record { entity = g; is = ap (λ (p : Page). p.document) (one_page old (record { id = x; document = d }) (record { id = x; document = AnEntity g }) h page) }

    within : (es_old es_new es_gone es_come : Tree) → member_of (codes "entities") old ≡ Some es_old → member_of (codes "entities") gone ≡ Some es_gone → Differ 2 es_old es_new es_gone es_come → IsAnEntity d
    within es_old es_new es_gone es_come old_at gone_at (inl same) = kept es_old old_at (gone_at ∙ ap Some same.0)
    within es_old es_new es_gone es_come old_at gone_at (inr objects) =
        let only : AreOnly (Differs (Inside 1)) es_old es_new es_gone es_come = only_values (Differs (Inside 1)) es_old es_new es_gone es_come h.page_tree objects (in_entities old es_old d old_at h) in
        let t = only.row in
        let old_is : h.page_tree ≡ t.old = some_is (sym (in_entities old es_old d old_at h) ∙ only.old_is) in
        let gone_is : k.page_tree ≡ t.gone = some_is (sym (in_entities gone es_gone (AnEntity g) gone_at k) ∙ only.gone_is) in
        kind_of x t.old t.new t.gone t.come d g only.holds (subst (λ (q : Tree). IsDocument q x d) old_is h.holds) (subst (λ (q : Tree). IsDocument q x (AnEntity g)) gone_is k.holds)

    wrapped : (entities : Tree) → Differ 3 old new gone come → member_of (codes "entities") gone ≡ Some entities → IsAnEntity d
    wrapped entities differ gone_at = elim (under_name 2 (codes "entities") old new gone come differ) [
      | inl same ↦ kept entities (sym same.0 ∙ gone_at) gone_at
      | inr t ↦ within t.row.old t.row.new t.row.gone t.row.come t.old_at t.gone_at t.holds
    ]

    -- either way
    told : (is_wrapped : Bool) → Differ (depth_of is_wrapped) old new gone come → is_some (member_of (codes "entities") gone) ≡ is_wrapped → IsAnEntity d
    told true differ there = by (member_of (codes "entities") gone) refl there
      where
        by : (a : Option Tree) → member_of (codes "entities") gone ≡ a → is_some a ≡ true → IsAnEntity d
        by None is some = absurd cc
        by (Some es) is some = wrapped es differ is
    told false differ there = by (member_of (codes "entities") gone) refl there
      where
        by : (a : Option Tree) → member_of (codes "entities") gone ≡ a → is_some a ≡ false → IsAnEntity d
        by None is none = bare differ is
        by (Some es) is none = absurd cc

-- bytes with no cause against them are a document
pub record IsSomeDocument (x : EntityId) (bytes : List ℕ) : Type 0 where
  pub document : Document
  pub is : document_of x bytes ≡ Some document

pub some_document : (x : EntityId) (bytes : List ℕ) → unfit_of x bytes ≡ None → IsSomeDocument x bytes
some_document x bytes fit = by (document_or_cause x bytes) refl fit
  where
    by : (outcome : Result Document Unfit) → document_or_cause x bytes ≡ outcome → unfit_by outcome ≡ None → IsSomeDocument x bytes
    by (Ok d) is e = record { document = d; is = ap document_by is }
    by (Err unfit) is e = absurd (true≢false (ap is_some e))

-- what the reader of both texts tells of the first page
pub entity_page : (x : EntityId) (old_bytes new_bytes : List ℕ) (d : Document) (g : Entity) (within : Bool) (differing : Differing)
    → document_of x old_bytes ≡ Some d → AreDiffering (depth_of within) old_bytes new_bytes differing
    → is_some (member_of (codes "entities") (json_view differing.old)) ≡ within → page_of (json_view differing.old) ≡ Some (record { id = x; document = AnEntity g }) → IsEntityPage x old_bytes
entity_page x old_bytes new_bytes d g within differing is_document differs gone_at gone_page =
    let known = (documents x old_bytes d).0 is_document in
    let same : known.tree ≡ differs.old = one_tree old_bytes known.tree differs.old known.has_tree.reads differs.old_reads in
    let old_page : DocumentPage x differs.old d = subst (λ (t : Tree). DocumentPage x t d) same known.is_page in
    let e =
    told x differs.old differs.new (json_view differing.old) (json_view differing.new) d g old_page
    (page_agrees.sound (json_view differing.old) (record { id = x; document = AnEntity g }) gone_page) within differs.differ gone_at in
    record { entity = e.entity; document = is_document ∙ ap Some e.is }
