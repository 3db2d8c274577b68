-- The page of the second text, by what both texts have of their own. A page stands alone, or as the only entity of a text.
use Rattle.std.proofs.Common.{◌≡◌, ℕ, Bool, true, false, ◌≤◌, List, length, Option, Some, None, is_some, inl, inr, refl, sym, ap, subst, ◌∙◌}
use Rattle.std.specs.Prelude.{codes}
use Rattle.json_spell.specs.Tree.{Tree, member_of}
use Rattle.json_differing.specs.Differing.{Differ, Differs, Inside}
use Rattle.json_spell.proofs.Opened.{some_is}
use Rattle.entity_model.specs.declared.id.EntityId.{EntityId}
use Rattle.entity_model.specs.declared.entity.Entity.{Entity}
use Rattle.entity_model.specs.declared.document.Document.{Document}
use Rattle.entity_model.specs.declared.document.Document.TheVariants.{Entity as AnEntity, Redirect, Lexeme as ALexeme}
use Rattle.entity_model.specs.Changes.{EntityChanges}
use Rattle.json_spell.specs.View.{json_view}
use Rattle.json_differing.specs.Found.{AreDiffering}
use Rattle.json_differing.specs.declared.differing.Differing.{Differing}
use Rattle.json_spell.proofs.Complete.{one_tree}
use Rattle.entity_json.specs.declared.page.Page.{Page}
use Rattle.entity_documents.specs.Changed.{HasChanged, depth_of}
use Rattle.entity_json.specs.Maps.{only_of}
use Rattle.entity_json.specs.Document.{document_of}
use Rattle.entity_json.specs.Pages.{IsDocument, IsPage, StandsAt}
use Rattle.entity_json.specs.Reading.Pages.{page_of}
use Rattle.entity_json.proofs.AgreePages.{one_page, page_agrees}
use Rattle.entity_documents.proofs.ChangedEntities.{new_entity, unchanged}
use Rattle.entity_json.proofs.Fitness.{documents}
use Rattle.entity_documents.proofs.Rows.{AreOnly, only_values, under_name}

-- the page of an entity
abbrev pub EntityPage : EntityId → Tree → Entity → Type 0
EntityPage x tree e = IsPage tree (record { id = x; document = AnEntity e })

-- the page of the second text
pub record NewPage (x : EntityId) (new : Tree) (old gone come : Entity) : Type 0 where
  pub entity : Entity
  pub is_page : EntityPage x new entity
  pub changes : EntityChanges old entity gone come

-- the entity's document, or another one where it is of another kind
abbrev entity_or : Document → Entity → Entity
entity_or (AnEntity e) other = e
entity_or (Redirect y) other = other
entity_or (ALexeme l) other = other

module _ (x : EntityId) (old new gone come : Tree) (e g c : Entity) where
  -- a page that stands alone
  alone : (tree : Tree) (y : Entity) → member_of (codes "entities") tree ≡ None → EntityPage x tree y → IsDocument tree x (AnEntity y)
  alone tree y none h =
      let same : h.page_tree ≡ tree = subst (λ (o : Option Tree). StandsAt o tree h.page_tree) none h.stands in
      subst (λ (t : Tree). IsDocument t x (AnEntity y)) same h.holds

  page_alone : (tree : Tree) (y : Entity) → member_of (codes "entities") tree ≡ None → IsDocument tree x (AnEntity y) → EntityPage x tree y
  page_alone tree y none h = record { page_tree = tree; stands = subst (λ (o : Option Tree). StandsAt o tree tree) (sym none) refl; holds = h }

  pub bare : Differ 1 old new gone come → member_of (codes "entities") gone ≡ None → member_of (codes "entities") come ≡ None
      → EntityPage x old e → EntityPage x gone g → EntityPage x come c → NewPage x new e g c
  bare d no_gone no_come h k l = elim (under_name 0 (codes "entities") old new gone come d) [
    | inl kept ↦
        let no_old : member_of (codes "entities") old ≡ None = sym kept.0 ∙ no_gone in
        let no_new : member_of (codes "entities") new ≡ None = sym kept.1 ∙ no_come in
        let n = new_entity x old new gone come e g c d (alone old e no_old h) (alone gone g no_gone k) (alone come c no_come l) in
        record { entity = n.entity; is_page = page_alone new n.entity no_new n.holds; changes = n.changes }
    | inr there ↦ let some = sym no_gone ∙ there.gone_at in absurd cc
  ]

  -- a page that is the only entity
  in_entities : (tree entities : Tree) (y : Entity) → member_of (codes "entities") tree ≡ Some entities → (h : EntityPage x tree y) → only_of entities ≡ Some h.page_tree
  in_entities tree entities y at h = subst (λ (o : Option Tree). StandsAt o tree h.page_tree) at h.stands

  page_within : (tree entities t : Tree) (y : Entity) → member_of (codes "entities") tree ≡ Some entities → only_of entities ≡ Some t → IsDocument t x (AnEntity y) → EntityPage x tree y
  page_within tree entities t y at only h = record { page_tree = t; stands = subst (λ (o : Option Tree). StandsAt o tree t) (sym at) only; holds = h }

  -- where nothing was left out, the pages are those of the texts
  page_by_entities : (tree tree' : Tree) (y : Entity) (es : Tree) → member_of (codes "entities") tree ≡ Some es → member_of (codes "entities") tree' ≡ Some es → EntityPage x tree y → EntityPage x tree' y
  page_by_entities tree tree' y es at at' h = page_within tree' es h.page_tree y at' (in_entities tree es y at h) h.holds

  same_entity : (tree : Tree) (y z : Entity) → EntityPage x tree y → EntityPage x tree z → y ≡ z
  same_entity tree y z h k = ap (λ (p : Page). entity_or p.document y) (one_page tree (record { id = x; document = AnEntity y }) (record { id = x; document = AnEntity z }) h k)

  kept_page : EntityPage x old e → EntityPage x old g → EntityPage x new c → NewPage x new e g c
  kept_page h k l =
      record { entity = c; is_page = l; changes = subst (λ (y : Entity). EntityChanges y c g c) (same_entity old g e k h) (unchanged g c) }

  found_within : (es_old es_new es_gone es_come : Tree) → member_of (codes "entities") old ≡ Some es_old → member_of (codes "entities") new ≡ Some es_new
      → member_of (codes "entities") gone ≡ Some es_gone → member_of (codes "entities") come ≡ Some es_come
      → Differ 2 es_old es_new es_gone es_come → EntityPage x old e → EntityPage x gone g → EntityPage x come c → NewPage x new e g c
  found_within es_old es_new es_gone es_come old_at new_at gone_at come_at (inl same) h k l =
      kept_page h (page_by_entities gone old g es_gone gone_at (old_at ∙ ap Some (sym same.0)) k) (page_by_entities come new c es_come come_at (new_at ∙ ap Some (sym same.1)) l)
  found_within es_old es_new es_gone es_come old_at new_at gone_at come_at (inr objects) h k l =
      let only : AreOnly (Differs (Inside 1)) es_old es_new es_gone es_come = only_values (Differs (Inside 1)) es_old es_new es_gone es_come h.page_tree objects (in_entities old es_old e old_at h) in
      let t = only.row in
      let old_is : h.page_tree ≡ t.old = some_is (sym (in_entities old es_old e old_at h) ∙ only.old_is) in
      let gone_is : k.page_tree ≡ t.gone = some_is (sym (in_entities gone es_gone g gone_at k) ∙ only.gone_is) in
      let come_is : l.page_tree ≡ t.come = some_is (sym (in_entities come es_come c come_at l) ∙ only.come_is) in
      let n =
      new_entity x t.old t.new t.gone t.come e g c only.holds (subst (λ (q : Tree). IsDocument q x (AnEntity e)) old_is h.holds)
      (subst (λ (q : Tree). IsDocument q x (AnEntity g)) gone_is k.holds) (subst (λ (q : Tree). IsDocument q x (AnEntity c)) come_is l.holds) in
      record { entity = n.entity; is_page = page_within new es_new t.new n.entity new_at only.new_is n.holds; changes = n.changes }

  pub wrapped : (es_gone es_come : Tree) → Differ 3 old new gone come → member_of (codes "entities") gone ≡ Some es_gone → member_of (codes "entities") come ≡ Some es_come
      → EntityPage x old e → EntityPage x gone g → EntityPage x come c → NewPage x new e g c
  wrapped es_gone es_come d gone_at come_at h k l = elim (under_name 2 (codes "entities") old new gone come d) [
    | inl kept ↦
        kept_page h (page_by_entities gone old g es_gone gone_at (sym kept.0 ∙ gone_at) k) (page_by_entities come new c es_come come_at (sym kept.1 ∙ come_at) l)
    | inr t ↦ found_within t.row.old t.row.new t.row.gone t.row.come t.old_at t.new_at t.gone_at t.come_at t.holds h k l
  ]

  -- either way
  pub new_page : (is_wrapped : Bool) → Differ (depth_of is_wrapped) old new gone come
      → is_some (member_of (codes "entities") gone) ≡ is_wrapped → is_some (member_of (codes "entities") come) ≡ is_wrapped
      → EntityPage x old e → EntityPage x gone g → EntityPage x come c → NewPage x new e g c
  new_page true d gone_at come_at h k l = by_gone (member_of (codes "entities") gone) (member_of (codes "entities") come) refl refl gone_at come_at
    where
      by_gone : (a b : Option Tree) → member_of (codes "entities") gone ≡ a → member_of (codes "entities") come ≡ b → is_some a ≡ true → is_some b ≡ true → NewPage x new e g c
      by_gone None b is_a is_b some_a some_b = absurd cc
      by_gone (Some es) None is_a is_b some_a some_b = absurd cc
      by_gone (Some es) (Some fs) is_a is_b some_a some_b = wrapped es fs d is_a is_b h k l
  new_page false d gone_at come_at h k l = by_gone (member_of (codes "entities") gone) (member_of (codes "entities") come) refl refl gone_at come_at
    where
      by_gone : (a b : Option Tree) → member_of (codes "entities") gone ≡ a → member_of (codes "entities") come ≡ b → is_some a ≡ false → is_some b ≡ false → NewPage x new e g c
      by_gone (Some es) b is_a is_b some_a some_b = absurd cc
      by_gone None (Some fs) is_a is_b some_a some_b = absurd cc
      by_gone None None is_a is_b some_a some_b = bare d is_a is_b h k l

-- what the reader of both texts tells
pub has_changed : (x : EntityId) (old_bytes new_bytes : List ℕ) (e g c : Entity) (within : Bool) (differing : Differing)
    → document_of x old_bytes ≡ Some (AnEntity e) → length new_bytes ≤ 8388608 → AreDiffering (depth_of within) old_bytes new_bytes differing
    → is_some (member_of (codes "entities") (json_view differing.old)) ≡ within → is_some (member_of (codes "entities") (json_view differing.new)) ≡ within
    → page_of (json_view differing.old) ≡ Some (record { id = x; document = AnEntity g }) → page_of (json_view differing.new) ≡ Some (record { id = x; document = AnEntity c })
    → HasChanged x new_bytes e (record { gone = g; come = c })
has_changed x old_bytes new_bytes e g c within differing is_document short d gone_at come_at gone_page come_page =
    let known = (documents x old_bytes (AnEntity e)).0 is_document in
    let same : known.tree ≡ d.old = one_tree old_bytes known.tree d.old known.has_tree.reads d.old_reads in
    let old_page : EntityPage x d.old e = subst (λ (t : Tree). EntityPage x t e) same known.is_page in
    let n =
    new_page x d.old d.new (json_view differing.old) (json_view differing.new) e g c within d.differ gone_at come_at old_page
    (page_agrees.sound (json_view differing.old) (record { id = x; document = AnEntity g }) gone_page)
    (page_agrees.sound (json_view differing.new) (record { id = x; document = AnEntity c }) come_page) in
    record {
      new = n.entity;
      document = (documents x new_bytes (AnEntity n.entity)).1
          (record { tree = d.new; has_tree = record { not_large = short; not_deep = d.not_deep; reads = d.new_reads }; is_page = n.is_page });
      changes = n.changes;
    }
