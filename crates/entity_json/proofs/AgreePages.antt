-- Links, items, properties and pages: how they are read agrees with the rules, and so a tree is at most one page.
use Rattle.std.proofs.Common.{◌≡◌, ℕ, List, Option, Some, None, option_map, ⊎_elim, refl, sym, ap, ◌∙◌}
use Rattle.std.specs.Prelude.{codes}
use Rattle.std.specs.Str.{bytes_eq}
use Rattle.json_spell.specs.Tree.{Tree, member_of}
use Rattle.json_spell.proofs.Opened.{some_is, bind_some, map_some, chosen, guarded}
use Rattle.entity_model.specs.declared.id.IdKind.{IdKind}
use Rattle.entity_model.specs.declared.id.IdKind.TheVariants.{P, Q, L}
use Rattle.entity_model.specs.declared.id.EntityId.{EntityId}
use Rattle.entity_model.specs.declared.entity.Link.{Link}
use Rattle.entity_model.specs.declared.entity.Entity.{Entity}
use Rattle.entity_model.specs.declared.document.Document.{Document}
use Rattle.entity_model.specs.declared.document.Document.TheVariants.{Entity as AnEntity, Redirect, Lexeme as ALexeme}
use Rattle.entity_json.specs.declared.page.Page.{Page}
use Rattle.entity_json.specs.Leaves.{◌>>=◌, text_of, text_at, id_at, id_of_kind_at, optional_text_at}
use Rattle.entity_json.specs.Joined.{One}
use Rattle.entity_json.specs.Links.{IsLink}
use Rattle.entity_json.specs.Pages.{page_type, HasDatatype, HasLinks, IsEntity, IsDocument, StandsAt, IsPage}
use Rattle.entity_json.specs.Reading.Terms.{labels_at, aliases_at}
use Rattle.entity_json.specs.Reading.Statements.{statements_at}
use Rattle.entity_json.specs.Reading.Items.{item_ids_at}
use Rattle.entity_json.specs.Reading.Links.{link_of, link_step, links_at}
use Rattle.entity_json.specs.Reading.Lexemes.{lexeme_of}
use Rattle.entity_json.specs.Reading.Pages.{kind_of_type, page_kind, datatype_by_kind, links_by_kind, entity_of, entity_page, lexeme_page, page_of_kind, own_page, redirect_page, page_by, page_at, page_tree_by, page_tree_of, page_of}
use Rattle.entity_json.proofs.Agree.{Agree, Walks, put_walks, map-sound, map-complete}
use Rattle.entity_json.proofs.AgreeItems.{id-sound, id-complete, item_ids-sound, item_ids-complete}
use Rattle.entity_json.proofs.AgreeLeaves.{same-from_test, id_at-sound, id_at-complete, optional_text_at-sound, optional_text_at-complete}
use Rattle.entity_json.proofs.AgreeLexemes.{lexeme-sound, lexeme-complete}
use Rattle.entity_json.proofs.AgreeTagged.{labels-sound, labels-complete, aliases-sound, aliases-complete}
use Rattle.entity_json.proofs.AgreeStatements.{statements-sound, statements-complete}

-- a link
link-sound : (t : Tree) (x : Link) → link_of t ≡ Some x → IsLink t x
unfolding link_of
link-sound t x e =
    let site = bind_some (text_at (codes "site") t) _ e in
    let title = bind_some (text_at (codes "title") t) _ site.1.1 in
    let badges = bind_some (item_ids_at (codes "badges") t) _ title.1.1 in
    let is = some_is badges.1.1 in
    record {
      site = site.1.0 ∙ ap (λ (r : Link). Some r.site) is;
      title = title.1.0 ∙ ap (λ (r : Link). Some r.title) is;
      badges = item_ids-sound (codes "badges") t x.badges (badges.1.0 ∙ ap (λ (r : Link). Some r.badges) is);
    }

link-complete : (t : Tree) (x : Link) → IsLink t x → link_of t ≡ Some x
unfolding link_of
link-complete t x h =
    let badges = item_ids-complete (codes "badges") t x.badges h.badges in
    rw (h.site, h.title, badges) refl

pub link_walks : Walks link_step (One (λ member x. IsLink member.1 x))
link_walks =
    put_walks (λ member. link_of member.1) (λ member x. IsLink member.1 x)
    (record { sound = λ m x. link-sound m.1 x; complete = λ m x. link-complete m.1 x })

links-sound : (kind : IdKind) (t : Tree) (xs : List Link) → links_by_kind kind t ≡ Some xs → HasLinks kind t xs
unfolding links_at
links-sound P t xs e = sym (some_is e)
links-sound L t xs e = sym (some_is e)
links-sound Q t xs e = map-sound link_step (One (λ member x. IsLink member.1 x)) link_walks (codes "sitelinks") t xs e

links-complete : (kind : IdKind) (t : Tree) (xs : List Link) → HasLinks kind t xs → links_by_kind kind t ≡ Some xs
unfolding links_at
links-complete P t xs h = ap Some (sym h)
links-complete L t xs h = ap Some (sym h)
links-complete Q t xs h = map-complete link_step (One (λ member x. IsLink member.1 x)) link_walks (codes "sitelinks") t xs h

-- the kind that a page's type stands for
kind_of_type-sound : (type : List ℕ) (kind : IdKind) → kind_of_type type ≡ Some kind → type ≡ page_type kind
kind_of_type-sound type kind e =
    ⊎_elim
    (λ h. same-from_test type (codes "item") h.0 ∙ ap page_type (some_is h.1))
    (λ h. ⊎_elim
    (λ k. same-from_test type (codes "property") k.0 ∙ ap page_type (some_is k.1))
    (λ k. let last = guarded (bytes_eq type (codes "lexeme")) k.1 in same-from_test type (codes "lexeme") last.0 ∙ ap page_type (some_is last.1))
    (chosen (bytes_eq type (codes "property")) h.1))
    (chosen (bytes_eq type (codes "item")) e)

kind_of_type-complete : (kind : IdKind) → kind_of_type (page_type kind) ≡ Some kind
kind_of_type-complete P = refl
kind_of_type-complete Q = refl
kind_of_type-complete L = refl

page_kind-sound : (t : Tree) (kind : IdKind) → page_kind t ≡ Some kind → text_at (codes "type") t ≡ Some (page_type kind)
unfolding page_kind
page_kind-sound t kind e =
    let found = bind_some (text_at (codes "type") t) kind_of_type e in
    found.1.0 ∙ ap Some (kind_of_type-sound found.0 kind found.1.1)

page_kind-complete : (t : Tree) (kind : IdKind) → text_at (codes "type") t ≡ Some (page_type kind) → page_kind t ≡ Some kind
unfolding page_kind
page_kind-complete t kind h = ap (λ o. o >>= kind_of_type) h ∙ kind_of_type-complete kind

-- the datatype of a property
datatype-sound : (kind : IdKind) (t : Tree) (o : Option (List ℕ)) → datatype_by_kind kind t ≡ Some o → HasDatatype kind t o
datatype-sound P t None e = let found = map_some Some (text_at (codes "datatype") t) e in let no = found.1.1 in absurd cc
datatype-sound P t (Some s) e = let found = map_some Some (text_at (codes "datatype") t) e in found.1.0 ∙ found.1.1
datatype-sound Q t o e = sym (some_is e)
datatype-sound L t o e = absurd cc

datatype-complete : (kind : IdKind) (t : Tree) (o : Option (List ℕ)) → HasDatatype kind t o → datatype_by_kind kind t ≡ Some o
datatype-complete P t None h = absurd h
datatype-complete P t (Some s) h = ap (option_map Some) h
datatype-complete Q t o h = ap Some (sym h)
datatype-complete L t o h = absurd h

-- an entity
entity-sound : (t : Tree) (x : Entity) → entity_of t ≡ Some x → IsEntity t x
unfolding entity_of
entity-sound t x e =
    let kind = bind_some (page_kind t) _ e in
    let id = bind_some (id_of_kind_at kind.0 (codes "id") t) _ kind.1.1 in
    let datatype = bind_some (datatype_by_kind kind.0 t) _ id.1.1 in
    let modified = bind_some (optional_text_at (codes "modified") t) _ datatype.1.1 in
    let labels = bind_some (labels_at (codes "labels") t) _ modified.1.1 in
    let descriptions = bind_some (labels_at (codes "descriptions") t) _ labels.1.1 in
    let aliases = bind_some (aliases_at (codes "aliases") t) _ descriptions.1.1 in
    let statements = bind_some (statements_at (codes "claims") t) _ aliases.1.1 in
    let links = bind_some (links_by_kind kind.0 t) _ statements.1.1 in
    let is = some_is links.1.1 in
    let id_is = id-sound (codes "id") kind.0 t x.id (id.1.0 ∙ ap (λ (r : Entity). Some r.id) is) in
    let kind_is : kind.0 ≡ x.id.kind = sym id_is.1 in
    record {
      type = page_kind-sound t kind.0 kind.1.0 ∙ ap (λ k. Some (page_type k)) kind_is;
      id = id_is.0;
      datatype = datatype-sound x.id.kind t x.datatype (ap (λ k. datatype_by_kind k t) (sym kind_is) ∙ datatype.1.0 ∙ ap (λ (r : Entity). Some r.datatype) is);
      modified = optional_text_at-sound (codes "modified") t x.modified (modified.1.0 ∙ ap (λ (r : Entity). Some r.modified) is);
      labels = labels-sound (codes "labels") t x.labels (labels.1.0 ∙ ap (λ (r : Entity). Some r.labels) is);
      descriptions = labels-sound (codes "descriptions") t x.descriptions (descriptions.1.0 ∙ ap (λ (r : Entity). Some r.descriptions) is);
      aliases = aliases-sound t x.aliases (aliases.1.0 ∙ ap (λ (r : Entity). Some r.aliases) is);
      statements = statements-sound t x.statements (statements.1.0 ∙ ap (λ (r : Entity). Some r.statements) is);
      links = links-sound x.id.kind t x.links (ap (λ k. links_by_kind k t) (sym kind_is) ∙ links.1.0 ∙ ap (λ (r : Entity). Some r.links) is);
    }

entity-complete : (t : Tree) (x : Entity) → IsEntity t x → entity_of t ≡ Some x
unfolding entity_of
entity-complete t x h =
    let kind = page_kind-complete t x.id.kind h.type in
    let id = id-complete (codes "id") t x.id h.id in
    let datatype = datatype-complete x.id.kind t x.datatype h.datatype in
    let modified = optional_text_at-complete (codes "modified") t x.modified h.modified in
    let labels = labels-complete (codes "labels") t x.labels h.labels in
    let descriptions = labels-complete (codes "descriptions") t x.descriptions h.descriptions in
    let aliases = aliases-complete t x.aliases h.aliases in
    let statements = statements-complete t x.statements h.statements in
    let links = links-complete x.id.kind t x.links h.links in
    rw (kind, id, datatype, modified, labels, descriptions, aliases, statements, links) refl

-- a page
entity_page-sound : (t : Tree) (page : Page) → member_of (codes "redirect") t ≡ None → entity_page t ≡ Some page → IsDocument t page.id page.document
unfolding entity_page
entity_page-sound t page no_redirect e =
    let found = map_some _ (entity_of t) e in
    rw (← found.1.1) (no_redirect, entity-sound t found.0 found.1.0, refl)

lexeme_page-sound : (t : Tree) (page : Page) → member_of (codes "redirect") t ≡ None → text_at (codes "type") t ≡ Some (page_type L) → lexeme_page t ≡ Some page → IsDocument t page.id page.document
unfolding lexeme_page
lexeme_page-sound t page no_redirect type e =
    let found = map_some _ (lexeme_of t) e in
    rw (← found.1.1) (no_redirect, lexeme-sound t found.0 type found.1.0, refl)

page_of_kind-sound : (t : Tree) (kind : IdKind) (page : Page) → member_of (codes "redirect") t ≡ None → text_at (codes "type") t ≡ Some (page_type kind) → page_of_kind t kind ≡ Some page → IsDocument t page.id page.document
page_of_kind-sound t P page no_redirect type e = entity_page-sound t page no_redirect e
page_of_kind-sound t Q page no_redirect type e = entity_page-sound t page no_redirect e
page_of_kind-sound t L page no_redirect type e = lexeme_page-sound t page no_redirect type e

own_page-sound : (t : Tree) (page : Page) → member_of (codes "redirect") t ≡ None → own_page t ≡ Some page → IsDocument t page.id page.document
unfolding own_page
own_page-sound t page no_redirect e =
    let kind = bind_some (page_kind t) (page_of_kind t) e in
    page_of_kind-sound t kind.0 page no_redirect (page_kind-sound t kind.0 kind.1.0) kind.1.1

-- the page of an item or a property is that of its kind
of_entity : (t : Tree) (kind : IdKind) (o : Option (List ℕ)) → HasDatatype kind t o → page_of_kind t kind ≡ entity_page t
of_entity t P o h = refl
of_entity t Q o h = refl
of_entity t L o h = absurd h

redirect_page-sound : (t : Tree) (page : Page) → redirect_page t ≡ Some page → IsDocument t page.id page.document
unfolding redirect_page
redirect_page-sound t page e =
    let id = bind_some (id_at (codes "entity") t) _ e in
    let target = bind_some (id_at (codes "redirect") t) _ id.1.1 in
    let is : record { id = id.0; document = Redirect target.0 } ≡ page = some_is target.1.1 in
    rw (← is) (id_at-sound (codes "entity") t id.0 id.1.0, id_at-sound (codes "redirect") t target.0 target.1.0)

page_by-sound : (m : Option Tree) (t : Tree) (page : Page) → member_of (codes "redirect") t ≡ m → page_by m t ≡ Some page → IsDocument t page.id page.document
page_by-sound None t page is e = own_page-sound t page is e
page_by-sound (Some u) t page is e = redirect_page-sound t page e

page_at-sound : (t : Tree) (page : Page) → page_at t ≡ Some page → IsDocument t page.id page.document
unfolding page_at
page_at-sound t page e = page_by-sound (member_of (codes "redirect") t) t page refl e

page_at-complete : (t : Tree) (id : EntityId) (document : Document) → IsDocument t id document → page_at t ≡ Some (record { id = id; document = document })
unfolding page_at own_page entity_page lexeme_page redirect_page
page_at-complete t id (AnEntity x) h =
    let kind = page_kind-complete t x.id.kind h.1.type in
    let entity = entity-complete t x h.1 in
    rw (h.0, kind, of_entity t x.id.kind x.datatype h.1.datatype, entity, ← h.2) refl
page_at-complete t id (ALexeme x) h =
    let kind = page_kind-complete t L h.1.type in
    let lexeme = lexeme-complete t x h.1 in
    rw (h.0, kind, lexeme, ← h.2) refl
page_at-complete t id (Redirect y) h =
    let there = bind_some (member_of (codes "redirect") t) text_of h.1.text in
    let source = id_at-complete (codes "entity") t id h.0 in
    let target = id_at-complete (codes "redirect") t y h.1 in
    ap (λ m. page_by m t) there.1.0 ∙ rw (source, target) refl

-- where the page stands
page_tree-sound : (m : Option Tree) (tree t : Tree) → page_tree_by m tree ≡ Some t → StandsAt m tree t
page_tree-sound None tree t e = sym (some_is e)
page_tree-sound (Some es) tree t e = e

page_tree-complete : (m : Option Tree) (tree t : Tree) → StandsAt m tree t → page_tree_by m tree ≡ Some t
page_tree-complete None tree t h = ap Some (sym h)
page_tree-complete (Some es) tree t h = h

page-sound : (tree : Tree) (page : Page) → page_of tree ≡ Some page → IsPage tree page
unfolding page_of page_tree_of
page-sound tree page e =
    let page_tree = bind_some (page_tree_by (member_of (codes "entities") tree) tree) _ e in
    record {
      page_tree = page_tree.0;
      stands = page_tree-sound (member_of (codes "entities") tree) tree page_tree.0 page_tree.1.0;
      holds = page_at-sound page_tree.0 page page_tree.1.1;
    }

page-complete : (tree : Tree) (page : Page) → IsPage tree page → page_of tree ≡ Some page
unfolding page_of page_tree_of
page-complete tree page h =
    ap (λ o. o >>= page_at) (page_tree-complete (member_of (codes "entities") tree) tree h.page_tree h.stands)
    ∙ page_at-complete h.page_tree page.id page.document h.holds

-- the reading of pages gives exactly the page that a tree is
pub page_agrees : Agree page_of IsPage
page_agrees = record { sound = page-sound; complete = page-complete }

-- a tree is at most one page
pub one_page : (tree : Tree) (p q : Page) → IsPage tree p → IsPage tree q → p ≡ q
one_page tree p q h k = some_is (sym (page-complete tree p h) ∙ page-complete tree q k)
