-- Entities, and pages.
use Rattle.std.specs.Prelude.{ℕ, cond, List, [], Option, None, Some, option_map, codes}
use Rattle.std.specs.Str.{bytes_eq}
use Rattle.json_spell.specs.Tree.{Tree, member_of}
use Rattle.entity_model.specs.declared.id.IdKind.{IdKind}
use Rattle.entity_model.specs.declared.id.IdKind.TheVariants.{P, Q, L}
use Rattle.entity_model.specs.declared.entity.Entity.{Entity}
use Rattle.entity_model.specs.declared.entity.Link.{Link}
use Rattle.entity_model.specs.declared.document.Document.TheVariants.{Entity as AnEntity, Redirect, Lexeme as ALexeme}
use Rattle.entity_json.specs.declared.page.Page.{Page}
use Rattle.entity_json.specs.Leaves.{◌>>=◌, text_at, id_at, id_of_kind_at, optional_text_at}
use Rattle.entity_json.specs.Maps.{only_of}
use Rattle.entity_json.specs.Reading.Terms.{labels_at, aliases_at}
use Rattle.entity_json.specs.Reading.Statements.{statements_at}
use Rattle.entity_json.specs.Reading.Lexemes.{lexeme_of}
use Rattle.entity_json.specs.Reading.Links.{links_at}

-- the kind of the entities whose pages have the type
abbrev pub kind_of_type : List ℕ → Option IdKind
kind_of_type type =
    cond (bytes_eq type (codes "item")) (Some Q)
    (cond (bytes_eq type (codes "property")) (Some P)
    (cond (bytes_eq type (codes "lexeme")) (Some L) None))

-- the kind of the entity whose page it is
unfoldable pub page_kind : Tree → Option IdKind
page_kind t = text_at (codes "type") t >>= kind_of_type

-- the datatype, which a property alone has; a lexeme is neither it nor an item
abbrev pub datatype_by_kind : IdKind → Tree → Option (Option (List ℕ))
datatype_by_kind P t = option_map Some (text_at (codes "datatype") t)
datatype_by_kind Q t = Some None
datatype_by_kind L t = None

-- the links, which an item alone has
abbrev pub links_by_kind : IdKind → Tree → Option (List Link)
links_by_kind P t = Some []
links_by_kind Q t = links_at (codes "sitelinks") t
links_by_kind L t = Some []

-- an item or a property
unfoldable pub entity_of : Tree → Option Entity
entity_of t = do
  kind ← page_kind t
  id ← id_of_kind_at kind (codes "id") t
  datatype ← datatype_by_kind kind t
  modified ← optional_text_at (codes "modified") t
  labels ← labels_at (codes "labels") t
  descriptions ← labels_at (codes "descriptions") t
  aliases ← aliases_at (codes "aliases") t
  statements ← statements_at (codes "claims") t
  links ← links_by_kind kind t
  Some (record { id = id; datatype = datatype; modified = modified; labels = labels; descriptions = descriptions; aliases = aliases; statements = statements; links = links })

-- an item or a property of the kind with its lists, where its other parts are there
unfoldable pub entity_lists : IdKind → Tree → Entity → Option Entity
entity_lists kind t begun = do
  labels ← labels_at (codes "labels") t
  descriptions ← labels_at (codes "descriptions") t
  aliases ← aliases_at (codes "aliases") t
  statements ← statements_at (codes "claims") t
  links ← links_by_kind kind t
  Some (record { id = begun.id; datatype = begun.datatype; modified = begun.modified; labels = labels; descriptions = descriptions; aliases = aliases; statements = statements; links = links })

-- the page of an entity
unfoldable pub entity_page : Tree → Option Page
entity_page t = option_map (λ entity. record { id = entity.id; document = AnEntity entity }) (entity_of t)

-- the page of a lexeme
unfoldable pub lexeme_page : Tree → Option Page
lexeme_page t = option_map (λ lexeme. record { id = lexeme.id; document = ALexeme lexeme }) (lexeme_of t)

-- the page of a kind
abbrev pub page_of_kind : Tree → IdKind → Option Page
page_of_kind t P = entity_page t
page_of_kind t Q = entity_page t
page_of_kind t L = lexeme_page t

unfoldable pub own_page : Tree → Option Page
own_page t = page_kind t >>= page_of_kind t

-- the page of a redirect
unfoldable pub redirect_page : Tree → Option Page
redirect_page t = do
  id ← id_at (codes "entity") t
  target ← id_at (codes "redirect") t
  Some (record { id = id; document = Redirect target })

-- a page is a redirect where it has a member of that name
abbrev pub page_by : Option Tree → Tree → Option Page
page_by None t = own_page t
page_by (Some redirect) t = redirect_page t

unfoldable pub page_at : Tree → Option Page
page_at t = page_by (member_of (codes "redirect") t) t

-- where the page stands: the only entity, where entities are there
abbrev pub page_tree_by : Option Tree → Tree → Option Tree
page_tree_by None tree = Some tree
page_tree_by (Some entities) tree = only_of entities

unfoldable pub page_tree_of : Tree → Option Tree
page_tree_of tree = page_tree_by (member_of (codes "entities") tree) tree

-- the page of a text's value
unfoldable pub page_of : Tree → Option Page
page_of tree = page_tree_of tree >>= page_at
