-- Rules 1 to 3: which page a tree is. This file and those of the other rules say what a page of Wikibase's JSON format is, rule by
-- rule as docs/DOCUMENTS.md has them in words; how it is read is said apart, in Reading.
use Rattle.std.specs.Prelude.{◌≡◌, ℕ, List, [], Option, None, Some, codes}
use Rattle.json_spell.specs.Tree.{Tree, member_of}
use Rattle.entity_model.specs.declared.id.IdKind.{IdKind}
use Rattle.entity_model.specs.declared.id.IdKind.TheVariants.{P, Q, L}
use Rattle.entity_model.specs.declared.id.EntityId.{EntityId}
use Rattle.entity_model.specs.declared.entity.Link.{Link}
use Rattle.entity_model.specs.declared.entity.Entity.{Entity}
use Rattle.entity_model.specs.declared.document.Document.{Document}
use Rattle.entity_model.specs.declared.document.Document.TheVariants.{Entity as AnEntity, Redirect, Lexeme as ALexeme}
use Rattle.entity_json.specs.declared.page.Page.{Page}
use Rattle.entity_json.specs.Leaves.{text_at}
use Rattle.entity_json.specs.Maps.{only_of}
use Rattle.entity_json.specs.Members.{HasId, HasOptionalText}
use Rattle.entity_json.specs.Tagged.{AreLabels, AreAliases}
use Rattle.entity_json.specs.Statements.{AreStatements}
use Rattle.entity_json.specs.Links.{AreLinks}
use Rattle.entity_json.specs.Lexemes.{IsLexeme}

-- the type of the pages of a kind of entities
abbrev pub page_type : IdKind → List ℕ
page_type P = codes "property"
page_type Q = codes "item"
page_type L = codes "lexeme"

-- a property has the text `datatype`, and an item has none; a lexeme is neither
abbrev pub HasDatatype : IdKind → Tree → Option (List ℕ) → Type 0
HasDatatype P t None = ⊥
HasDatatype P t (Some datatype) = text_at (codes "datatype") t ≡ Some datatype
HasDatatype Q t datatype = datatype ≡ None
HasDatatype L t datatype = ⊥

-- an item has links; those of a property are passed over
abbrev pub HasLinks : IdKind → Tree → List Link → Type 0
HasLinks P t xs = xs ≡ []
HasLinks Q t xs = AreLinks t xs
HasLinks L t xs = xs ≡ []

-- Rule 3: an item or a property
pub record IsEntity (t : Tree) (x : Entity) : Type 0 where
  pub type : text_at (codes "type") t ≡ Some (page_type x.id.kind)
  pub id : HasId (codes "id") t x.id
  pub datatype : HasDatatype x.id.kind t x.datatype
  pub modified : HasOptionalText (codes "modified") t x.modified
  pub labels : AreLabels (codes "labels") t x.labels
  pub descriptions : AreLabels (codes "descriptions") t x.descriptions
  pub aliases : AreAliases t x.aliases
  pub statements : AreStatements t x.statements
  pub links : HasLinks x.id.kind t x.links

-- Rule 2: a page with `redirect` is a redirect of `entity`, and any other is an entity or a lexeme
abbrev pub IsDocument : Tree → EntityId → Document → Type 0
IsDocument t id (AnEntity x) = (member_of (codes "redirect") t ≡ None) × IsEntity t x × (id ≡ x.id)
IsDocument t id (Redirect y) = HasId (codes "entity") t id × HasId (codes "redirect") t y
IsDocument t id (ALexeme x) = (member_of (codes "redirect") t ≡ None) × IsLexeme t x × (id ≡ x.id)

-- Rule 1: the page is the one entry of `entities`, or the tree itself where that is missing
abbrev pub StandsAt : Option Tree → Tree → Tree → Type 0
StandsAt None tree t = t ≡ tree
StandsAt (Some entities) tree t = only_of entities ≡ Some t

-- the page that a tree is; tree and page are objects, as nothing else has members
pub record IsPage (tree : Tree) (page : Page) : Type 0 where
  pub page_tree : Tree
  pub stands : StandsAt (member_of (codes "entities") tree) tree page_tree
  pub holds : IsDocument page_tree page.id page.document
