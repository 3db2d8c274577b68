-- Which bytes have a page, and which are unfit for what cause.
use Rattle.std.specs.Prelude.{◌≢◌, ℕ, ◌≤◌, ◌<◌, List, length}
use Rattle.json_spell.specs.Tree.{Tree}
use Rattle.json_spell.specs.Grammar.{Reads}
use Rattle.json_spell.specs.Deep.{IsDeep}
use Rattle.entity_model.specs.declared.id.EntityId.{EntityId}
use Rattle.entity_model.specs.declared.unfit.Unfit.{Unfit}
use Rattle.entity_model.specs.declared.unfit.Unfit.TheVariants.{Large, Deep, NotJson, Shape, Foreign}
use Rattle.entity_model.specs.declared.document.Document.{Document}
use Rattle.entity_json.specs.declared.page.Page.{Page}
use Rattle.entity_json.specs.Pages.{IsPage}

-- the bytes are few enough, nested no deeper than allowed, and a JSON text of the tree
pub record HasTree (bytes : List ℕ) (tree : Tree) : Type 0 where
  pub not_large : length bytes ≤ 8388608
  pub not_deep : ¬ (IsDeep bytes)
  pub reads : Reads bytes tree

-- the tree of the bytes is the page
pub record HasPage (bytes : List ℕ) (page : Page) : Type 0 where
  pub tree : Tree
  pub has_tree : HasTree bytes tree
  pub is_page : IsPage tree page

-- the bytes are a page of x with the document
abbrev pub HasDocument : EntityId → List ℕ → Document → Type 0
HasDocument x bytes document = HasPage bytes (record { id = x; document = document })

-- the tree of the bytes is no page
pub record HasNoPage (bytes : List ℕ) : Type 0 where
  pub tree : Tree
  pub has_tree : HasTree bytes tree
  pub no_page : (page : Page) → ¬ (IsPage tree page)

-- the page of the bytes is that of another entity than x
pub record HasForeignPage (x : EntityId) (bytes : List ℕ) : Type 0 where
  pub page : Page
  pub has_page : HasPage bytes page
  pub foreign : page.id ≢ x

-- the bytes are no document of x for the cause: the first that applies in this order
abbrev pub IsUnfit : EntityId → List ℕ → Unfit → Type 0
IsUnfit x bytes Large = 8388608 < length bytes
IsUnfit x bytes Deep = (length bytes ≤ 8388608) × IsDeep bytes
IsUnfit x bytes NotJson = (length bytes ≤ 8388608) × ¬ (IsDeep bytes) × ((tree : Tree) → ¬ (Reads bytes tree))
IsUnfit x bytes Shape = HasNoPage bytes
IsUnfit x bytes Foreign = HasForeignPage x bytes
