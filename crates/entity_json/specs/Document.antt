-- What the bytes of a page are, computed: the document of an entity, or the first cause for which they are none.
use Rattle.std.specs.Prelude.{ℕ, cond, nat_lt, List, [], ◌∷◌, length, Option, None, Some, Result, Ok, Err}
use Rattle.std.specs.Ordering.{eq_by_cmp}
use Rattle.json_spell.specs.Tree.{Tree}
use Rattle.json_spell.specs.Scan.{is_deep_text}
use Rattle.json_spell.specs.Reading.{spaced, value_at}
use Rattle.entity_model.specs.declared.id.EntityId.{EntityId}
use Rattle.entity_model.specs.declared.unfit.Unfit.{Unfit}
use Rattle.entity_model.specs.declared.unfit.Unfit.TheVariants.{Large, Deep, NotJson, Shape, Foreign}
use Rattle.entity_model.specs.declared.document.Document.{Document}
use Rattle.entity_model.specs.EntityId.{entity_cmp}
use Rattle.entity_json.specs.declared.page.Page.{Page}
use Rattle.entity_json.specs.Leaves.{◌>>=◌}
use Rattle.entity_json.specs.Reading.Pages.{page_of}

-- how many bytes a page may have
abbrev pub page_limit : ℕ
page_limit = 8388608

-- a tree that has no bytes behind it
abbrev pub tree_alone : Tree × List ℕ → Option Tree
tree_alone (t, []) = Some t
tree_alone (t, x ∷ rest) = None

-- the JSON value of a text
unfoldable pub tree_of : List ℕ → Option Tree
tree_of bytes = spaced value_at bytes >>= tree_alone

-- the document of a page, where it is that of the entity
abbrev pub own_document : EntityId → Option Page → Result Document Unfit
own_document x None = Err Shape
own_document x (Some page) = cond (eq_by_cmp entity_cmp page.id x) (Ok page.document) (Err Foreign)

-- the document of a tree
abbrev pub document_in : EntityId → Option Tree → Result Document Unfit
document_in x None = Err NotJson
document_in x (Some tree) = own_document x (page_of tree)

-- the document of the entity that the bytes are, or the first cause for which they are none
unfoldable pub document_or_cause : EntityId → List ℕ → Result Document Unfit
document_or_cause x bytes =
    cond (nat_lt page_limit (length bytes)) (Err Large)
    (cond (is_deep_text bytes) (Err Deep)
    (document_in x (tree_of bytes)))

-- the document of an outcome
abbrev pub document_by : Result Document Unfit → Option Document
document_by (Ok document) = Some document
document_by (Err unfit) = None

-- the cause of an outcome
abbrev pub unfit_by : Result Document Unfit → Option Unfit
unfit_by (Ok document) = None
unfit_by (Err unfit) = Some unfit

-- the document that the bytes are
abbrev pub document_of : EntityId → List ℕ → Option Document
document_of x bytes = document_by (document_or_cause x bytes)

-- why the bytes are no document of x, or None where they are one
abbrev pub unfit_of : EntityId → List ℕ → Option Unfit
unfit_of x bytes = unfit_by (document_or_cause x bytes)
