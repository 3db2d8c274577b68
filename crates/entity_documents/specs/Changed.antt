-- What the reader of two pages of an entity tells.
use Rattle.std.specs.Prelude.{◌≡◌, ℕ, Bool, cond, List, Some}
use Rattle.entity_model.specs.declared.id.EntityId.{EntityId}
use Rattle.entity_model.specs.declared.entity.Entity.{Entity}
use Rattle.entity_model.specs.declared.document.Document.TheVariants.{Entity as AnEntity}
use Rattle.entity_model.specs.Changes.{EntityChanges}
use Rattle.entity_documents.specs.declared.changed.Changed.{Changed}
use Rattle.entity_json.specs.Document.{document_of}

-- the bytes are the page of an item or a property
pub record IsEntityPage (x : EntityId) (bytes : List ℕ) : Type 0 where
  pub entity : Entity
  pub document : document_of x bytes ≡ Some (AnEntity entity)

-- the second page is one of the entity too, and this is what its document and the first one's have of their own
pub record HasChanged (x : EntityId) (bytes : List ℕ) (old : Entity) (changed : Changed) : Type 0 where
  pub new : Entity
  pub document : document_of x bytes ≡ Some (AnEntity new)
  pub changes : EntityChanges old new changed.gone changed.come

-- how many levels above its maps a page has, as the only member of `entities` or alone
abbrev pub depth_of : Bool → ℕ
depth_of within = cond within 3 1
