-- Maps from the ids of properties to lists.
use Rattle.std.specs.Prelude.{◌≡◌, ℕ, List}
use Rattle.json_spell.specs.Tree.{Tree}
use Rattle.entity_model.specs.declared.id.IdKind.TheVariants.{P}
use Rattle.entity_model.specs.declared.id.EntityId.{EntityId}
use Rattle.entity_model.specs.EntityId.{IsId, id_text}
use Rattle.entity_json.specs.Leaves.{list_of}
use Rattle.entity_json.specs.Joined.{InList}

-- the key of a map is the id of the property
pub record IsProperty (key : List ℕ) (p : EntityId) : Type 0 where
  pub is_id : IsId p
  pub letter : p.kind ≡ P
  pub is : key ≡ id_text p

-- an entry of the map: the key is a property's id, and the value a list of parts, of which `R` speaks by the property, the
-- place in the list, from 0, and the value there
pub record UnderProperty {A : Type 0} (R : EntityId → ℕ × Tree → A → Type 0) (member : List ℕ × Tree) (xs : List A) : Type 0 where
  pub property : EntityId
  pub is_property : IsProperty member.0 property
  pub parts : InList (R property) (list_of member.1) xs
