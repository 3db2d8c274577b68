-- What an object has under a name. Of members with one name the last stands.
use Rattle.std.specs.Prelude.{◌≡◌, ℕ, List, Option, None, Some}
use Rattle.json_spell.specs.Tree.{Tree, member_of}
use Rattle.entity_model.specs.declared.id.EntityId.{EntityId}
use Rattle.entity_model.specs.EntityId.{IsId, id_text}
use Rattle.entity_json.specs.Leaves.{text_at}

-- the text of an id
pub record HasId (name : List ℕ) (t : Tree) (x : EntityId) : Type 0 where
  pub is_id : IsId x
  pub text : text_at name t ≡ Some (id_text x)

-- a text, or nothing where the member is missing; null isn't missing
abbrev pub HasOptionalText : List ℕ → Tree → Option (List ℕ) → Type 0
HasOptionalText name t None = member_of name t ≡ None
HasOptionalText name t (Some text) = text_at name t ≡ Some text
