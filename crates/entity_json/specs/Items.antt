-- The ids of items, where pages name items by them.
use Rattle.std.specs.Prelude.{◌≡◌, ℕ, List, Some}
use Rattle.json_spell.specs.Tree.{Tree, member_of}
use Rattle.entity_model.specs.declared.id.EntityId.{EntityId}
use Rattle.entity_model.specs.declared.id.IdKind.TheVariants.{Q}
use Rattle.entity_model.specs.EntityId.{IsId, id_text}
use Rattle.entity_json.specs.Leaves.{text_of}
use Rattle.entity_json.specs.Joined.{InOptionalList}
use Rattle.entity_json.specs.Members.{HasId}

-- the text of an item's id
pub record IsItemId (t : Tree) (x : EntityId) : Type 0 where
  pub text : text_of t ≡ Some (id_text x)
  pub is_id : IsId x
  pub letter : x.kind ≡ Q

-- a list of them, which may be missing
abbrev pub AreItemIds : List ℕ → Tree → List EntityId → Type 0
AreItemIds name t xs = InOptionalList (λ value x. IsItemId value.1 x) (member_of name t) xs

-- one under a name
pub record HasItemId (name : List ℕ) (t : Tree) (x : EntityId) : Type 0 where
  pub id : HasId name t x
  pub letter : x.kind ≡ Q
