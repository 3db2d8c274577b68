-- The ids of items.
use Rattle.std.specs.Prelude.{ℕ, List, [], Option}
use Rattle.json_spell.specs.Tree.{Tree}
use Rattle.entity_model.specs.declared.id.IdKind.TheVariants.{Q}
use Rattle.entity_model.specs.declared.id.EntityId.{EntityId}
use Rattle.entity_json.specs.Leaves.{◌>>=◌, text_of, optional_list_at, id_of_kind}
use Rattle.entity_json.specs.Joined.{numbered}
use Rattle.entity_json.specs.Reading.Steps.{steps, put}

-- an item's id
abbrev pub item_id_of : Tree → Option EntityId
item_id_of t = text_of t >>= id_of_kind Q

-- one of a list, by its place
abbrev pub item_id_step : ℕ × Tree → List EntityId → Option (List EntityId)
item_id_step item out = put out (item_id_of item.1)

-- those of a list that may be missing
unfoldable pub item_ids_at : List ℕ → Tree → Option (List EntityId)
item_ids_at name t = optional_list_at name t >>= λ items. steps item_id_step (numbered 0 items) []
