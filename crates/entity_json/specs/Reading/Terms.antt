-- Texts in languages: labels, descriptions and aliases.
use Rattle.std.specs.Prelude.{ℕ, List, [], Option, Some, codes}
use Rattle.json_spell.specs.Tree.{Tree}
use Rattle.entity_model.specs.declared.value.Tagged.{Tagged}
use Rattle.entity_json.specs.Leaves.{◌>>=◌, text_at, list_of}
use Rattle.entity_json.specs.Maps.{map_at}
use Rattle.entity_json.specs.Joined.{numbered}
use Rattle.entity_json.specs.Reading.Steps.{steps, put}

-- a text and its language, with the text under the name
unfoldable pub tagged_under : List ℕ → Tree → Option Tagged
tagged_under name t = do
  language ← text_at (codes "language") t
  text ← text_at name t
  Some (record { text = text; language = language })

-- one label, by its member of the map
abbrev pub label_step : List ℕ × Tree → List Tagged → Option (List Tagged)
label_step member out = put out (tagged_under (codes "value") member.1)

-- one alias, by its place in the list
abbrev pub alias_step : ℕ × Tree → List Tagged → Option (List Tagged)
alias_step item out = put out (tagged_under (codes "value") item.1)

-- the aliases of one member of the map
unfoldable pub aliases_step : List ℕ × Tree → List Tagged → Option (List Tagged)
aliases_step member out = list_of member.1 >>= λ items. steps alias_step (numbered 0 items) out

-- labels or descriptions
unfoldable pub labels_at : List ℕ → Tree → Option (List Tagged)
labels_at name t = map_at name t >>= λ members. steps label_step members []

-- aliases
unfoldable pub aliases_at : List ℕ → Tree → Option (List Tagged)
aliases_at name t = map_at name t >>= λ members. steps aliases_step members []
