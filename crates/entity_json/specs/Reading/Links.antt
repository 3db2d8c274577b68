-- Links to articles.
use Rattle.std.specs.Prelude.{ℕ, List, [], Option, Some, codes}
use Rattle.json_spell.specs.Tree.{Tree}
use Rattle.entity_model.specs.declared.entity.Link.{Link}
use Rattle.entity_json.specs.Leaves.{◌>>=◌, text_at}
use Rattle.entity_json.specs.Maps.{map_at}
use Rattle.entity_json.specs.Reading.Items.{item_ids_at}
use Rattle.entity_json.specs.Reading.Steps.{steps, put}

-- a link
unfoldable pub link_of : Tree → Option Link
link_of t = do
  site ← text_at (codes "site") t
  title ← text_at (codes "title") t
  badges ← item_ids_at (codes "badges") t
  Some (record { site = site; title = title; badges = badges })

-- one link, by its member of the map
abbrev pub link_step : List ℕ × Tree → List Link → Option (List Link)
link_step member out = put out (link_of member.1)

-- the links
unfoldable pub links_at : List ℕ → Tree → Option (List Link)
links_at name t = map_at name t >>= λ members. steps link_step members []
