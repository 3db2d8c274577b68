-- A map with other values.
use Rattle.std.specs.Prelude.{map as mapped}
use Rattle.std.specs.FinMap as map
use Rattle.entity_model.specs.EntityId.{entity_cmp}

-- the map with another value at each of its keys
unfoldable pub with_values : {X Y : Type 0} → (X → Y) → map.FinMap entity_cmp X → map.FinMap entity_cmp Y
with_values change m = map.from_entries (mapped (λ e. (e.0, change e.1)) (map.entries m))
