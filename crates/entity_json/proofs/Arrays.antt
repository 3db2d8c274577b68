-- The values of an array are those that it was made of.
use Rattle.std.proofs.Common.{◌≡◌, ◌≤◌, List, [], ◌∷◌, length, Some, None, refl, ap, arith}
use Rattle.json_spell.specs.Tree.{Tree, array}
use Rattle.json_spell.specs.View.{trees_of}
use Rattle.entity_json.specs.Leaves.{items_of}
use Rattle.entity_json.specs.Maps.{map_of}

pub items-trees : (ts : List Tree) → items_of (trees_of ts) ≡ ts
items-trees [] = refl
items-trees (t ∷ ts) = ap (λ us. t ∷ us) (items-trees ts)

-- an array with values is no map
pub no_map : (ts : List Tree) → 1 ≤ length ts → map_of (Some (array (trees_of ts))) ≡ None
no_map [] some = absurd (omega arith)
no_map (t ∷ ts) some = refl
