-- The values of an array are those of the vector.
use Rattle.std.proofs.Common.{◌≡◌, map, Some, ap, ◌∙◌, rules}
use Rattle.json_spell.specs.declared.json.Json.{the_lemmas}
use Rattle.json_spell.specs.Tree.{array}
use Rattle.json_spell.specs.View.{json_view, trees_of}
use Rattle.entity_json.specs.Leaves.{list_of}
use Rattle.entity_json.proofs.Arrays.{items-trees}
use Rattle.entity_json.proofs.leaf.list_of.Goals as goal

pub returns-in-Items : goal.returns-in-Items
returns-in-Items c =
    let view : json_view c.args.json.now ≡ array (trees_of (map json_view c.in-Items.items.now)) = ap json_view c.in-Items.is ∙ search (rules, the_lemmas) in
    ap list_of view ∙ ap Some (items-trees (map json_view c.in-Items.items.now))
