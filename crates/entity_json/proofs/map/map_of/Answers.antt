-- An array with values is no map.
use Rattle.std.proofs.Common.{◌≡◌, ◌≤◌, map, length, Some, ap, ◌∙◌, arith, rules}
use Rattle.std.proofs.lemmas.List.{length-map}
use Rattle.json_spell.specs.declared.json.Json.{the_lemmas}
use Rattle.json_spell.specs.Tree.{array}
use Rattle.json_spell.specs.View.{json_view, trees_of}
use Rattle.entity_json.specs.Maps.{map_of}
use Rattle.entity_json.proofs.Arrays.{no_map}
use Rattle.entity_json.proofs.map.map_of.Goals as goal

pub returns-in-len1-up : goal.returns-in-len1-up
returns-in-len1-up c =
    let items = c.in-Items.items.now in
    let view : json_view c.args.json.now ≡ array (trees_of (map json_view items)) = ap json_view c.in-Items.is ∙ search (rules, the_lemmas) in
    let some : 1 ≤ length (map json_view items) = omega (arith, length-map items json_view, c.in-len1-up.len_at_least) in
    ap (λ t. map_of (Some t)) view ∙ no_map (map json_view items) some
