-- What a list or a map that may be missing has.
use Rattle.std.specs.Prelude.{ℕ, List, [], map, Option, None, Some}
use Rattle.std.specs.Borrow.{Bor}
use Rattle.json_spell.specs.declared.json.Json.{Json}
use Rattle.json_spell.specs.declared.json.Member.{Member}
use Rattle.json_spell.specs.Tree.{Tree}
use Rattle.json_spell.specs.View.{json_view, member_view, pairs_of}
use Rattle.entity_json.specs.Maps.{entries}

-- the values of an array
abbrev pub found_items : Option (Bor (List Json)) → List Tree
found_items None = []
found_items (Some items) = map json_view items.now

-- the entries of an object
abbrev pub found_entries : Option (Bor (List Member)) → List (List ℕ × Tree)
found_entries None = []
found_entries (Some members) = entries (pairs_of (map member_view members.now))
