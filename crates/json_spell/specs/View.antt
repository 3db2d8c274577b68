-- The tree that a `Json` stands for.
use Rattle.std.specs.Prelude.{ℕ, List, [], ◌∷◌}
use Rattle.json_spell.specs.declared.json.Json.{Json, fold-Json}
use Rattle.json_spell.specs.declared.json.Json.TheOpen.{Json-F, Member-F}
use Rattle.json_spell.specs.declared.json.Member.{Member, fold-Member}
use Rattle.json_spell.specs.Tree.{Tree, null, boolean, number, string, array, object, Trees, no_trees, tree, Pairs, no_pairs, pair}

-- values in a row
abbrev pub trees_of : List Tree → Trees
trees_of [] = no_trees
trees_of (t ∷ ts) = tree t (trees_of ts)

-- members in a row
abbrev pub pairs_of : List (List ℕ × Tree) → Pairs
pairs_of [] = no_pairs
pairs_of (p ∷ ps) = pair p.0 p.1 (pairs_of ps)

-- one value, with the trees of the values below it
abbrev pub json_step : Json-F Tree (List ℕ × Tree) → Tree
json_step Json-F.Null = null
json_step (Json-F.Bool b) = boolean b
json_step (Json-F.Number spelling) = number spelling.now
json_step (Json-F.Str content) = string content.now
json_step (Json-F.Made content) = string content.now
json_step (Json-F.Items values) = array (trees_of values.now)
json_step (Json-F.Members members) = object (pairs_of members.now)

-- one member, with the tree of its value
abbrev pub member_step : Member-F Tree (List ℕ × Tree) → List ℕ × Tree
member_step m = (m.key.now, m.value)

-- the tree of a value
abbrev pub json_view : Json → Tree
json_view = fold-Json Tree (List ℕ × Tree) json_step member_step

-- the name of a member, and the tree of its value
abbrev pub member_view : Member → List ℕ × Tree
member_view = fold-Member Tree (List ℕ × Tree) json_step member_step
