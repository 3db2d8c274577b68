-- The maps of a page: the members of an object, each key once, with its last value and at that place.
use Rattle.std.specs.Prelude.{ℕ, Bool, false, not, cond, ◌||◌, List, [], ◌∷◌, Option, None, Some}
use Rattle.std.specs.Str.{bytes_eq}
use Rattle.json_spell.specs.Tree.{Tree, null, boolean, number, string, array, object, no_trees, tree, Pairs, no_pairs, pair, member_of}

-- some member has the key
abbrev pub has_key : List ℕ → Pairs → Bool
has_key key no_pairs = false
has_key key (pair k t ps) = bytes_eq k key || has_key key ps

-- the members whose key doesn't come again
abbrev pub entries : Pairs → List (List ℕ × Tree)
entries no_pairs = []
entries (pair k t ps) = cond (has_key k ps) (entries ps) ((k, t) ∷ entries ps)

-- some member has another key
abbrev pub has_other_key : List ℕ → Pairs → Bool
has_other_key key no_pairs = false
has_other_key key (pair k t ps) = not (bytes_eq k key) || has_other_key key ps

-- of each member, whether its key doesn't come again
abbrev pub lasts : Pairs → List Bool
lasts no_pairs = []
lasts (pair k t ps) = not (has_key k ps) ∷ lasts ps

-- a map that may be missing; an empty array is the empty map
abbrev pub map_of : Option Tree → Option (List (List ℕ × Tree))
map_of None = Some []
map_of (Some null) = None
map_of (Some (boolean b)) = None
map_of (Some (number spelling)) = None
map_of (Some (string text)) = None
map_of (Some (array no_trees)) = Some []
map_of (Some (array (tree t ts))) = None
map_of (Some (object members)) = Some (entries members)

-- the map under a name
abbrev pub map_at : List ℕ → Tree → Option (List (List ℕ × Tree))
map_at name t = map_of (member_of name t)

-- the value of a map's only entry
abbrev pub only_value : List (List ℕ × Tree) → Option Tree
only_value [] = None
only_value (entry ∷ []) = Some entry.1
only_value (entry ∷ other ∷ rest) = None

-- the value of an object's only key
abbrev pub only_of : Tree → Option Tree
only_of null = None
only_of (boolean b) = None
only_of (number spelling) = None
only_of (string text) = None
only_of (array trees) = None
only_of (object members) = only_value (entries members)
