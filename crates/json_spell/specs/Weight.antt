-- The weight of a tree: how many bytes its strings, numbers and names have.
use Rattle.std.specs.Prelude.{ℕ, ◌+◌, length, Bool, true, not, ◌&&◌, List, [], ◌∷◌, Option, Some, None}
use Rattle.std.specs.List.{list_any}
use Rattle.std.specs.Str.{bytes_eq}
use Rattle.json_spell.specs.Tree.{Tree, null, boolean, number, string, array, object, Trees, no_trees, tree, Pairs, no_pairs, pair, member_of}

abbrev mutual
  -- the bytes of the strings, numbers and names of a tree
  pub weight : Tree → ℕ
  weight null = 0
  weight (boolean b) = 0
  weight (number spelling) = length spelling
  weight (string content) = length content
  weight (array values) = values_weight values
  weight (object members) = members_weight members

  pub values_weight : Trees → ℕ
  values_weight no_trees = 0
  values_weight (tree t ts) = weight t + values_weight ts

  pub members_weight : Pairs → ℕ
  members_weight no_pairs = 0
  members_weight (pair k t ps) = length k + (weight t + members_weight ps)

-- the weight of a value, if it is there
abbrev pub weight_there : Option Tree → ℕ
weight_there None = 0
weight_there (Some t) = weight t

-- the weights of the members with the names, one after another
abbrev pub weights_at : List (List ℕ) → Tree → ℕ
weights_at [] t = 0
weights_at (name ∷ names) t = weight_there (member_of name t) + weights_at names t

-- no name comes twice
abbrev pub are_distinct : List (List ℕ) → Bool
are_distinct [] = true
are_distinct (name ∷ names) = not (list_any (bytes_eq name) names) && are_distinct names
