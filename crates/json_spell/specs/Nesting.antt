-- How many levels the arrays and objects of a tree nest: a tree nests n levels at most.
use Rattle.std.specs.Prelude.{ℕ, zero, suc}
use Rattle.json_spell.specs.Tree.{Tree, null, boolean, number, string, array, object, Trees, no_trees, tree, Pairs, no_pairs, pair}

abbrev mutual
  -- an array or object takes one level, and what it holds nests one level less
  pub Nests : ℕ → Tree → Type 0
  Nests n null = Unit {0}
  Nests n (boolean b) = Unit {0}
  Nests n (number spelling) = Unit {0}
  Nests n (string content) = Unit {0}
  Nests zero (array values) = ⊥
  Nests (suc n) (array values) = AllNest n values
  Nests zero (object members) = ⊥
  Nests (suc n) (object members) = MembersNest n members

  -- each value does
  pub AllNest : ℕ → Trees → Type 0
  AllNest n no_trees = Unit {0}
  AllNest n (tree t ts) = Nests n t × AllNest n ts

  -- the value of each member does
  pub MembersNest : ℕ → Pairs → Type 0
  MembersNest n no_pairs = Unit {0}
  MembersNest n (pair k t ps) = Nests n t × MembersNest n ps
