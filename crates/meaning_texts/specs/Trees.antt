-- JSON values whose texts are UTF-8.
use Rattle.std.specs.Str.{IsUtf8}
use Rattle.json_spell.specs.Tree.{Tree, null, boolean, number, string, array, object, Trees, no_trees, tree, Pairs, no_pairs, pair}

abbrev mutual
  -- each string, each name and each number's spelling is UTF-8
  pub IsUtf8Tree : Tree → Type 0
  IsUtf8Tree null = Unit {0}
  IsUtf8Tree (boolean b) = Unit {0}
  IsUtf8Tree (number spelling) = IsUtf8 spelling
  IsUtf8Tree (string content) = IsUtf8 content
  IsUtf8Tree (array values) = AreUtf8Trees values
  IsUtf8Tree (object members) = AreUtf8Pairs members

  -- so are those of all values
  pub AreUtf8Trees : Trees → Type 0
  AreUtf8Trees no_trees = Unit {0}
  AreUtf8Trees (tree t ts) = IsUtf8Tree t × AreUtf8Trees ts

  -- and of all members
  pub AreUtf8Pairs : Pairs → Type 0
  AreUtf8Pairs no_pairs = Unit {0}
  AreUtf8Pairs (pair k t ps) = IsUtf8 k × IsUtf8Tree t × AreUtf8Pairs ps
