-- The JSON values that the pages of a drill are.
use Rattle.std.specs.Prelude.{ℕ, ◌%◌, List, ◌++◌, decimal, codes}
use Rattle.json_spell.specs.Tree.{Tree, string, array, object, no_trees, tree, Pairs, no_pairs, pair}

-- the label of an item, under the language's code
unfoldable pub labels : ℕ → Tree
labels i = object (pair (codes "en") (object (pair (codes "language") (string (codes "en")) (pair (codes "value") (string (codes "item " ++ decimal i)) no_pairs))) no_pairs)

-- a snak of a property with a value of a type
unfoldable pub snak : List ℕ → List ℕ → Tree → Tree
snak property type value =
    object (pair (codes "snaktype") (string (codes "value")) (pair (codes "property") (string property)
    (pair (codes "datavalue") (object (pair (codes "type") (string type) (pair (codes "value") value no_pairs))) no_pairs)))

-- the amount that an item's statement says
unfoldable pub main : ℕ → Tree
main amount = snak (codes "P1") (codes "quantity") (object (pair (codes "amount") (string (codes "+" ++ decimal amount)) (pair (codes "unit") (string (codes "1")) no_pairs)))

-- the source that it is from
unfoldable pub source_snak : ℕ → Tree
source_snak source = snak (codes "P2") (codes "string") (string (codes "source " ++ decimal source))

unfoldable pub reference : ℕ → Tree
reference source = object (pair (codes "hash") (string (decimal source)) (pair (codes "snaks") (object (pair (codes "P2") (array (tree (source_snak source) no_trees)) no_pairs)) no_pairs))

unfoldable pub statement : ℕ → ℕ → ℕ → Tree
statement i amount source =
    object (pair (codes "mainsnak") (main amount) (pair (codes "id") (string (codes "Q" ++ (decimal i ++ codes "$1")))
    (pair (codes "rank") (string (codes "normal")) (pair (codes "references") (array (tree (reference source) no_trees)) no_pairs))))

-- the claims of an item: one statement
unfoldable pub claims : ℕ → ℕ → ℕ → Tree
claims i amount source = object (pair (codes "P1") (array (tree (statement i amount source) no_trees)) no_pairs)

-- the value of a page whose last members are these
unfoldable pub page : ℕ → Pairs → Tree
page i others = object (pair (codes "type") (string (codes "item")) (pair (codes "id") (string (codes "Q" ++ decimal i)) (pair (codes "labels") (labels i) others)))

abbrev pub earlier_tree : ℕ → Tree
earlier_tree i = page i no_pairs

abbrev pub later_tree : ℕ → Tree
later_tree i = page i (pair (codes "claims") (claims i (i % 7) (i % 3)) no_pairs)
