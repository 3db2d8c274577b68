-- Members of an object with the texts of their values, beside those of another object.
use Rattle.std.specs.Prelude.{◌≡◌, ℕ, ◌<◌, List, length, get_or, true, IsTrue, Option, Some, None}
use Rattle.json_differing.specs.declared.spelled.Spelled.{Spelled}
use Rattle.json_spell.specs.Tree.{Tree, null}
use Rattle.json_spell.specs.Closed.{ends_itself}
use Rattle.json_spell.specs.Grammar.{IsValue}
use Rattle.json_spell.specs.Nesting.{Nests}
use Rattle.json_spell.specs.Reading.{spaced, value_at}

-- what was read, or `null` where nothing was
abbrev pub read_or_null : Option (Tree × List ℕ) → Tree
read_or_null None = null
read_or_null (Some p) = p.0

-- the value that a text begins with, or `null` where it begins with none
unfoldable pub tree_of : List ℕ → Tree
tree_of text = read_or_null (spaced value_at text)

-- the name of a member, and the tree of its value
abbrev pub spelled_view : Spelled → List ℕ × Tree
spelled_view s = (s.key.now, tree_of s.text.now)

-- the text is that of a value, which ends by itself
abbrev pub IsEnclosed : List ℕ → Type 0
IsEnclosed text = (ends_itself (tree_of text) ≡ true) × IsValue (tree_of text) text

-- so it is where the member says so
abbrev pub IsKnown : Spelled → Type 0
IsKnown s = IsTrue s.closed → IsEnclosed s.text.now

-- the value nests no more levels than so many
abbrev pub SpelledNests : ℕ → Spelled → Type 0
SpelledNests n s = Nests n (spelled_view s).1

-- the member at the index is the same
pub record IsAt (known : List Spelled) (member : List ℕ × Tree) (index : ℕ) : Type 0 where
  pub low : index < length known
  pub same : (other : Spelled) → spelled_view (get_or known index other) ≡ member

abbrev pub IsTwin : List Spelled → List ℕ × Tree → Option ℕ → Type 0
IsTwin known member None = Unit {0}
IsTwin known member (Some index) = IsAt known member index

-- the twin is the member of the other object that it names
abbrev pub HasTwin : List Spelled → Spelled → Type 0
HasTwin known s = IsTwin known (spelled_view s) s.twin
