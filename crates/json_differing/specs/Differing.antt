-- What two trees have of their own: each less the members of its maps that both have.
use Rattle.std.specs.Prelude.{◌≡◌, ◌≢◌, ◌⊎◌, ◌||◌, Bool, false, ℕ, zero, suc, List, [], ◌∷◌, map}
use Rattle.std.specs.Str.{bytes_eq}
use Rattle.sorted_sets.specs.Rising.{Each, In}
use Rattle.sorted_sets.specs.Merging.{Changes}
use Rattle.json_spell.specs.Tree.{Tree, object, Pairs}
use Rattle.json_spell.specs.View.{pairs_of}

-- the members of an object
abbrev pub Members : Type 0
Members = List (List ℕ × Tree)

-- some member has the name
abbrev pub has_name : List ℕ → List (List ℕ × Tree) → Bool
has_name name [] = false
has_name name (m ∷ ms) = bytes_eq m.0 name || has_name name ms

-- no name comes twice
abbrev pub AreApart : List (List ℕ × Tree) → Type 0
AreApart [] = Unit {0}
AreApart (m ∷ ms) = ((o : List ℕ × Tree) → In o ms → o.0 ≢ m.0) × AreApart ms

-- two maps in which no name comes twice, and the members that are gone from the first and those that came to the second; all
-- others have both, in the same order
pub record AreLess (olds news gones comes : Pairs) : Type 0 where
  pub old : List (List ℕ × Tree)
  pub new : List (List ℕ × Tree)
  pub gone : List (List ℕ × Tree)
  pub come : List (List ℕ × Tree)
  pub old_is : olds ≡ pairs_of old
  pub new_is : news ≡ pairs_of new
  pub gone_is : gones ≡ pairs_of gone
  pub come_is : comes ≡ pairs_of come
  pub changes : Changes old new gone come
  pub old_apart : AreApart old
  pub new_apart : AreApart new

-- members of one name in four objects
pub record Row : Type 0 where
  pub name : List ℕ
  pub old : Tree
  pub new : Tree
  pub gone : Tree
  pub come : Tree

-- the fact holds of the values of each name; the four objects have the same names in the same order
pub record InTurn (P : Tree → Tree → Tree → Tree → Type 0) (olds news gones comes : Pairs) : Type 0 where
  pub rows : List Row
  pub old_is : olds ≡ pairs_of (map (λ (r : Row). (r.name, r.old)) rows)
  pub new_is : news ≡ pairs_of (map (λ (r : Row). (r.name, r.new)) rows)
  pub gone_is : gones ≡ pairs_of (map (λ (r : Row). (r.name, r.gone)) rows)
  pub come_is : comes ≡ pairs_of (map (λ (r : Row). (r.name, r.come)) rows)
  pub holds : Each (λ (r : Row). P r.old r.new r.gone r.come) rows

-- the fact holds of the members of four objects
pub record AreObjects (P : Pairs → Pairs → Pairs → Pairs → Type 0) (old new gone come : Tree) : Type 0 where
  pub olds : Pairs
  pub news : Pairs
  pub gones : Pairs
  pub comes : Pairs
  pub old_is : old ≡ object olds
  pub new_is : new ≡ object news
  pub gone_is : gone ≡ object gones
  pub come_is : come ≡ object comes
  pub holds : P olds news gones comes

-- nothing was left out, or the fact holds of the members
abbrev pub Differs : (Pairs → Pairs → Pairs → Pairs → Type 0) → Tree → Tree → Tree → Tree → Type 0
Differs P old new gone come = ((gone ≡ old) × (come ≡ new)) ⊎ AreObjects P old new gone come

-- what objects have of their own, where the maps stand so many levels below them
abbrev pub Inside : ℕ → Pairs → Pairs → Pairs → Pairs → Type 0
Inside zero = AreLess
Inside (suc n) = InTurn (Differs (Inside n))

-- what trees have of their own
abbrev pub Differ : ℕ → Tree → Tree → Tree → Tree → Type 0
Differ n = Differs (Inside n)
