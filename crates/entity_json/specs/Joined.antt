-- How lists and maps of a page give lists of parts.
use Rattle.std.specs.Prelude.{◌≡◌, ℕ, ◌+◌, List, [], ◌∷◌, ◌++◌, Option, None, Some}
use Rattle.json_spell.specs.Tree.{Tree}
use Rattle.entity_json.specs.Leaves.{list_of}
use Rattle.entity_json.specs.Maps.{map_at}

-- a list that `P` holds of, and after it one that `Q` holds of
pub record Then {A : Type 0} (P Q : List A → Type 0) (ys : List A) : Type 0 where
  pub front : List A
  pub rest : List A
  pub holds : P front
  pub then_holds : Q rest
  pub is : ys ≡ front ++ rest

-- what each gives, one after another
abbrev pub Joined : {X A : Type 0} → (X → List A → Type 0) → List X → List A → Type 0
Joined R [] ys = ys ≡ []
Joined R (x ∷ xs) ys = Then (R x) (Joined R xs) ys

-- one item, that `P` holds of
pub record One {X A : Type 0} (P : X → A → Type 0) (x : X) (ys : List A) : Type 0 where
  pub item : A
  pub holds : P x item
  pub is : ys ≡ item ∷ []

-- each with its place, from a first one on
abbrev pub numbered : {X : Type 0} → ℕ → List X → List (ℕ × X)
numbered n [] = []
numbered n (x ∷ xs) = (n, x) ∷ numbered (n + 1) xs

-- a list of values, each of which gives one item; `P` speaks of the place of the value, from 0, and the value
pub record InList {A : Type 0} (P : ℕ × Tree → A → Type 0) (list : Option (List Tree)) (ys : List A) : Type 0 where
  pub values : List Tree
  pub is_list : list ≡ Some values
  pub joined : Joined (One P) (numbered 0 values) ys

-- the same of a list that may be missing, and then gives nothing
abbrev pub InOptionalList : {A : Type 0} → (ℕ × Tree → A → Type 0) → Option Tree → List A → Type 0
InOptionalList P None ys = ys ≡ []
InOptionalList P (Some t) ys = InList P (list_of t) ys

-- the map under a name, of which each entry gives a list; `R` speaks of the key and the value
pub record InMap {A : Type 0} (R : List ℕ × Tree → List A → Type 0) (name : List ℕ) (t : Tree) (ys : List A) : Type 0 where
  pub members : List (List ℕ × Tree)
  pub is_map : map_at name t ≡ Some members
  pub joined : Joined R members ys
