-- Sets as lists, and the rising list of a set, under a comparison R.
use Rattle.std.specs.Prelude.{◌≡◌, Bool, not, List, [], ◌∷◌, filter, ◌⊎◌}
use Rattle.std.specs.declared.cmp.Ordering.{Ordering}
use Rattle.std.specs.declared.cmp.Ordering.TheVariants.{Less}
use Rattle.std.specs.Ordering.{eq_by_cmp}
use Rattle.std.specs.List.{list_any}
use Rattle.std.specs.BTreeSet.{insert_key}

module _ {K : Type 0} (R : K → K → Ordering) where
  -- whether the list has an element equal to k
  abbrev pub has : K → List K → Bool
  has k xs = list_any (eq_by_cmp R k) xs

  -- the elements of the list in rising order, each once
  abbrev pub sorted : List K → List K
  sorted [] = []
  sorted (x ∷ xs) = insert_key R (sorted xs) x

  -- k is below each element of the list
  abbrev pub Above : K → List K → Type 0
  Above k [] = Unit {0}
  Above k (x ∷ xs) = (R k x ≡ Less) × Above k xs

  -- each element is below those after it
  abbrev pub IsRising : List K → Type 0
  IsRising [] = Unit {0}
  IsRising (x ∷ xs) = Above x xs × IsRising xs

  -- the elements of the first list that the second doesn't have
  abbrev pub difference : List K → List K → List K
  difference xs ys = filter (λ x. not (has x ys)) xs

module _ {A : Type 0} where
  -- the fact holds of each element
  abbrev pub Each : (A → Type 0) → List A → Type 0
  Each P [] = Unit {0}
  Each P (x ∷ xs) = P x × Each P xs

  -- a is one of the elements
  abbrev pub In : A → List A → Type 0
  In a [] = ⊥
  In a (x ∷ xs) = (a ≡ x) ⊎ In a xs
