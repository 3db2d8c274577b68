-- Lists that are made of two lists, each in its order.
use Rattle.std.specs.Prelude.{◌≡◌, ℕ, ◌+◌, ◌≤◌, List, [], ◌∷◌, ◌⊎◌, sum_by}

-- z is first in the list, and the fact holds of what follows it
pub record Leads {A : Type 0} (z : A) (P : List A → Type 0) (xs : List A) : Type 0 where
  pub rest : List A
  pub is : xs ≡ z ∷ rest
  pub holds : P rest

-- the third list has the elements of the first two, those of each in their order
abbrev pub Merges : {A : Type 0} → List A → List A → List A → Type 0
Merges xs ys [] = (xs ≡ []) × (ys ≡ [])
Merges xs ys (z ∷ zs) = Leads z (λ rest. Merges rest ys zs) xs ⊎ Leads z (λ rest. Merges xs rest zs) ys

-- two lists have the same elements in the same order but for those that are gone from the first and those that came to the second
pub record Changes {A : Type 0} (old new gone come : List A) : Type 0 where
  pub common : List A
  pub was : Merges common gone old
  pub is : Merges common come new

-- whatever the elements weigh, the first two lists weigh together what the last two do; so they have the same elements together, each as
-- many times
pub record Balance {A : Type 0} (xs ys us vs : List A) : Type 0 where
  pub weighs : (weight : A → ℕ) → sum_by weight xs + sum_by weight ys ≡ sum_by weight us + sum_by weight vs

-- whatever the elements weigh, the first list weighs no more than the second: it has each element at most as many times
pub record IsWithin {A : Type 0} (xs ys : List A) : Type 0 where
  pub weighs : (weight : A → ℕ) → sum_by weight xs ≤ sum_by weight ys
