-- What is in lists that are joined.
use Rattle.std.proofs.Common.{inl, inr, List, [], ◌∷◌, ◌++◌, ◌⊎◌, refl, subst}
use Rattle.std.specs.List.{flat_map}
use Rattle.sorted_sets.specs.Rising.{In}

module _ {A : Type 0} (a : A) where
  -- in the first of two lists
  pub in_front : (xs ys : List A) → In a xs → In a (xs ++ ys)
  in_front [] ys h = absurd h
  in_front (x ∷ xs) ys (inl e) = inl e
  in_front (x ∷ xs) ys (inr h) = inr (in_front xs ys h)

  -- in the second
  pub in_back : (xs ys : List A) → In a ys → In a (xs ++ ys)
  in_back [] ys h = h
  in_back (x ∷ xs) ys h = inr (in_back xs ys h)

  -- in one of them
  pub in_either : (xs ys : List A) → In a (xs ++ ys) → In a xs ⊎ In a ys
  in_either [] ys h = inr h
  in_either (x ∷ xs) ys (inl e) = inl (inl e)
  in_either (x ∷ xs) ys (inr h) = elim (in_either xs ys h) [ inl front ↦ inl (inr front) | inr back ↦ inr back ]

-- in the list of an element
pub in_flat_map : {A B : Type 0} (f : B → List A) (a : A) (b : B) (xs : List B) → In b xs → In a (f b) → In a (flat_map f xs)
in_flat_map f a b [] among h = absurd among
in_flat_map f a b (x ∷ xs) (inl e) h = in_front a (f x) (flat_map f xs) (subst (λ c. In a (f c)) e h)
in_flat_map f a b (x ∷ xs) (inr among) h = in_back a (f x) (flat_map f xs) (in_flat_map f a b xs among h)

-- an element that has it
pub flat_map_in : {A B : Type 0} (f : B → List A) (a : A) (xs : List B) → In a (flat_map f xs) → (b : B) × In b xs × In a (f b)
flat_map_in f a [] h = absurd h
flat_map_in f a (x ∷ xs) h = elim (in_either a (f x) (flat_map f xs) h) [
  | inl front ↦ (x, inl refl, front)
  | inr back ↦ let found = flat_map_in f a xs back in (found.0, inr found.1, found.2)
]
