-- Facts on tests and lists that the proofs of the mapping share.
use Rattle.std.proofs.Common.{◌≡◌, Bool, true, false, ◌&&◌, cond, List, [], ◌∷◌, ◌++◌, refl}
use Rattle.std.specs.List.{AllByRecursion, flat_map}

-- where both tests hold, each does
pub both : (a b : Bool) → (a && b) ≡ true → (a ≡ true) × (b ≡ true)
both true b e = (refl, e)
both false b e = cc

-- what holds of either choice holds of the one that is chosen
pub chosen : {A : Type 0} (P : A → Type 0) (b : Bool) (x y : A) → P x → P y → P (cond b x y)
chosen P true x y p q = p
chosen P false x y p q = q

module _ {A : Type 0} (P : A → Type 0) where
  -- what holds of each element of two lists holds of each of both together
  pub append_each : (xs ys : List A) → AllByRecursion P xs → AllByRecursion P ys → AllByRecursion P (xs ++ ys)
  append_each [] ys p q = q
  append_each (x ∷ xs) ys p q = (p.0, append_each xs ys p.1 q)

module _ {A B : Type 0} (P : A → Type 0) (Q : B → Type 0) (f : A → List B) (step : (x : A) → P x → AllByRecursion Q (f x)) where
  -- what holds of each element of the lists that a function gives holds of each element of all of them
  pub flat_map_each : (xs : List A) → AllByRecursion P xs → AllByRecursion Q (flat_map f xs)
  flat_map_each [] h = tt
  flat_map_each (x ∷ xs) h = append_each Q (f x) (flat_map f xs) (step x h.0) (flat_map_each xs h.1)

-- where it holds of each element that the function gives at any place
pub flat_map_all : {A B : Type 0} (Q : B → Type 0) (f : A → List B) (xs : List A) → ((x : A) → AllByRecursion Q (f x)) → AllByRecursion Q (flat_map f xs)
flat_map_all Q f [] each = tt
flat_map_all Q f (x ∷ xs) each = append_each Q (f x) (flat_map f xs) (each x) (flat_map_all Q f xs each)
