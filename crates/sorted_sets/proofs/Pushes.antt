-- Induction on a list that grows at its end.
use Rattle.std.proofs.Common.{◌≡◌, List, [], ◌∷◌, ◌++◌, append_assoc, append-nil, refl, subst, sym}

from_start : {A : Type 0} (P : List A → Type 0) → ((xs : List A) (x : A) → P xs → P (xs ++ x ∷ [])) → (xs ys : List A) → P xs → P (xs ++ ys)
from_start P step xs [] h = subst P (sym (append-nil xs)) h
from_start P step xs (y ∷ ys) h = subst P (append_assoc xs (y ∷ []) ys) (from_start P step (xs ++ y ∷ []) ys (step xs y h))

-- what holds of the empty list and passes from a list to the list with one more element at its end holds of each list
pub by_pushes : {A : Type 0} (P : List A → Type 0) → P [] → ((xs : List A) (x : A) → P xs → P (xs ++ x ∷ [])) → (xs : List A) → P xs
by_pushes P start step xs = from_start P step [] xs start

-- where two lists together are empty, the first is
pub first_empty : {A : Type 0} (xs ys : List A) → xs ++ ys ≡ [] → xs ≡ []
first_empty [] ys none = refl
first_empty (x ∷ xs) ys none = cc
