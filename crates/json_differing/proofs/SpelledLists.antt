-- Lists of members with their texts, as they grow.
use Rattle.std.proofs.Common.{◌≡◌, ℕ, zero, suc, ◌<◌, List, [], ◌∷◌, ◌++◌, length, map, get_or, refl, ap, ◌∙◌, arith}
use Rattle.std.specs.List.{All}
use Rattle.std.proofs.lemmas.List.{map-append}
use Rattle.std.proofs.lemmas.List.Elements.{All-head, All-push, All-same, All-tail}
use Rattle.json_differing.specs.declared.spelled.Spelled.{Spelled}
use Rattle.json_spell.specs.Tree.{Tree, no_pairs}
use Rattle.json_spell.specs.View.{pairs_of}
use Rattle.json_spell.specs.Reading.{add_pair}
use Rattle.json_spell.specs.Nesting.{MembersNest}
use Rattle.json_differing.specs.Spelled.{SpelledNests, spelled_view}
use Rattle.json_spell.proofs.ListSteps.{onto}

-- vectors as lists of the grammar
pub pairs-onto : (ps : List (List ℕ × Tree)) → pairs_of ps ≡ onto add_pair ps no_pairs
pairs-onto [] = refl
pairs-onto (p ∷ ps) = ap (add_pair p) (pairs-onto ps)

pub map-pushed : {A B : Type 0} (f : A → B) (xs ys : List A) (x : A) → ys ≡ xs ++ x ∷ [] → map f ys ≡ map f xs ++ f x ∷ []
map-pushed f xs ys x e = ap (map f) e ∙ map-append f xs (x ∷ [])

-- what holds of each, and of one more
pub all-pushed : {A : Type 0} (P : A → Type 0) (xs ys : List A) (x : A) → ys ≡ xs ++ x ∷ [] → All P xs → P x → All P ys
all-pushed P xs ys x e all one = All-same P ys (xs ++ x ∷ []) e (All-push P xs x all one)

-- members that each nest
pub members_nest : (n : ℕ) (ms : List Spelled) → All (SpelledNests n) ms → MembersNest n (pairs_of (map spelled_view ms))
members_nest n [] all = tt
members_nest n (m ∷ ms) all = (All-head (SpelledNests n) m ms all, members_nest n ms (All-tail (SpelledNests n) m ms all))

-- an element in a list is the same whatever stands for none
pub get_or-any : {A : Type 0} (xs : List A) (i : ℕ) (d e : A) → i < length xs → get_or xs i d ≡ get_or xs i e
get_or-any [] i d e low = absurd (omega (arith, low))
get_or-any (x ∷ xs) zero d e low = refl
get_or-any (x ∷ xs) (suc i) d e low = get_or-any xs i d e (omega (arith, low))
