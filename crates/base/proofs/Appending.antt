-- What stood in front before one step still stands there after the next.
use Rattle.std.proofs.Common.{◌≡◌, ℕ, List, [], ◌∷◌, ◌++◌, length, take, refl}

pub still_front : (xs ys zs : List ℕ) → take (length (xs ++ ys)) zs ≡ xs ++ ys → take (length xs) zs ≡ xs
still_front [] ys zs h = refl
still_front (x ∷ xs) ys [] h = cc
still_front (x ∷ xs) ys (z ∷ zs) h =
    let head : z ≡ x = cc in
    let tail : take (length (xs ++ ys)) zs ≡ xs ++ ys = cc in
    let rest = still_front xs ys zs tail in
    cc
