-- The keys of blocks in parts.
use Rattle.std.proofs.Common.{◌≡◌, ℕ, zero, suc, ◌<◌, ◌≤◌, List, [], ◌∷◌, ◌++◌, length, get_or, take, drop, refl, sym, ◌∙◌, ap, append_assoc, length-append, arith}
use Rattle.std.proofs.lemmas.List.{take-append-drop}
use Rattle.block_index.specs.Blocks.{keys_of, IsFilled, AreFilled}
use Rattle.block_index.specs.Search.{keys_before, keys_from}

module _ {K : Type 0} where
  pub keys_of-append : (xs ys : List (List K)) → keys_of (xs ++ ys) ≡ keys_of xs ++ keys_of ys
  keys_of-append [] ys = refl
  keys_of-append (x ∷ xs) ys = ap (λ l. x ++ l) (keys_of-append xs ys) ∙ sym (append_assoc x (keys_of xs) (keys_of ys))

  nothing : (at : ℕ) → ◌≡◌ {A = List K} [] (take at [] ++ (drop at [] ++ []))
  nothing zero = refl
  nothing (suc at) = refl

  -- the keys are those before a position and those from it on
  pub at_position : (bs : List (List K)) (i at : ℕ) → keys_of bs ≡ keys_before bs i at ++ keys_from bs i at
  at_position [] zero at = nothing at
  at_position [] (suc i) at = nothing at
  at_position (b ∷ bs) zero at = ap (λ l. l ++ keys_of bs) (sym (take-append-drop at b)) ∙ append_assoc (take at b) (drop at b) (keys_of bs)
  at_position (b ∷ bs) (suc i) at =
      ap (λ l. b ++ l) (at_position bs i at)
      ∙ sym (append_assoc b (keys_before bs i at) (keys_from bs i at))
      ∙ ap (λ l. l ++ keys_from bs i at) (sym (append_assoc b (keys_of (take i bs)) (take at (get_or bs i []))))

  pub AreFilled-append : (xs ys : List (List K)) → AreFilled xs → AreFilled ys → AreFilled (xs ++ ys)
  AreFilled-append [] ys hx hy = hy
  AreFilled-append (x ∷ xs) ys hx hy = (hx.0, AreFilled-append xs ys hx.1 hy)

  pub AreFilled-take : (n : ℕ) (xs : List (List K)) → AreFilled xs → AreFilled (take n xs)
  AreFilled-take zero xs h = tt
  AreFilled-take (suc n) [] h = tt
  AreFilled-take (suc n) (x ∷ xs) h = (h.0, AreFilled-take n xs h.1)

  pub AreFilled-drop : (n : ℕ) (xs : List (List K)) → AreFilled xs → AreFilled (drop n xs)
  AreFilled-drop zero xs h = h
  AreFilled-drop (suc n) [] h = tt
  AreFilled-drop (suc n) (x ∷ xs) h = AreFilled-drop n xs h.1

  pub filled_at : (bs : List (List K)) (i : ℕ) → i < length bs → AreFilled bs → IsFilled (get_or bs i [])
  filled_at [] i l h = absurd (omega arith)
  filled_at (b ∷ bs) zero l h = h.0
  filled_at (b ∷ bs) (suc i) l h = filled_at bs i (omega arith) h.1

  -- there are no more blocks than keys
  pub blocks_few : (bs : List (List K)) → AreFilled bs → length bs ≤ length (keys_of bs)
  blocks_few [] h = omega arith
  blocks_few (b ∷ bs) h = let some : 0 < length b = h.0.0 in omega (arith, length-append b (keys_of bs), blocks_few bs h.1)
