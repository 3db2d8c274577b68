-- What stands in the buffer once all was put there, one behind the other.
use Rattle.std.proofs.Common.{◌≡◌, refl, sym, ◌∙◌, ap, ℕ, zero, suc, ◌+◌, ◌≤◌, List, [], ◌∷◌, ◌++◌, append_assoc, length, take, arith}
use Rattle.run_model.specs.declared.status.Status.{Status}
use Rattle.wdq_c.specs.End.{IsSaid}

-- of nothing nothing is taken
take_nothing : {A : Type 0} (n : ℕ) → take {A = A} n [] ≡ []
take_nothing zero = refl
take_nothing (suc n) = refl

-- of the first elements, fewer are the first
less : {A : Type 0} (n m : ℕ) (xs : List A) → take n (take (n + m) xs) ≡ take n xs
less zero m xs = refl
less (suc n) m [] = ap (take (suc n)) (take_nothing (suc n + m))
less (suc n) m (x ∷ xs) = let more : suc n + m ≡ suc (n + m) = omega arith in ap (λ k. take (suc n) (take k (x ∷ xs))) more ∙ ap (λ rest. x ∷ rest) (less n m xs)

-- two lists that agree in their first elements agree in fewer
take_fewer : {A : Type 0} (n m : ℕ) (xs ys : List A) → take (n + m) xs ≡ take (n + m) ys → take n xs ≡ take n ys
take_fewer n m xs ys same = sym (less n m xs) ∙ ap (take n) same ∙ less n m ys

module _ (printed saved put_printed put_saved put_all : List ℕ) (status : Status) (many : ℕ)
    (put_first : 0 + length printed ≤ length put_printed → take (0 + length printed) put_printed ≡ printed)
    (same_first : length put_saved ≡ length put_printed)
    (front : take (length printed) put_saved ≡ take (length printed) put_printed)
    (second : length printed + length saved ≤ length put_saved → take (length printed + length saved) put_saved ≡ take (length printed) put_printed ++ saved)
    (same : length put_all ≡ length put_saved)
    (front_all : take (length printed + length saved) put_all ≡ take (length printed + length saved) put_saved)
    (third : IsSaid status many (length printed + length saved) put_saved put_all) where
  first : length printed ≤ length put_printed → take (length printed) put_printed ≡ printed
  first fits = let all : length printed ≡ 0 + length printed = omega arith in ap (λ n. take n put_printed) all ∙ put_first (omega (arith, fits))

  pub shown_first : length printed ≤ length put_all → take (length printed) put_all ≡ printed
  shown_first fits = take_fewer (length printed) (length saved) put_all put_saved front_all ∙ front ∙ first (omega (arith, fits, same, same_first))

  pub shown_all : length printed + (length saved + many) ≤ length put_all → take (length printed + (length saved + many)) put_all ≡ printed ++ (saved ++ third.said)
  shown_all fits =
      ap (λ n. take n put_all) (omega (arith, third.many_are))
      ∙ third.put (omega (arith, fits, third.many_are))
      ∙ ap (λ l. l ++ third.said) (second (omega (arith, fits, same)) ∙ ap (λ l. l ++ saved) (first (omega (arith, fits, same, same_first))))
      ∙ append_assoc printed saved third.said
