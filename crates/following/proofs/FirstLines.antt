-- The first line of bytes that go on for long.
use Rattle.std.proofs.Common.{◌≡◌, ℕ, zero, suc, ◌≤◌, List, [], ◌∷◌, length, take, refl, ap, arith}
use Rattle.wq_io.specs.Lines.{IsOneLine, lines, onto_first_line}
use Rattle.wq_io.proofs.LineLists.{one_line-cons}

-- a first line that goes on for so many bytes
pub record GoesOnFor (n : ℕ) (ls : List (List ℕ)) : Type 0 where
  pub first : List ℕ
  pub others : List (List ℕ)
  pub is : ls ≡ first ∷ others
  pub more : n ≤ length first

goes_on-cons : (b n : ℕ) (ls : List (List ℕ)) → GoesOnFor n ls → GoesOnFor (suc n) (onto_first_line b ls)
goes_on-cons b n ls long = record {
  first = b ∷ long.first;
  others = long.others;
  is = ap (onto_first_line b) long.is;
  more = omega (arith, long.more);
}

goes_on-first : (b : ℕ) (ls : List (List ℕ)) → GoesOnFor 1 (onto_first_line b ls)
goes_on-first b [] = record { first = b ∷ []; others = []; is = refl; more = omega arith }
goes_on-first b (l ∷ ls) = record { first = b ∷ l; others = ls; is = refl; more = omega arith }

-- bytes without a line feed among the first ones have a first line that goes on for these
pub goes_on_for : (n : ℕ) (bytes : List ℕ) → IsOneLine (take (suc n) bytes) → suc n ≤ length bytes → GoesOnFor (suc n) (lines bytes)
goes_on_for n [] one more = absurd (omega arith)
goes_on_for zero (b ∷ bs) one more =
    let parts = one_line-cons b [] one in
    rw parts.0 (goes_on-first b (lines bs))
goes_on_for (suc n) (b ∷ bs) one more =
    let parts = one_line-cons b (take (suc n) bs) one in
    rw parts.0 (goes_on-cons b (suc n) (lines bs) (goes_on_for n bs parts.1 (omega (arith, more))))
