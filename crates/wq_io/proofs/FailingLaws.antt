-- A count of the numbers up to a bound never falls as the bound rises, and rises exactly where the next number is listed.
use Rattle.std.proofs.Common.{refl, sym, ◌≡◌, ℕ, ◌+◌, ◌≤◌, Bool, true, false, cond, ◌||◌, ◌==◌, nat_le, List, [], ◌∷◌, count_by, arith}
use Rattle.std.specs.List.{list_any}
use Rattle.std.specs.Bool.{OnTrue, OnFalse}
use Rattle.std.proofs.lemmas.Bool.Decides.{nat_tests}
use Rattle.std.proofs.lemmas.List.Sums.{sum_by-cons}

-- 1 for a number up to the bound, and 0 otherwise
abbrev pub one_to : ℕ → ℕ → ℕ
one_to m k = cond (nat_le k m) 1 0

one_later : (m n x : ℕ) → m ≤ n → one_to m x ≤ one_to n x
one_later m n x h = grind (arith, nat_tests)

one_here : (m x : ℕ) → (x == m + 1) ≡ true → one_to m x + 1 ≤ one_to (m + 1) x
one_here m x h = grind (arith, nat_tests)

-- a greater bound counts at least as many
pub counts_later : (m n : ℕ) (xs : List ℕ) → m ≤ n → count_by (λ k. nat_le k m) xs ≤ count_by (λ k. nat_le k n) xs
counts_later m n [] h = omega arith
counts_later m n (x ∷ xs) h =
    omega (arith, counts_later m n xs h, one_later m n x h, sum_by-cons (one_to m) x xs, sum_by-cons (one_to n) x xs)

-- the next number is counted by the next bound
pub counts_next : (m : ℕ) (xs : List ℕ) → list_any (λ k. k == m + 1) xs ≡ true →
    count_by (λ k. nat_le k m) xs + 1 ≤ count_by (λ k. nat_le k (m + 1)) xs
counts_next m [] found = cc
counts_next m (x ∷ xs) found =
    let P : Bool → Type 0 = λ b. (x == m + 1) ≡ b → (b || list_any (λ k. k == m + 1) xs) ≡ true → count_by (λ k. nat_le k m) (x ∷ xs) + 1 ≤ count_by (λ k. nat_le k (m + 1)) (x ∷ xs) in
    let cases : (b : Bool) → P b = elim [
      | true ↦ λ here _. omega (arith, counts_later m (m + 1) xs (omega arith), one_here m x here, sum_by-cons (one_to m) x xs, sum_by-cons (one_to (m + 1)) x xs)
      | false ↦ λ _ there. omega (arith, counts_next m xs there, one_later m (m + 1) x (omega arith), sum_by-cons (one_to m) x xs, sum_by-cons (one_to (m + 1)) x xs)
    ] in cases (x == m + 1) refl found

-- a test that finds the next number raises the count
pub rises_where : (b : Bool) (m n : ℕ) (xs : List ℕ) → n ≡ m + 1 → b ≡ list_any (λ k. k == n) xs →
    OnTrue b (count_by (λ k. nat_le k m) xs + 1 ≤ count_by (λ k. nat_le k n) xs)
rises_where true m n xs next found = rw next (counts_next m xs (rw next at (sym found)))
rises_where false m n xs next found = tt

one_still : (m x : ℕ) → (x == m + 1) ≡ false → one_to (m + 1) x ≡ one_to m x
one_still m x h = grind (arith, nat_tests)

-- where the next number isn't listed, the next bound counts as many
pub counts_still : (m : ℕ) (xs : List ℕ) → list_any (λ k. k == m + 1) xs ≡ false →
    count_by (λ k. nat_le k (m + 1)) xs ≡ count_by (λ k. nat_le k m) xs
counts_still m [] found = refl
counts_still m (x ∷ xs) found =
    let P : Bool → Type 0 = λ b. (x == m + 1) ≡ b → (b || list_any (λ k. k == m + 1) xs) ≡ false → count_by (λ k. nat_le k (m + 1)) (x ∷ xs) ≡ count_by (λ k. nat_le k m) (x ∷ xs) in
    let cases : (b : Bool) → P b = elim [
      | true ↦ λ _ there. cc
      | false ↦ λ here there. omega (arith, counts_still m xs there, one_still m x here, sum_by-cons (one_to m) x xs, sum_by-cons (one_to (m + 1)) x xs)
    ] in cases (x == m + 1) refl found

-- where a test doesn't find the next number, the count stays
pub still_where : (b : Bool) (m n : ℕ) (xs : List ℕ) → n ≡ m + 1 → b ≡ list_any (λ k. k == n) xs →
    OnFalse b (count_by (λ k. nat_le k n) xs ≡ count_by (λ k. nat_le k m) xs)
still_where true m n xs next found = tt
still_where false m n xs next found = rw next (counts_still m xs (rw next at (sym found)))
