-- The scan finds exactly the deep texts.
use Rattle.std.proofs.Common.{◌≡◌, ℕ, zero, suc, ◌+◌, ◌<◌, ◌≤◌, Bool, true, false, ◌||◌, cond, List, [], ◌∷◌, take, nat_lt, count_by, ⊎_elim, refl, arith}
use Rattle.std.proofs.lemmas.Bool.{or_cases}
use Rattle.std.proofs.lemmas.List.Sums.{sum_by-cons}
use Rattle.std.proofs.lemmas.Bool.Decides.{nat_tests}
use Rattle.json_spell.specs.declared.deep.Position.{Position}
use Rattle.json_spell.specs.declared.deep.Position.TheVariants.{Outside, Inside, Escaped}
use Rattle.json_spell.specs.Deep.{position_after, outside_from, is_opening, is_closing, IsDeep, deep_from}

-- more than 64 brackets are open after some byte, with those that opened and closed before
abbrev pub DeepFrom : Position → ℕ → ℕ → List ℕ → Type 0
DeepFrom position opened closed s =
    (n : ℕ) × (closed + count_by is_closing (take n (outside_from position s)) + 64 < opened + count_by is_opening (take n (outside_from position s)))

count-first : (test : ℕ → Bool) (x : ℕ) (xs : List ℕ) (n : ℕ) → count_by test (take (suc n) (x ∷ xs)) ≡ cond (test x) 1 0 + count_by test (take n xs)
count-first test x xs n = sum_by-cons (λ y. cond (test y) 1 0) x (take n xs)

pub deep_from-sound : (position : Position) (opened closed : ℕ) (s : List ℕ) → deep_from position opened closed s ≡ true → DeepFrom position opened closed s
unfolding deep_from
deep_from-sound position opened closed [] e = absurd cc
deep_from-sound Inside opened closed (x ∷ s) e = deep_from-sound (position_after Inside x) opened closed s e
deep_from-sound Escaped opened closed (x ∷ s) e = deep_from-sound (position_after Escaped x) opened closed s e
deep_from-sound Outside opened closed (x ∷ s) e =
    let o = opened + cond (is_opening x) 1 0 in
    let c = closed + cond (is_closing x) 1 0 in
    ⊎_elim (λ h. now h) (λ h. later (deep_from-sound (position_after Outside x) o c s h)) (or_cases (nat_lt (c + 64) o) (deep_from (position_after Outside x) o c s) e)
  where
    now : nat_lt (closed + cond (is_closing x) 1 0 + 64) (opened + cond (is_opening x) 1 0) ≡ true → DeepFrom Outside opened closed (x ∷ s)
    now h = let less : closed + cond (is_closing x) 1 0 + 64 < opened + cond (is_opening x) 1 0 = grind (arith, nat_tests) in (1, omega (arith, less))

    later : DeepFrom (position_after Outside x) (opened + cond (is_opening x) 1 0) (closed + cond (is_closing x) 1 0) s → DeepFrom Outside opened closed (x ∷ s)
    later d =
        let rest = outside_from (position_after Outside x) s in
        (suc d.0, omega (arith, d.1, count-first is_closing x rest d.0, count-first is_opening x rest d.0))

pub deep_from-complete : (position : Position) (opened closed : ℕ) (s : List ℕ) → opened ≤ closed + 64 → DeepFrom position opened closed s → deep_from position opened closed s ≡ true
unfolding deep_from
deep_from-complete position opened closed [] low (zero, d) = absurd (omega (arith, d))
deep_from-complete position opened closed [] low (suc n, d) = absurd (omega (arith, d))
deep_from-complete Inside opened closed (x ∷ s) low d = deep_from-complete (position_after Inside x) opened closed s low d
deep_from-complete Escaped opened closed (x ∷ s) low d = deep_from-complete (position_after Escaped x) opened closed s low d
deep_from-complete Outside opened closed (x ∷ s) low (zero, d) = absurd (omega (arith, d))
deep_from-complete Outside opened closed (x ∷ s) low (suc n, d) =
    let o = opened + cond (is_opening x) 1 0 in
    let c = closed + cond (is_closing x) 1 0 in
    let rest = outside_from (position_after Outside x) s in
    at (nat_lt (c + 64) o) refl (λ l. deep_from-complete (position_after Outside x) o c s l (n, omega (arith, d, count-first is_closing x rest n, count-first is_opening x rest n)))
  where
    at : (b : Bool) → nat_lt (closed + cond (is_closing x) 1 0 + 64) (opened + cond (is_opening x) 1 0) ≡ b
        → (opened + cond (is_opening x) 1 0 ≤ closed + cond (is_closing x) 1 0 + 64 → deep_from (position_after Outside x) (opened + cond (is_opening x) 1 0) (closed + cond (is_closing x) 1 0) s ≡ true)
        → (b || deep_from (position_after Outside x) (opened + cond (is_opening x) 1 0) (closed + cond (is_closing x) 1 0) s) ≡ true
    at true e rest = refl
    at false e rest = rest (grind (arith, nat_tests))

pub deep : (bytes : List ℕ) → deep_from Outside 0 0 bytes ≡ true → IsDeep bytes
deep bytes e = let d = deep_from-sound Outside 0 0 bytes e in (d.0, omega (arith, d.1))

pub shallow : (bytes : List ℕ) → deep_from Outside 0 0 bytes ≡ false → ¬ (IsDeep bytes)
shallow bytes e d = let found : deep_from Outside 0 0 bytes ≡ true = deep_from-complete Outside 0 0 bytes (omega arith) (d.0, omega (arith, d.1)) in cc
