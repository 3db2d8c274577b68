-- Bytes whose last line a line feed ends are as many as those of their lines with a line feed each, and others are one fewer.
use Rattle.std.proofs.Common.{◌≡◌, ◌≢◌, ℕ, ◌+◌, ◌==◌, ◌⊎◌, inl, inr, suc, Bool, true, false, cond, List, [], ◌∷◌, length, Option, None, Some, refl, ap, arith}
use Rattle.std.specs.Prelude.{option_and_then}
use Rattle.wq_io.specs.Lines.{ended_lines, line_feed, lines, onto_first_line}
use Rattle.snapshot.specs.File.{feeds, onto_line}

-- these lines were found, and their bytes are so many; or none were, since the last one isn't ended
abbrev Found : Option (List (List ℕ)) → List (List ℕ) → ℕ → Type 0
Found found ls n = ((found ≡ Some ls) × (n ≡ length (ended_lines ls))) ⊎ ((found ≡ None) × (n + 1 ≡ length (ended_lines ls)))

one_more : (b n : ℕ) (t : Bool) (found : Option (List (List ℕ))) (ls : List (List ℕ)) → Found found ls n
    → Found (option_and_then (λ ls. cond t (Some ([] ∷ ls)) (onto_line b ls)) found) (cond t ([] ∷ ls) (onto_first_line b ls)) (suc n)
one_more b n true found ls (inl is) = inl (ap (option_and_then (λ ls. Some ([] ∷ ls))) is.0, omega (arith, is.1))
one_more b n true found ls (inr is) = inr (ap (option_and_then (λ ls. Some ([] ∷ ls))) is.0, omega (arith, is.1))
one_more b n false found [] (inl is) = inr (ap (option_and_then (onto_line b)) is.0, omega (arith, is.1))
one_more b n false found [] (inr is) = absurd (omega (arith, is.1))
one_more b n false found (l ∷ ls) (inl is) = inl (ap (option_and_then (onto_line b)) is.0, omega (arith, is.1))
one_more b n false found (l ∷ ls) (inr is) = inr (ap (option_and_then (onto_line b)) is.0, omega (arith, is.1))

either : (bytes : List ℕ) → Found (feeds bytes) (lines bytes) (length bytes)
either [] = inl (refl, refl)
either (b ∷ bs) = one_more b (length bs) (b == line_feed) (feeds bs) (lines bs) (either bs)

-- where a line feed ends the last line
pub feeds-whole : (bytes : List ℕ) → length bytes ≡ length (ended_lines (lines bytes)) → feeds bytes ≡ Some (lines bytes)
feeds-whole bytes same = by (either bytes)
  where
    by : Found (feeds bytes) (lines bytes) (length bytes) → feeds bytes ≡ Some (lines bytes)
    by (inl is) = is.0
    by (inr is) = absurd (omega (arith, is.1, same))

-- where none does
pub feeds-unended : (bytes : List ℕ) → length bytes ≢ length (ended_lines (lines bytes)) → feeds bytes ≡ None
feeds-unended bytes other = by (either bytes)
  where
    by : Found (feeds bytes) (lines bytes) (length bytes) → feeds bytes ≡ None
    by (inl is) = absurd (other is.1)
    by (inr is) = is.0
