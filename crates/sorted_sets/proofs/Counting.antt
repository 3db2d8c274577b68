-- What a test of two numbers counts for.
use Rattle.std.proofs.Common.{◌≡◌, ◌≢◌, ℕ, ◌==◌, ap, ⊎_elim}
use Rattle.std.proofs.lemmas.Bool.Decides.{eqb_tells}
use Rattle.sorted_sets.specs.Counting.{one_if}

pub if_same : (a b : ℕ) → a ≡ b → one_if (a == b) ≡ 1
if_same a b e = ⊎_elim (λ t. ap one_if t.0) (λ f. absurd (f.1 e)) (eqb_tells a b)

pub if_other : (a b : ℕ) → a ≢ b → one_if (a == b) ≡ 0
if_other a b n = ⊎_elim (λ t. absurd (n t.1)) (λ f. ap one_if f.0) (eqb_tells a b)
