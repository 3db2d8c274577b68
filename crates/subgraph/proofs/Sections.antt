-- The texts of graphs, one after the other.
use Rattle.std.proofs.Common.{◌≡◌, refl, ◌∙◌, ap, ℕ, zero, suc, List, ◌++◌}
use Rattle.subgraph.specs.Sections.{texts_below}

-- the same texts
pub below-same : (f g : ℕ → List ℕ) → ((i : ℕ) → f i ≡ g i) → (n : ℕ) → texts_below n f ≡ texts_below n g
below-same f g same zero = refl
below-same f g same (suc n) = ap (λ l. l ++ f n) (below-same f g same n) ∙ ap (λ l. texts_below n g ++ l) (same n)
