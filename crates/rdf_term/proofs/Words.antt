-- A small fact that readers of words need.
use Rattle.std.proofs.Common.{◌≡◌, ℕ, ◌==◌, Bool, false, List, [], ◌∷◌, length, refl}
use Rattle.std.specs.List.{list_all}
use Rattle.rdf_term.specs.Grammar.{is_word}

pub is_word_filled : (test : ℕ → Bool) (xs : List ℕ) → (length xs == 0) ≡ false → is_word test xs ≡ list_all test xs
is_word_filled test [] h = cc
is_word_filled test (x ∷ xs) h = refl
