-- A text with no byte to escape is written as it is.
use Rattle.std.proofs.Common.{◌≡◌, ℕ, false, List, [], ◌∷◌, refl, ap, arith}
use Rattle.std.specs.List.{list_any}
use Rattle.std.proofs.lemmas.Bool.{or_parts}
use Rattle.std.proofs.lemmas.Bool.Decides.{nat_tests}
use Rattle.rdf_term.specs.Text.{escaped, escaped_byte, is_escaped}

stands : (x : ℕ) → is_escaped x ≡ false → escaped_byte x ≡ x ∷ []
stands x h = grind (arith, nat_tests)

pub escaped_same : (text : List ℕ) → list_any is_escaped text ≡ false → escaped text ≡ text
escaped_same [] h = refl
escaped_same (x ∷ text) h =
    let parts = or_parts (is_escaped x) (list_any is_escaped text) h in
    rw (stands x parts.0) (ap (λ t. x ∷ t) (escaped_same text parts.1))
