-- What stands in a slot.
use Rattle.std.specs.Prelude.{ℕ, refl}
use Rattle.std.specs.Coded.{Coded, code_by, coded×, coded_ℕ}
use Rattle.text_region.specs.declared.piece.Piece.{Piece}

-- the piece with the text of a term, and how often the term is used
pub record Occupant : Type 0 where
  pub piece : Piece
  pub count : ℕ

-- it is stored as three numbers
abbrev pub occupant_code : Coded Occupant
occupant_code =
    code_by
    (ℕ × (ℕ × ℕ))
    (coded× coded_ℕ (coded× coded_ℕ coded_ℕ))
    (λ o. (o.count, (o.piece.class, o.piece.number)))
    (λ n. record { piece = record { class = n.1.0; number = n.1.1 }; count = n.0 })
    (λ _. refl)
