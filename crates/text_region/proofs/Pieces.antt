-- Pieces are told from one another by their class and number.
use Rattle.std.proofs.Common.{◌≡◌, ◌≢◌, ℕ, ◌==◌, ◌⊎◌, inl, inr, true, false, ap, ◌∙◌, ⊎_elim}
use Rattle.std.specs.Prelude.{◌&&◌}
use Rattle.std.proofs.lemmas.Bool.Decides.{eqb_tells}
use Rattle.text_region.specs.declared.piece.Piece.{Piece}
use Rattle.text_region.specs.Region.{same_piece}

-- a piece is fixed by its class and number
pub one_piece : (p q : Piece) → p.class ≡ q.class → p.number ≡ q.number → p ≡ q
one_piece p q e f =
    let f1 : ℕ → Piece = λ c. record { class = c; number = p.number } in
    let f2 : ℕ → Piece = λ n. record { class = q.class; number = n } in
    ap f1 e ∙ ap f2 f

-- two pieces are one, or they aren't, as the test says
pub piece_tells : (p q : Piece) → ((same_piece p q ≡ true) × (p ≡ q)) ⊎ ((same_piece p q ≡ false) × (p ≢ q))
piece_tells p q = ⊎_elim
    (λ a. ⊎_elim
    (λ b. inl (ap (λ v. v && (p.number == q.number)) a.0 ∙ b.0, one_piece p q a.1 b.1))
    (λ b. inr (ap (λ v. v && (p.number == q.number)) a.0 ∙ b.0, λ e. b.1 (ap (λ (x : Piece). x.number) e)))
    (eqb_tells p.number q.number))
    (λ a. inr (ap (λ v. v && (p.number == q.number)) a.0, λ e. a.1 (ap (λ (x : Piece). x.class) e)))
    (eqb_tells p.class q.class)
