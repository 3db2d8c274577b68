-- A text is cut at a separator.
use Rattle.std.proofs.Common.{◌≡◌, ◌≢◌, ℕ, suc, ◌<◌, List, [], ◌∷◌, ◌++◌, length, get_or, Option, Some, None, MatchOption, Bor, sym, ◌∙◌, ap, subst, append_assoc, arith, ⊎_elim}
use Rattle.std.specs.Str.{IsCharBoundary, IsUtf8}
use Rattle.std.proofs.lemmas.Bool.Decides.{eqb_tells}
use Rattle.std.proofs.lemmas.Str.{IsUtf8-drop}
use Rattle.std.proofs.lemmas.Str.Pattern.{IsSplitOnceResult, split_parts}
use Rattle.graph_routes.specs.Reading.{pieces}
use Rattle.graph_routes.proofs.Parsed.{Lacks, pieces_first, pieces_whole}

-- no byte at an index is this one
pub lacks_from : (c : ℕ) (xs : List ℕ) → ((i : ℕ) → i < length xs → get_or xs i 0 ≢ c) → Lacks c xs
lacks_from c [] none = tt
lacks_from c (x ∷ xs) none = (
  ⊎_elim (λ same. absurd (none 0 (omega arith) same.1)) (λ other. other.0) (eqb_tells x c),
  lacks_from c xs (λ i low. none (suc i) (omega (arith, low))),
)

-- a piece and what comes after it
pub cut : (c : ℕ) (rest : List ℕ) (piece others : Bor (List ℕ)) (r : Option (Bor (List ℕ) × Bor (List ℕ))) → c < 128 → IsSplitOnceResult c rest r → r ≡ Some (piece, others) → pieces c rest ≡ piece.now ∷ pieces c others.now
cut c rest piece others r small h is =
    let parts : (rest ≡ piece.now ++ c ∷ others.now) × ((i : ℕ) → i < length piece.now → get_or piece.now i 0 ≢ c) =
    subst (λ o. MatchOption o ((i : ℕ) → i < length rest → get_or rest i 0 ≢ c) (λ x. (rest ≡ x.0.now ++ c ∷ x.1.now) × ((i : ℕ) → i < length x.0.now → get_or x.0.now i 0 ≢ c))) is (split_parts c rest r h small) in
    ap (pieces c) parts.0 ∙ pieces_first c piece.now others.now (lacks_from c piece.now parts.1)

-- what comes after it is text
pub cut_text : (c : ℕ) (rest : List ℕ) (piece others : Bor (List ℕ)) (r : Option (Bor (List ℕ) × Bor (List ℕ))) → IsUtf8 rest → IsSplitOnceResult c rest r → r ≡ Some (piece, others) → IsUtf8 others.now
cut_text c rest piece others r utf8 h is =
    let found = subst (λ o. IsSplitOnceResult c rest o) is h in
    let at = found.2.1 in
    subst IsUtf8 (sym found.4) (IsUtf8-drop rest found.1 utf8 (subst (IsCharBoundary rest) (sym at.ends) at.after))

-- the last piece
pub last : (c : ℕ) (rest : List ℕ) (r : Option (Bor (List ℕ) × Bor (List ℕ))) → c < 128 → IsSplitOnceResult c rest r → r ≡ None → pieces c rest ≡ rest ∷ []
last c rest r small h is =
    let none : (i : ℕ) → i < length rest → get_or rest i 0 ≢ c =
    subst (λ o. MatchOption o ((i : ℕ) → i < length rest → get_or rest i 0 ≢ c) (λ x. (rest ≡ x.0.now ++ c ∷ x.1.now) × ((i : ℕ) → i < length x.0.now → get_or x.0.now i 0 ≢ c))) is (split_parts c rest r h small) in
    pieces_whole c rest (lacks_from c rest none)

-- one piece more was found
pub found_more : (c : ℕ) (text rest : List ℕ) (found new : List (List ℕ)) (copy piece : List ℕ) (others : List (List ℕ)) → found ++ pieces c rest ≡ pieces c text
    → pieces c rest ≡ piece ∷ others → copy ≡ piece → new ≡ found ++ copy ∷ [] → new ++ others ≡ pieces c text
found_more c text rest found new copy piece others before is same pushed =
    ap (λ ps. ps ++ others) (pushed ∙ ap (λ p. found ++ p ∷ []) same)
    ∙ append_assoc found (piece ∷ []) others ∙ ap (λ ps. found ++ ps) (sym is) ∙ before
