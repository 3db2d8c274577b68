-- Lines of lists that are put together.
use Rattle.std.proofs.Common.{refl, ◌≡◌, ℕ, zero, suc, Bool, true, false, ◌||◌, ◌==◌, List, [], ◌∷◌, ◌++◌, take, ◌∙◌, ap, append_assoc}
use Rattle.std.specs.List.{list_any}
use Rattle.sorted_sets.specs.Rising.{Each}
use Rattle.wq_io.specs.Lines.{IsOneLine, ended_lines, line_feed, lines, whole_lines}

-- the first byte is no line feed, and the rest is one line
pub one_line-cons : (b : ℕ) (bs : List ℕ) → IsOneLine (b ∷ bs) → ((b == line_feed) ≡ false) × IsOneLine bs
one_line-cons b bs is =
    let P : Bool → Bool → Type 0 = λ s t. (s || t) ≡ false → (s ≡ false) × (t ≡ false) in
    let cases : (s t : Bool) → P s t = λ s t. elim s as (λ s. P s t) [ true ↦ λ no. absurd (cc) | false ↦ λ no. (refl, no) ] in
    cases (b == line_feed) (list_any (λ b. b == line_feed) bs) is

-- a line and its line feed come first
pub lines-line : (line others : List ℕ) → IsOneLine line → lines (line ++ line_feed ∷ others) ≡ line ∷ lines others
lines-line [] others is = refl
lines-line (b ∷ bs) others is =
    let parts = one_line-cons b bs is in
    rw parts.0 (rw (lines-line bs others parts.1) refl)

-- a last line without line feed
pub lines-last : (b : ℕ) (bs : List ℕ) → IsOneLine (b ∷ bs) → lines (b ∷ bs) ≡ (b ∷ bs) ∷ []
lines-last b [] is = rw (one_line-cons b [] is).0 refl
lines-last b (x ∷ bs) is =
    let parts = one_line-cons b (x ∷ bs) is in
    rw parts.0 (rw (lines-last x bs parts.1) refl)

-- two pieces of one line are one line
pub one_line-append : (xs ys : List ℕ) → IsOneLine xs → IsOneLine ys → IsOneLine (xs ++ ys)
one_line-append [] ys is_xs is_ys = is_ys
one_line-append (x ∷ xs) ys is_xs is_ys =
    let parts = one_line-cons x xs is_xs in
    rw parts.0 (one_line-append xs ys parts.1 is_ys)

-- a front of one line is one line
pub one_line-take : (n : ℕ) (xs : List ℕ) → IsOneLine xs → IsOneLine (take n xs)
one_line-take zero xs is = refl
one_line-take (suc n) [] is = refl
one_line-take (suc n) (x ∷ xs) is =
    let parts = one_line-cons x xs is in
    rw parts.0 (one_line-take n xs parts.1)

-- a whole line comes first
pub whole_lines-line : (line others : List ℕ) → IsOneLine line → whole_lines (line ++ line_feed ∷ others) ≡ line ∷ whole_lines others
whole_lines-line [] others is = refl
whole_lines-line (b ∷ bs) others is =
    let parts = one_line-cons b bs is in
    rw parts.0 (rw (whole_lines-line bs others parts.1) refl)

-- bytes without a line feed have no whole line
pub whole_lines-none : (part : List ℕ) → IsOneLine part → whole_lines part ≡ []
whole_lines-none [] is = refl
whole_lines-none (b ∷ bs) is =
    let parts = one_line-cons b bs is in
    rw parts.0 (rw (whole_lines-none bs parts.1) refl)

-- the whole lines of lines with their line feeds and a part of a line are these lines
pub whole_lines-ended : (done : List (List ℕ)) (part : List ℕ) → Each IsOneLine done → IsOneLine part → whole_lines (ended_lines done ++ part) ≡ done
whole_lines-ended [] part are is = whole_lines-none part is
whole_lines-ended (line ∷ others) part are is =
    let grouped : ended_lines (line ∷ others) ++ part ≡ line ++ line_feed ∷ (ended_lines others ++ part) =
    append_assoc (line ++ line_feed ∷ []) (ended_lines others) part ∙ append_assoc line (line_feed ∷ []) (ended_lines others ++ part) in
    ap whole_lines grouped ∙ whole_lines-line line (ended_lines others ++ part) are.0 ∙ ap (λ ls. line ∷ ls) (whole_lines-ended others part are.1 is)
