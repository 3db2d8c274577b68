-- A piece that is moved from the front of a list, and what is left behind it.
use Rattle.std.proofs.Common.{arith, ◌-◌, subst, sym, ◌∙◌, ap, ◌≡◌, ℕ, ◌+◌, ◌≤◌, List, ◌++◌, length, take, drop, take-append-drop, length-take-le}
use Rattle.std.proofs.lemmas.List.{drop-drop, drop-take}
use Rattle.std.proofs.Math.Seq.{take-append_seam}

-- the piece is the buffer's front, and the rest stands after it
pub piece_taken : (bytes piece others : List ℕ) (at n : ℕ) → piece ≡ take n (drop at bytes) → n ≤ length (drop at bytes) →
    drop at bytes ≡ take n (piece ++ others) ++ drop (at + n) bytes
piece_taken bytes piece others at n is within =
    let long : length piece ≡ n = ap length is ∙ length-take-le n (drop at bytes) within in
    let front : take n (piece ++ others) ≡ piece = let P : ℕ → Type 0 = λ k. take k (piece ++ others) ≡ piece in subst P long (take-append_seam piece others) in
    sym (take-append-drop n (drop at bytes)) ∙ ap (λ front. front ++ drop n (drop at bytes)) (sym is ∙ sym front) ∙ ap (λ rest. take n (piece ++ others) ++ rest) (drop-drop n at bytes)

-- a window on a buffer that begins later shows the rest of what it showed
pub window_moved : (buffer : List ℕ) (start end count : ℕ) → start + count ≤ end →
    take (end - (start + count)) (drop (start + count) buffer) ≡ drop count (take (end - start) (drop start buffer))
window_moved buffer start end count within =
    let more : ℕ = end - (start + count) in
    let wide : end - start ≡ count + more = omega arith in
    rw wide (sym (drop-take count more (drop start buffer) ∙ ap (λ xs. take more xs) (drop-drop count start buffer)))
