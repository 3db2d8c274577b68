-- Held bytes that move into a line, or that the line can't take.
use Rattle.std.proofs.Common.{refl, sym, ◌∙◌, ap, inl, inr, ◌≡◌, ℕ, suc, ◌+◌, ◌<◌, ◌≤◌, ◌⊎◌, List, ◌∷◌, ◌++◌, length, take, drop, arith, append_assoc, take-append-drop, length-take}
use Rattle.std.proofs.lemmas.List.{drop-append-le}
use Rattle.wq_io.specs.Lines.{Reading, IsOneLine, line_feed, room}
use Rattle.wq_io.specs.Taking.{EndsAt, IsLeftHeld}
use Rattle.wq_io.specs.declared.lines.LineFault.{LineFault}
use Rattle.wq_io.specs.declared.lines.LineFault.TheVariants.{LineLong, OutOfMemory}

-- the bytes don't fit, or memory was refused
pub refused : (fault : LineFault) (old : Reading) (before moved others : List ℕ) → old.held ≡ moved ++ others → IsOneLine moved →
    length moved ≤ room old → (fault ≡ OutOfMemory) ⊎ ((fault ≡ LineLong (old.given + 1)) × (old.max_line < length before + length moved)) →
    IsLeftHeld fault old before
refused fault old before moved others held in_line within (inl is) = rw is tt
refused fault old before moved others held in_line within (inr is) =
    rw is.0 (refl, record { moved = moved; others = others; held = held; in_line = in_line; over = is.1; within = within })

-- the held bytes round a line feed among the usable ones
pub held_round : (held : List ℕ) (n index : ℕ) → EndsAt index (take n held) →
    held ≡ take index (take n held) ++ line_feed ∷ drop (suc index) held
held_round held n index ends =
    let usable : List ℕ = take n held in
    let whole : held ≡ usable ++ drop n held = sym (take-append-drop n held) in
    let front : usable ++ drop n held ≡ (take index usable ++ line_feed ∷ drop (suc index) usable) ++ drop n held = ap (λ xs. xs ++ drop n held) ends.is in
    let grouped : (take index usable ++ line_feed ∷ drop (suc index) usable) ++ drop n held ≡ take index usable ++ line_feed ∷ (drop (suc index) usable ++ drop n held) = append_assoc (take index usable) (line_feed ∷ drop (suc index) usable) (drop n held) in
    let within : suc index ≤ length usable = omega (arith, ends.within) in
    let behind : drop (suc index) usable ++ drop n held ≡ drop (suc index) held = sym (drop-append-le (suc index) usable (drop n held) within) ∙ ap (λ xs. drop (suc index) xs) (sym whole) in
    whole ∙ front ∙ grouped ∙ ap (λ xs. take index usable ++ line_feed ∷ xs) behind

-- a front of the usable bytes, and what stands behind it
pub held_front : (held : List ℕ) (n index : ℕ) →
    held ≡ take index (take n held) ++ (drop index (take n held) ++ drop n held)
held_front held n index =
    let usable : List ℕ = take n held in
    sym (take-append-drop n held) ∙ ap (λ xs. xs ++ drop n held) (sym (take-append-drop index usable)) ∙ append_assoc (take index usable) (drop index usable) (drop n held)

-- a front is no longer than the bound
pub front_within : (held : List ℕ) (n index : ℕ) → length (take index (take n held)) ≤ n
front_within held n index = omega (arith, length-take index (take n held), length-take n held)
