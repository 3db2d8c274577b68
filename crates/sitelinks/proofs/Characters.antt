-- A character that is replaced, and one that isn't, by its bytes.
use Rattle.std.proofs.Common.{◌≡◌, ℕ, ◌==◌, ◌<◌, ◌≤◌, false, List, [], ◌∷◌, refl, ap, arith, ⊎_elim}
use Rattle.std.proofs.lemmas.Bool.{cases_lt, ne_eqb, eq-eqb}
use Rattle.std.proofs.lemmas.Str.{encode_ascii}
use Rattle.sorted_sets.specs.Rising.{Each}
use Rattle.rdf_term.proofs.HighBytes.{encode_high}
use Rattle.sitelinks.specs.Replaced.{replaced}
use lib.Utf8.{encode}

pub replaced_same : (c to : ℕ) → c < 128 → to < 128 → replaced c to (encode c) ≡ encode to
replaced_same c to h k = rw (encode_ascii c h, encode_ascii to k, eq-eqb c c refl) refl

replaced-high : (from to : ℕ) → from < 128 → (bs : List ℕ) → Each (λ b. 128 ≤ b) bs → replaced from to bs ≡ bs
replaced-high from to l [] h = refl
replaced-high from to l (b ∷ bs) h =
    let other : (b == from) ≡ false = ne_eqb b from (λ e. let n : ⊥ = omega (arith, h.0) in n) in
    rw other (ap (λ rest. b ∷ rest) (replaced-high from to l bs h.1))

pub replaced_other : (c from to : ℕ) → from < 128 → (c == from) ≡ false → replaced from to (encode c) ≡ encode c
replaced_other c from to l e = ⊎_elim
    (λ low. rw (encode_ascii c low, e) refl)
    (λ high. replaced-high from to l (encode c) (encode_high c high))
    (cases_lt c 128)
