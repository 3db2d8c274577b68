-- No ASCII byte begins a character beyond ASCII.
use Rattle.std.proofs.Common.{◌≡◌, ℕ, ◌<◌, ◌≤◌, false, List, [], ◌∷◌, ◌++◌, None, length, refl, arith, nat_lt}
use Rattle.std.proofs.lemmas.Bool.{le-ltb, ltb-false}
use Rattle.std.proofs.lemmas.Str.{length-encode, len_utf8_bounds}
use Rattle.sorted_sets.specs.Rising.{Each}
use Rattle.rdf_term.proofs.HighBytes.{encode_high}
use Rattle.term_reading.specs.Reader.{split_ascii}
use lib.Utf8.{encode}

high_first : (bs rest : List ℕ) → 0 < length bs → Each (λ b. 128 ≤ b) bs → split_ascii (bs ++ rest) ≡ None
high_first [] rest l h = absurd (omega arith)
high_first (b ∷ bs) rest l h = rw (le-ltb b 128 h.0) refl

pub split_ascii_high : (c : ℕ) (rest : List ℕ) → nat_lt c 128 ≡ false → split_ascii (encode c ++ rest) ≡ None
split_ascii_high c rest h = high_first (encode c) rest (omega (arith, length-encode c, len_utf8_bounds c)) (encode_high c (ltb-false c 128 h))
