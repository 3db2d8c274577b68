-- The bytes of a character beyond ASCII are all beyond ASCII.
use Rattle.std.proofs.Common.{ℕ, ◌≤◌, arith, ⊎_elim}
use Rattle.std.proofs.lemmas.Bool.{cases_lt, lt-ltb, le-ltb}
use Rattle.sorted_sets.specs.Rising.{Each}
use lib.Utf8.{encode}

pub encode_high : (c : ℕ) → 128 ≤ c → Each (λ b. 128 ≤ b) (encode c)
unfolding encode
encode_high c h =
    rw (le-ltb c 128 h) (⊎_elim
    (λ two. rw (lt-ltb c 2048 two) (omega arith, (omega arith, tt)))
    (λ more. rw (le-ltb c 2048 more) (⊎_elim
    (λ three. rw (lt-ltb c 65536 three) (omega arith, (omega arith, (omega arith, tt))))
    (λ four. rw (le-ltb c 65536 four) (omega arith, (omega arith, (omega arith, (omega arith, tt)))))
    (cases_lt c 65536)))
    (cases_lt c 2048))
