-- Four digits that write a number are its digits, and the digits of a number write it.
use Rattle.std.proofs.Common.{◌≡◌, ℕ, ◌+◌, ◌*◌, ◌/◌, ◌%◌, ◌<◌, [], ◌∷◌, ◌++◌, Some, option_map, ap, ◌∙◌, arith}
use Rattle.digits.specs.Number.{two_digits, two_digits_of}
use Rattle.digits.proofs.Choices.{mapped, chained}
use Rattle.digits.proofs.Pairs.{pair_sound, pair_complete}
use Rattle.event_line.specs.Time.{four_digits, four_digits_of}

pub four_sound : (a b c d n : ℕ) → four_digits a b c d ≡ Some n → (n < 10_000) × (four_digits_of n ≡ a ∷ b ∷ c ∷ d ∷ [])
four_sound a b c d n e =
    let high = chained (λ h. option_map (λ l. 100 * h + l) (two_digits c d)) (two_digits a b) n e in
    let low = mapped (λ l. 100 * high.0 + l) (two_digits c d) n high.2 in
    let front = pair_sound a b high.0 high.1 in
    let back = pair_sound c d low.0 low.1 in
    let front_small : high.0 < 100 = front.0 in
    let back_small : low.0 < 100 = back.0 in
    let value : 100 * high.0 + low.0 ≡ n = low.2 in
    let is_front : n / 100 ≡ high.0 = omega arith in
    let is_back : n % 100 ≡ low.0 = omega arith in
    let small : n < 10_000 = omega arith in
    (small, rw (is_front, is_back) (ap (λ xs. xs ++ two_digits_of low.0) front.1 ∙ ap (λ ys. a ∷ b ∷ ys) back.1))

pub four_complete : (n : ℕ) → n < 10_000 → four_digits (48 + n / 100 / 10) (48 + n / 100 % 10) (48 + n % 100 / 10) (48 + n % 100 % 10) ≡ Some n
four_complete n small =
    let high = pair_complete (n / 100) (omega arith) in
    let low = pair_complete (n % 100) (omega arith) in
    rw (high, low) (ap Some (omega arith))
