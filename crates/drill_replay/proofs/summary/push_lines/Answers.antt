-- Seven lines come, one after the other.
use Rattle.std.proofs.Common.{◌≡◌, ◌++◌, ◌∷◌, [], ℕ, List, append_assoc}
use Rattle.drill_replay.proofs.summary.push_lines.Goals as goal

come_in_turn : (lines : List (List ℕ)) (one two three four five six : List (List ℕ)) (a b c d e f : List ℕ)
    → one ≡ lines ++ a ∷ [] → two ≡ one ++ b ∷ [] → three ≡ two ++ c ∷ [] → four ≡ three ++ d ∷ [] → five ≡ four ++ e ∷ [] → six ≡ five ++ f ∷ []
    → (g : List ℕ) → six ++ g ∷ [] ≡ lines ++ a ∷ b ∷ c ∷ d ∷ e ∷ f ∷ g ∷ []
come_in_turn lines one two three four five six a b c d e f is_one is_two is_three is_four is_five is_six g =
    rw (is_six, is_five, is_four, is_three, is_two, is_one) (simp append_assoc)

pub returns : goal.returns
returns c =
    let first = rw c.from.ensures at c.in_ok-push_number.ensures in
    rw (come_in_turn _ _ _ _ _ _ _ _ _ _ _ _ _ first c.in_ok-push_number-2.ensures c.in_ok-push_number-3.ensures
    c.in_ok-push_number-4.ensures c.in_ok-push_number-5.ensures c.in_ok-push_number-6.ensures _) at c.push_digest.ensures
