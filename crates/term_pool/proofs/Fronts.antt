-- What is left of a text behind a front.
use Rattle.std.proofs.Common.{◌≡◌, ◌∙◌, ℕ, ◌+◌, ◌==◌, ◌&&◌, Bool, true, false, cond, List, [], ◌∷◌, length, take, drop, Option, Some, None, MatchOption, Bor, refl, sym, ap, ◌↔◌, ⊎_elim, arith}
use Rattle.std.proofs.lemmas.Bool.{cases_eq}
use Rattle.std.proofs.lemmas.Bool.Decides.{nat_tests}
use Rattle.std.specs.Cmp.Lexicographic.{pointwise}
use Rattle.std.specs.Option.{option_map}
use Rattle.term_pool.specs.Front.{behind_front}

cond-and : {A : Type 0} (p q : Bool) (a b : A) → cond p (cond q a b) b ≡ cond (p && q) a b
cond-and true q a b = refl
cond-and false q a b = refl

by_test : (bytes text : List ℕ) → behind_front bytes text ≡ cond (pointwise ◌==◌ (take (length bytes) text) bytes) (Some (drop (length bytes) text)) None
by_test [] text = refl
by_test (b ∷ bytes) [] = refl
by_test (b ∷ bytes) (x ∷ text) =
    ap (λ left. cond (x == b) left None) (by_test bytes text)
    ∙ cond-and (x == b) (pointwise ◌==◌ (take (length bytes) text) bytes) (Some (drop (length bytes) text)) None

-- what `strip_prefix` answers
pub strips : (bytes text : List ℕ) (left : Option (Bor (List ℕ))) → MatchOption left (pointwise ◌==◌ (take (length bytes) text) bytes ≡ false) (λ x. (pointwise ◌==◌ (take (length bytes) text) bytes ≡ true) × (x.now ≡ drop (length bytes) text) × (length x.now + length bytes ≡ length text)) → option_map (λ x. x.now) left ≡ behind_front bytes text
strips bytes text None differs = sym (by_test bytes text ∙ ap (λ q. cond q (Some (drop (length bytes) text)) None) differs)
strips bytes text (Some x) is = ap (λ rest. Some rest) is.1 ∙ sym (by_test bytes text ∙ ap (λ q. cond q (Some (drop (length bytes) text)) None) is.0)

nothing_left : (bytes : List ℕ) → behind_front bytes bytes ≡ Some []
nothing_left [] = refl
nothing_left (b ∷ bytes) = let e = nothing_left bytes in grind (arith, nat_tests)

begins : (x b : ℕ) (left : Option (List ℕ)) → cond (x == b) left None ≡ Some [] → (x ≡ b) × (left ≡ Some [])
begins x b left e = ⊎_elim (λ same. grind (arith, nat_tests)) (λ other. grind (arith, nat_tests)) (cases_eq x b)

same_front : (bytes text : List ℕ) → behind_front bytes text ≡ Some [] → text ≡ bytes
same_front [] text e = cc
same_front (b ∷ bytes) [] e = cc
same_front (b ∷ bytes) (x ∷ text) e = let first = begins x b (behind_front bytes text) e in rw (first.0) (ap (λ rest. b ∷ rest) (same_front bytes text first.1))

-- nothing is left just of the same text
pub matches : (bytes text : List ℕ) → (behind_front bytes text ≡ Some []) ↔ (text ≡ bytes)
matches bytes text = (same_front bytes text, λ e. rw e (nothing_left bytes))
