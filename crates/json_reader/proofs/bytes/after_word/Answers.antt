-- std's test of a prefix is the walk over the word.
use Rattle.std.proofs.Common.{◌≡◌, ℕ, ◌+◌, Bool, true, false, ◌&&◌, ◌==◌, nat_eq, cond, List, [], ◌∷◌, length, take, drop, Option, Some, None, option_map, MatchOption, Bor, refl, sym, ap, ◌∙◌}
use Rattle.std.specs.Cmp.Lexicographic.{pointwise}
use Rattle.json_spell.specs.Reading.{after_word}
use Rattle.json_reader.proofs.bytes.after_word.Goals as goal

both : {A : Type 0} (a b : Bool) (x y : A) → cond a (cond b x y) y ≡ cond (a && b) x y
both true b x y = refl
both false b x y = refl

word-is : (word s : List ℕ) → after_word word s ≡ cond (pointwise nat_eq (take (length word) s) word) (Some (drop (length word) s)) None
word-is [] s = refl
word-is (c ∷ word) [] = refl
word-is (c ∷ word) (x ∷ s) =
    ap (λ o. cond (x == c) o None) (word-is word s) ∙ both (x == c) (pointwise nat_eq (take (length word) s) word) (Some (drop (length word) s)) None

by_result : (word s : List ℕ) (r : Option (Bor (List ℕ)))
    → MatchOption r (pointwise nat_eq (take (length word) s) word ≡ false) (λ x. (pointwise nat_eq (take (length word) s) word ≡ true) × (x.now ≡ drop (length word) s) × (length x.now + length word ≡ length s))
    → option_map (λ rest. rest.now) r ≡ after_word word s
by_result word s None h = sym (word-is word s ∙ rw h refl)
by_result word s (Some rest) h = ap Some (h.1) ∙ sym (word-is word s ∙ rw (h.0) refl)

pub returns-clause-rest : goal.returns-clause-rest
returns-clause-rest c = by_result c.args.word.now c.args.bytes.now c.strip_prefix.result c.strip_prefix.ensures.cases
