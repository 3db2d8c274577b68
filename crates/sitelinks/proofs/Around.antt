-- What stands round the first of a character that another takes the place of.
use Rattle.std.proofs.Common.{◌≡◌, ◌≢◌, ℕ, suc, ◌==◌, ◌<◌, false, List, [], ◌∷◌, ◌++◌, length, get_or, Option, Some, None, Bor, MatchOption, refl, ap, ◌∙◌, arith}
use Rattle.std.proofs.lemmas.Bool.{ne_eqb, eq-eqb}
use Rattle.std.proofs.lemmas.List.{map-append}
use Rattle.std.proofs.lemmas.Str.Pattern.{IsSplitOnceResult, split_parts}
use Rattle.sitelinks.specs.Replaced.{replaced, replaced_byte}

-- a text without the character stays as it is
replaced_lacking : (from to : ℕ) (text : List ℕ) → ((i : ℕ) → i < length text → get_or text i 0 ≢ from) → replaced from to text ≡ text
replaced_lacking from to [] lacks = refl
replaced_lacking from to (b ∷ text) lacks =
    let other : (b == from) ≡ false = ne_eqb b from (lacks 0 (omega arith)) in
    rw other (ap (λ rest. b ∷ rest) (replaced_lacking from to text (λ i h. lacks (suc i) (omega arith))))

replaced_word : (from to : ℕ) (text word rest : List ℕ) → text ≡ word ++ from ∷ rest → ((i : ℕ) → i < length word → get_or word i 0 ≢ from)
    → replaced from to text ≡ word ++ to ∷ replaced from to rest
replaced_word from to text word rest whole lacks =
    ap (replaced from to) whole
    ∙ map-append (replaced_byte from to) word (from ∷ rest)
    ∙ rw (eq-eqb from from refl) (ap (λ front. front ++ to ∷ replaced from to rest) (replaced_lacking from to word lacks))

-- what stands round the first of the character, where it is there
pub replaced_around : (from to : ℕ) → from < 128 → (text : List ℕ) (r : Option (Bor (List ℕ) × Bor (List ℕ))) → IsSplitOnceResult from text r
    → MatchOption r (replaced from to text ≡ text) (λ parts. replaced from to text ≡ parts.0.now ++ to ∷ replaced from to parts.1.now)
replaced_around from to low text None split = replaced_lacking from to text (split_parts from text None split low)
replaced_around from to low text (Some parts) split =
    let found = split_parts from text (Some parts) split low in
    replaced_word from to text parts.0.now parts.1.now found.0 found.1
