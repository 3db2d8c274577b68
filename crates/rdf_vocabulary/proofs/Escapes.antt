-- What the set of escaped bytes leaves is what is unreserved.
use Rattle.std.proofs.Common.{◌≡◌, ℕ, inl, inr, Bool, true, false, not, cond, nat_lt, List, [], ◌∷◌, ◌++◌, refl, ap, ◌∙◌, arith}
use Rattle.std.proofs.lemmas.Bool.{agree_below, agree_below_at, cases_lt}
use Rattle.std.proofs.lemmas.Bool.Decides.{nat_tests}
use Rattle.std.specs.List.{flat_map}
use Rattle.percent_encoding.specs.AsciiSet.{contains, should_percent_encode}
use Rattle.percent_encoding.specs.Percent.{encode_byte, percent_encode, percent_encode_byte}
use Rattle.rdf_vocabulary.specs.declared.unreserved.TheConstants.{RESERVED}
use Rattle.rdf_vocabulary.specs.Unreserved.{is_unreserved, escaped_name_byte, escaped_name}

below : agree_below (contains RESERVED) (λ b. not (is_unreserved b)) 128 ≡ true
below = refl

chosen : (b : ℕ) → should_percent_encode RESERVED b ≡ not (is_unreserved b)
unfolding should_percent_encode
chosen b = elim (cases_lt b 128) [
  | inl lt ↦ let same = agree_below_at (contains RESERVED) (λ c. not (is_unreserved c)) 128 b below lt in let small : nat_lt b 128 ≡ true = grind (arith, nat_tests) in rw (small, same)
  | inr le ↦ let large : nat_lt b 128 ≡ false = grind (arith, nat_tests) in let other : is_unreserved b ≡ false = grind (arith, nat_tests) in rw (large, other)
]

not_chosen : (b : Bool) (x y : List ℕ) → cond (not b) x y ≡ cond b y x
not_chosen true x y = refl
not_chosen false x y = refl

byte : (b : ℕ) → encode_byte RESERVED b ≡ escaped_name_byte b
byte b = ap (λ t. cond t (percent_encode_byte b) (b ∷ [])) (chosen b) ∙ not_chosen (is_unreserved b) (percent_encode_byte b) (b ∷ [])

bytes : (name : List ℕ) → flat_map (encode_byte RESERVED) name ≡ escaped_name name
bytes [] = refl
bytes (b ∷ name) = ap (λ t. t ++ flat_map (encode_byte RESERVED) name) (byte b) ∙ ap (λ t. escaped_name_byte b ++ t) (bytes name)

-- the crate's escapes are those of the name
pub percent_encode-reserved : (name : List ℕ) → percent_encode RESERVED name ≡ escaped_name name
unfolding percent_encode
percent_encode-reserved name = bytes name
