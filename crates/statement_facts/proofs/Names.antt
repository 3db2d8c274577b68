-- The name of a statement's node, character by character.
use Rattle.std.proofs.Common.{◌≡◌, ℕ, ◌+◌, ◌/◌, ◌%◌, ◌<◌, ◌≤◌, inl, inr, Bool, true, false, cond, nat_lt, List, [], ◌∷◌, ◌++◌, map, refl, ap, ◌∙◌, arith}
use lib.Utf8.{encode}
use Rattle.std.specs.Str.{encode_utf8_all}
use Rattle.std.proofs.lemmas.Bool.{cases_lt}
use Rattle.std.proofs.lemmas.Bool.Decides.{nat_tests}
use Rattle.std.proofs.lemmas.List.Concat.{flat_map-append}
use Rattle.statement_facts.specs.Node.{name_byte, name_char, statement_name}

-- an ASCII character is its byte
low : (c : ℕ) → c < 128 → name_byte c ≡ name_char c ∷ []
low c h = grind (arith, nat_tests)

-- a character beyond ASCII becomes `-`, and so does a byte that begins one
high : (c : ℕ) → 128 ≤ c → name_char c ≡ 45
high c h = grind (arith, nat_tests)

lead : (b : ℕ) → 192 ≤ b → name_byte b ≡ 45 ∷ []
lead b h = grind (arith, nat_tests)

-- a byte that goes on with a character is left out
later : (n : ℕ) → name_byte (128 + n % 64) ≡ []
later n = grind (arith, nat_tests)

both : (b : Bool) (x y z : List ℕ) → statement_name x ≡ z → statement_name y ≡ z → statement_name (cond b x y) ≡ z
both true x y z p q = p
both false x y z p q = q

one : (c : ℕ) → statement_name (encode c) ≡ name_char c ∷ []
unfolding encode
one c = elim (cases_lt c 128) [
  | inl lt ↦ let small : nat_lt c 128 ≡ true = grind (arith, nat_tests) in rw (small, low c lt) refl
  | inr ge ↦
      let large : nat_lt c 128 ≡ false = grind (arith, nat_tests) in
      rw (large, high c ge)
      (both (nat_lt c 2048) _ _ _ (rw (lead (192 + c / 64) (omega arith), later c) refl)
      (both (nat_lt c 65536) _ _ _ (rw (lead (224 + c / 4096) (omega arith), later (c / 64), later c) refl)
      (rw (lead (240 + c / 262144) (omega arith), later (c / 4096), later (c / 64), later c) refl)))
]

-- each character of an id becomes one in the name
pub name_chars : (id : List ℕ) → statement_name (encode_utf8_all id) ≡ map name_char id
name_chars [] = refl
name_chars (c ∷ id) =
    flat_map-append name_byte (encode c) (encode_utf8_all id)
    ∙ ap (λ t. t ++ statement_name (encode_utf8_all id)) (one c) ∙ ap (λ t. name_char c ∷ t) (name_chars id)
