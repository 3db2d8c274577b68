-- The first character of a part in upper case, in bytes.
use Rattle.std.proofs.Common.{◌≡◌, ℕ, ◌<◌, ◌≤◌, List, [], ◌∷◌, ◌++◌, length, refl, map, ap, arith, ⊎_elim}
use Rattle.std.specs.Char.{to_ascii_uppercase}
use Rattle.std.specs.List.{flat_map}
use Rattle.std.proofs.lemmas.Bool.{cases_lt, lt-ltb, le-ltb}
use Rattle.std.proofs.lemmas.Str.{encode_ascii, length-encode, len_utf8_bounds}
use Rattle.sorted_sets.specs.Rising.{Each}
use Rattle.rdf_term.proofs.HighBytes.{encode_high}
use Rattle.page_rdf.specs.Property.{capitalized}
use lib.Utf8.{encode}

-- upper case changes ASCII alone
upper_high : (x : ℕ) → 128 ≤ x → to_ascii_uppercase x ≡ x
upper_high x h = rw (le-ltb x 97 (omega (arith, h)), le-ltb x 123 (omega (arith, h))) refl

-- and stays within ASCII
upper_low : (x : ℕ) → x < 128 → to_ascii_uppercase x < 128
upper_low x h =
    ⊎_elim
    (λ below. rw (lt-ltb x 97 below) h)
    (λ from. rw (le-ltb x 97 from) (⊎_elim
    (λ letter. rw (lt-ltb x 123 letter) (omega (arith, h)))
    (λ above. rw (le-ltb x 123 above) h)
    (cases_lt x 123)))
    (cases_lt x 97)

high_part : (bs rest : List ℕ) → 0 < length bs → Each (λ b. 128 ≤ b) bs → bs ++ rest ≡ capitalized (bs ++ rest)
high_part [] rest l h = absurd (omega arith)
high_part (b ∷ bs) rest l h = rw (upper_high b h.0) refl

pub capital : (c : ℕ) (rest : List ℕ) → encode (to_ascii_uppercase c) ++ rest ≡ capitalized (encode c ++ rest)
capital c rest =
    ⊎_elim
    (λ low. rw (encode_ascii c low, encode_ascii (to_ascii_uppercase c) (upper_low c low)) refl)
    (λ high. rw (upper_high c high) (high_part (encode c) rest (omega (arith, length-encode c, len_utf8_bounds c)) (encode_high c high)))
    (cases_lt c 128)

flat_map_of_map : {A B C : Type 0} (f : A → B) (g : B → List C) (xs : List A) → flat_map (λ x. g (f x)) xs ≡ flat_map g (map f xs)
flat_map_of_map f g [] = refl
flat_map_of_map f g (x ∷ xs) = ap (λ rest. g (f x) ++ rest) (flat_map_of_map f g xs)

-- what is made of the elements that are shown is made of what shows them
pub made_of_shown : {A B C : Type 0} (f : A → B) (g : B → List C) (start : List C) (xs ys : List A) (all : List B) → start ≡ [] → ys ≡ xs → map f xs ≡ all →
    start ++ flat_map (λ x. g (f x)) ys ≡ flat_map g all
made_of_shown f g start xs ys all empty same shown = rw (empty, same, ← shown) (flat_map_of_map f g xs)
