-- Texts are ordered by the first byte that differs, or else by their lengths.
use Rattle.std.proofs.Common.{◌≡◌, refl, sym, ◌∙◌, ap, ℕ, zero, suc, ◌<◌, Bool, true, false, not, ◌==◌, List, [], ◌∷◌, length, get_or, Ordering, Less, Equal, Greater, arith, true≢false}
use Rattle.std.specs.Prelude.{min}
use Rattle.std.specs.{Cmp.nat_cmp_is, Cmp.nat_cmp_total, Cmp.ranks, Ordering.MatchOrdering, Ordering.nat_cmp, Ordering.ordering_then}
use Rattle.std.specs.Slice.Scan.{HoldsNowhere, differ}
use Rattle.std.proofs.{lemmas.Bool.eqb-true, lemmas.Cmp.tied_itself}
use Rattle.rdf_term.specs.Order.{bytes_cmp}

-- up to a place the texts are the same
abbrev pub Alike : List ℕ → List ℕ → ℕ → Type 0
Alike xs ys place = HoldsNowhere (differ xs ys) 0 place

unlike : (b : Bool) → not b ≡ false → b ≡ true
unlike true e = refl
unlike false e = absurd (true≢false e)

same_byte : (x y : ℕ) → not (x == y) ≡ false → x ≡ y
same_byte x y e = eqb-true x y (unlike (x == y) e)

behind : (x y : ℕ) (xs ys : List ℕ) (place : ℕ) → Alike (x ∷ xs) (y ∷ ys) (suc place) → Alike xs ys place
behind x y xs ys place alike k low high = alike (suc k) (omega arith) (omega (arith, high))

-- bytes that are the same decide nothing
tied : (x y : ℕ) (rest : Ordering) → x ≡ y → ordering_then (nat_cmp x y) rest ≡ rest
tied x y rest e = ap (λ z. ordering_then (nat_cmp x z) rest) (sym e) ∙ ap (λ r. ordering_then r rest) (tied_itself nat_cmp_total x)

decided : (x y : ℕ) (r rest : Ordering) → MatchOrdering r (x < y) (x ≡ y) (y < x) → (x == y) ≡ false → ordering_then r rest ≡ r
decided x y Less rest m other = refl
decided x y Equal rest m other = let same : x ≡ y = m in absurd (true≢false (sym (by same) ∙ other))
  where
    by : x ≡ y → (x == y) ≡ true
    by e = grind (arith, e)
decided x y Greater rest m other = refl

-- the first byte that differs decides
pub by_byte : (place : ℕ) (xs ys : List ℕ) → place < length xs → place < length ys → Alike xs ys place → differ xs ys place ≡ true → nat_cmp (get_or xs place 0) (get_or ys place 0) ≡ bytes_cmp xs ys
by_byte place [] ys one two alike apart = absurd (omega (arith, one))
by_byte place (x ∷ xs) [] one two alike apart = absurd (omega (arith, two))
by_byte zero (x ∷ xs) (y ∷ ys) one two alike apart = sym (decided x y (nat_cmp x y) (bytes_cmp xs ys) (ranks x y) (other (x == y) apart))
  where
    other : (b : Bool) → not b ≡ true → b ≡ false
    other true e = sym e
    other false e = refl
by_byte (suc place) (x ∷ xs) (y ∷ ys) one two alike apart =
    by_byte place xs ys (omega (arith, one)) (omega (arith, two)) (behind x y xs ys place alike) apart
    ∙ sym (tied x y (bytes_cmp xs ys) (same_byte x y (alike 0 (omega arith) (omega arith))))

one_more : (a b : ℕ) (r : Ordering) → MatchOrdering r (a < b) (a ≡ b) (b < a) → MatchOrdering r (suc a < suc b) (suc a ≡ suc b) (suc b < suc a)
one_more a b Less m = let l : a < b = m in omega (arith, l)
one_more a b Equal m = let e : a ≡ b = m in ap suc e
one_more a b Greater m = let l : b < a = m in omega (arith, l)

-- where no byte of the shorter text differs, the lengths decide
pub by_lengths : (xs ys : List ℕ) → Alike xs ys (min (length xs) (length ys)) → nat_cmp (length xs) (length ys) ≡ bytes_cmp xs ys
by_lengths [] [] alike = refl
by_lengths [] (y ∷ ys) alike = sym (nat_cmp_is 0 (length (y ∷ ys)) Less (omega arith))
by_lengths (x ∷ xs) [] alike = sym (nat_cmp_is (length (x ∷ xs)) 0 Greater (omega arith))
by_lengths (x ∷ xs) (y ∷ ys) alike =
    let least : min (length (x ∷ xs)) (length (y ∷ ys)) ≡ suc (min (length xs) (length ys)) = omega arith in
    let all : Alike (x ∷ xs) (y ∷ ys) (suc (min (length xs) (length ys))) = λ k low high. alike k low (omega (arith, high, least)) in
    sym (nat_cmp_is (length (x ∷ xs)) (length (y ∷ ys)) (nat_cmp (length xs) (length ys)) (one_more (length xs) (length ys) _ (ranks (length xs) (length ys))))
    ∙ by_lengths xs ys (behind x y xs ys (min (length xs) (length ys)) all)
    ∙ sym (tied x y (bytes_cmp xs ys) (same_byte x y (all 0 (omega arith) (omega arith))))
