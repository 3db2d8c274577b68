-- The sizes of the classes rise.
use Rattle.std.proofs.Common.{◌≡◌, ℕ, zero, suc, ◌+◌, ◌-◌, ◌*◌, ◌/◌, ◌%◌, ◌^◌, ◌<◌, ◌≤◌, arith, refl, sym, ap, subst, ◌∙◌, ⊎_elim}
use Rattle.std.proofs.Math.Nat.{pow-suc}
use Rattle.std.proofs.lemmas.Bool.{cases_lt}
use Rattle.std.proofs.lemmas.Nat.{div-add-mod', div-mul-add, mod-mul-add, mod_below}
use Rattle.text_region.specs.Class.{size_of, IsClassOf}

-- the size of a class by the power of two below it and the quarters that are added
size_below_four : (power quarters : ℕ) → quarters < 4 → size_of (power * 4 + quarters) ≡ (4 + quarters) * 2 ^ (2 + power)
size_below_four power quarters h = rw (div-mul-add power 4 quarters h, mod-mul-add power 4 quarters h) refl

-- four quarters make the next power of two
size_at_four : (power : ℕ) → size_of (power * 4 + 4) ≡ 8 * 2 ^ (2 + power)
size_at_four power =
    let next : power * 4 + 4 ≡ suc power * 4 + 0 = omega arith in
    let here : size_of (suc power * 4 + 0) ≡ 4 * 2 ^ (2 + suc power) = size_below_four (suc power) 0 (omega arith) in
    let same : 2 + suc power ≡ suc (2 + power) = omega arith in
    let twice : 2 ^ (2 + suc power) ≡ 2 ^ (2 + power) * 2 = ap (λ n. 2 ^ n) same ∙ pow-suc 2 (2 + power) in
    let whole : 4 * 2 ^ (2 + suc power) ≡ 8 * 2 ^ (2 + power) = omega (arith, twice) in
    ap size_of next ∙ here ∙ whole

pub size_at : (power quarters : ℕ) → quarters ≤ 4 → size_of (power * 4 + quarters) ≡ (4 + quarters) * 2 ^ (2 + power)
size_at power quarters h = ⊎_elim
    (λ l. size_below_four power quarters l)
    (λ ge. let four : quarters ≡ 4 = omega arith in subst (λ q. size_of (power * 4 + q) ≡ (4 + q) * 2 ^ (2 + power)) (sym four) (size_at_four power))
    (cases_lt quarters 4)

-- a quarter more
pub quarter_more : (power quarters : ℕ) → (4 + (quarters + 1)) * 2 ^ (2 + power) ≡ (4 + quarters) * 2 ^ (2 + power) + 2 ^ (2 + power)
quarter_more power quarters = grind arith

-- the blocks of the class after it aren't smaller
next_rises : (class : ℕ) → size_of class ≤ size_of (suc class)
next_rises class =
    let power : ℕ = class / 4 in
    let quarters : ℕ = class % 4 in
    let below : quarters < 4 = mod_below class 4 (omega arith) in
    let is : power * 4 + quarters ≡ class = div-add-mod' class 4 in
    let here : size_of class ≡ (4 + quarters) * 2 ^ (2 + power) = ap size_of (sym is) ∙ size_at power quarters (omega arith) in
    let after : suc class ≡ power * 4 + (quarters + 1) = omega (arith, is) in
    let there : size_of (suc class) ≡ (4 + (quarters + 1)) * 2 ^ (2 + power) = ap size_of after ∙ size_at power (quarters + 1) (omega arith) in
    omega (arith, here, there, quarter_more power quarters)

rise_by : (class more : ℕ) → size_of class ≤ size_of (class + more)
rise_by class zero =
    let same : class + zero ≡ class = omega arith in
    let here : size_of class ≤ size_of class = omega arith in
    subst (λ c. size_of class ≤ size_of c) (sym same) here
rise_by class (suc more) =
    let same : class + suc more ≡ suc (class + more) = omega arith in
    let risen : size_of class ≤ size_of (suc (class + more)) = omega (arith, rise_by class more, next_rises (class + more)) in
    subst (λ c. size_of class ≤ size_of c) (sym same) risen

-- the blocks of a class after it aren't smaller
pub sizes_rise : (class other : ℕ) → class ≤ other → size_of class ≤ size_of other
sizes_rise class other h =
    let more : ℕ = other - class in
    let same : class + more ≡ other = omega arith in
    subst (λ c. size_of class ≤ size_of c) same (rise_by class more)

-- a class whose blocks hold the bytes comes after one whose blocks don't
pub comes_after : (class len : ℕ) → size_of class < len → (other : ℕ) → len ≤ size_of other → class < other
comes_after class len h other k = ⊎_elim (λ l. l) (λ ge. omega (arith, sizes_rise other class ge)) (cases_lt class other)

-- a length has one class
pub one_class : (len class other : ℕ) → IsClassOf len class → IsClassOf len other → class ≡ other
one_class len class other a b = omega (arith, a.least other b.holds, b.least class a.holds)

-- the power of two after it is the size of the class four further on
pub next_power : (power size class : ℕ) → size ≡ 4 * 2 ^ (2 + power) → class ≡ power * 4 → (size * 2 ≡ 4 * 2 ^ (2 + suc power)) × (size_of (class + 4) ≡ size * 2)
next_power power size class is at =
    let same : 2 + suc power ≡ suc (2 + power) = omega arith in
    let twice : 2 ^ (2 + suc power) ≡ 2 ^ (2 + power) * 2 = ap (λ n. 2 ^ n) same ∙ pow-suc 2 (2 + power) in
    let next : class + 4 ≡ suc power * 4 + 0 = omega (arith, at) in
    let doubled : size * 2 ≡ 4 * 2 ^ (2 + suc power) = omega (arith, is, twice) in
    let here : size_of (suc power * 4 + 0) ≡ 4 * 2 ^ (2 + suc power) = size_at (suc power) 0 (omega arith) in
    (doubled, ap size_of next ∙ here ∙ sym doubled)
