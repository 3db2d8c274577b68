use Rattle.std.proofs.Common.{◌-◌, ◌+◌, ◌*◌, ◌^◌, ◌≤◌, ◌≡◌, ℕ}
use Rattle.text_region.specs.Class.{size_of}
use Rattle.text_region.proofs.class.class_of.Given as goal

-- the class whose blocks have a power of two
pub record IsAtPower (class size len : ℕ) : Type 0 where
  pub power : ℕ
  pub class_is : class ≡ power * 4
  pub size_is : size ≡ 4 * 2 ^ (2 + power)
  pub small : size ≤ 33554432
  pub known : class ≤ 84
  pub least : (other : ℕ) → len ≤ size_of other → class ≤ other

-- the class with some quarters more, at most four of them
pub record IsAtQuarter (class size quarter len : ℕ) : Type 0 where
  pub power : ℕ
  pub quarters : ℕ
  pub few : quarters ≤ 4
  pub class_is : class ≡ power * 4 + quarters
  pub quarter_is : quarter ≡ 2 ^ (2 + power)
  pub size_is : size ≡ (4 + quarters) * 2 ^ (2 + power)
  pub reached : len ≤ 8 * 2 ^ (2 + power)
  pub least : (other : ℕ) → len ≤ size_of other → class ≤ other

abbrev pub invariant-loop-size : goal.invariant-loop-size
invariant-loop-size l = IsAtPower l.class l.size l.len

abbrev pub decreases-loop-size : goal.decreases-loop-size
decreases-loop-size l = l.len - l.size

abbrev pub invariant-loop-size-2 : goal.invariant-loop-size-2
invariant-loop-size-2 l = IsAtQuarter l.class l.size l.quarter l.len

abbrev pub decreases-loop-size-2 : goal.decreases-loop-size-2
decreases-loop-size-2 l = l.len - l.size
