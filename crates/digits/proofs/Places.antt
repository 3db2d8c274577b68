-- The bounds of what digits write.
use Rattle.std.proofs.Common.{ℕ, ◌+◌, ◌*◌, ◌<◌, ◌≤◌, ◌^◌, arith, add-one}
use Rattle.std.proofs.Math.Nat.{pow-le-pow_right}

-- one more place holds ten times as much
pub more_places : (i value digit : ℕ) → value < 10 ^ i → digit < 10 → 10 * value + digit < 10 ^ (i + 1)
more_places i value digit low one = rw add-one (omega arith)

-- up to so many places hold no more than so many
pub few_places : (i most value : ℕ) → value < 10 ^ i → i ≤ most → value < 10 ^ most
few_places i most value low here = omega (arith, pow-le-pow_right {n = 10} (omega arith) {i = i} {j = most} here)
