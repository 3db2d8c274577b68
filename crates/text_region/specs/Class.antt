-- The classes of block sizes.
use Rattle.std.specs.Prelude.{ℕ, ◌+◌, ◌*◌, ◌/◌, ◌%◌, ◌^◌, ◌<◌, ◌≤◌}

-- how many bytes a block of this class has: 16, 20, 24, 28, 32, 40, 48, 56, 64, 80 and so on, four sizes from each power of two to the next
abbrev pub size_of : ℕ → ℕ
size_of class = (4 + class % 4) * 2 ^ (2 + class / 4)

-- it is the least of the 85 classes whose blocks hold this many bytes
pub record IsClassOf (len class : ℕ) : Type 0 where
  pub known : class < 85
  pub holds : len ≤ size_of class
  pub least : (other : ℕ) → len ≤ size_of other → class ≤ other
