-- What a test counts for.
use Rattle.std.specs.Prelude.{ℕ, Bool, if◌then◌else◌}

-- 1 if the test passes, and 0 otherwise
abbrev pub one_if : Bool → ℕ
one_if b = if b then 1 else 0
