-- How many terms there may be.
use Rattle.std.specs.Prelude.{ℕ}

-- how many distinct terms a store has room for, unless another limit is set
abbrev pub default_max_terms : ℕ
default_max_terms = 20000000
