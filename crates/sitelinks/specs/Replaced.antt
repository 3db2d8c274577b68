-- Texts with one character in place of another.
use Rattle.std.specs.Prelude.{ℕ, List, ◌==◌, if◌then◌else◌, map}

-- one ASCII character in place of another
abbrev pub replaced_byte : ℕ → ℕ → ℕ → ℕ
replaced_byte from to b = if b == from then to else b

-- the text with one ASCII character in place of another
abbrev pub replaced : ℕ → ℕ → List ℕ → List ℕ
replaced from to text = map (replaced_byte from to) text
