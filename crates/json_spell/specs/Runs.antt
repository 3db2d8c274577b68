-- Runs of bytes of a string that are ASCII and stand for themselves. They stand in clauses of private functions alone.
use Rattle.std.specs.Prelude.{ℕ, Bool, not, ◌||◌, ◌==◌, nat_lt}

-- a quotation mark, a backslash, a control character, or a byte beyond ASCII
abbrev pub is_stop : ℕ → Bool
is_stop x = ((x == 0x22) || (x == 0x5C)) || (nat_lt x 0x20 || nat_lt 0x7F x)

abbrev pub is_plain : ℕ → Bool
is_plain x = not (is_stop x)
