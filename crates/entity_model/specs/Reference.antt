-- The hashes of references.
use Rattle.std.specs.Prelude.{ℕ, Bool, ◌&&◌, nat_le, List, length}
use Rattle.std.specs.Char.{is_ascii_alphanumeric}
use Rattle.std.specs.List.{list_all}

-- 1 to 64 ASCII letters and digits
abbrev pub is_hash : List ℕ → Bool
is_hash text = nat_le 1 (length text) && nat_le (length text) 64 && list_all is_ascii_alphanumeric text
