-- Names that are hashes of some fields.
use Rattle.std.specs.Prelude.{ℕ, List, [], ◌∷◌, ◌++◌, length, decimal, Option, Some, None}
use Rattle.hex.specs.Hex.{encode_lower}
use Rattle.md5.specs.Md5.{md5}

-- a field: its length in bytes in decimal, `:` and its bytes
abbrev pub field : List ℕ → List ℕ
field text = decimal (length text) ++ 58 ∷ text

-- a field that may be missing: `-` stands for a missing one
abbrev pub optional_field : Option (List ℕ) → List ℕ
optional_field None = 45 ∷ []
optional_field (Some text) = field text

-- the MD5 of the fields in lower-case hexadecimal digits
abbrev pub hashed_name : List ℕ → List ℕ
hashed_name fields = encode_lower (md5 fields)
