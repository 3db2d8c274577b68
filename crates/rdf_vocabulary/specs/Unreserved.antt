-- Names in the paths of IRIs.
use Rattle.std.specs.Prelude.{ℕ, Bool, ◌||◌, ◌==◌, if◌then◌else◌, List, [], ◌∷◌}
use Rattle.std.specs.Char.{is_ascii_alphanumeric}
use Rattle.std.specs.List.{flat_map}
use Rattle.percent_encoding.specs.Percent.{percent_encode_byte}

-- ASCII letters, digits and `-._~`, which stand for themselves in each part of an IRI (RFC 3986, section 2.3)
abbrev pub is_unreserved : ℕ → Bool
is_unreserved b = is_ascii_alphanumeric b || (b == 45) || (b == 46) || (b == 95) || (b == 126)

-- a byte of a name, percent-encoded unless it is unreserved
abbrev pub escaped_name_byte : ℕ → List ℕ
escaped_name_byte b = if is_unreserved b then b ∷ [] else percent_encode_byte b

-- the name with each byte percent-encoded that is not unreserved
abbrev pub escaped_name : List ℕ → List ℕ
escaped_name name = flat_map escaped_name_byte name
