-- The nodes of statements and references.
use Rattle.std.specs.Prelude.{ℕ, Bool, ◌||◌, ◌&&◌, ◌==◌, nat_le, nat_lt, if◌then◌else◌, List, [], ◌∷◌}
use Rattle.std.specs.Char.{is_ascii_alphanumeric}
use Rattle.std.specs.List.{flat_map}
use Rattle.rdf_term.specs.declared.term.Term.{Term}
use Rattle.rdf_vocabulary.specs.declared.prefix.Prefix.TheVariants.{Wds, Wdref}
use Rattle.rdf_vocabulary.specs.Prefix.{prefixed}

-- whether a character may stand in the name of a statement's node: ASCII letters, digits, `_` and `-`
abbrev pub is_node_char : ℕ → Bool
is_node_char c = is_ascii_alphanumeric c || (c == 95) || (c == 45)

-- a character of a statement's id in the name of its node: any other becomes `-`
abbrev pub name_char : ℕ → ℕ
name_char c = if is_node_char c then c else 45

-- whether a byte of a text in UTF-8 goes on with a character that began before it
abbrev pub is_continuation : ℕ → Bool
is_continuation b = nat_le 128 b && nat_lt b 192

-- the same by bytes of UTF-8: a character beyond ASCII becomes `-` at its first byte, and its other bytes are left out
abbrev pub name_byte : ℕ → List ℕ
name_byte b = if is_continuation b then [] else name_char b ∷ []

-- the name of a statement's node
abbrev pub statement_name : List ℕ → List ℕ
statement_name id = flat_map name_byte id

-- the node of the statement with this id
abbrev pub statement_node : List ℕ → Term
statement_node id = prefixed Wds (statement_name id)

-- the node of the reference with this hash
abbrev pub reference_node : List ℕ → Term
reference_node hash = prefixed Wdref hash
