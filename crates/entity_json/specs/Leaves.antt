-- The leaves of a JSON tree that pages are made of: what a value or a member of it is, where it is that.
use Rattle.std.specs.Prelude.{ℕ, Bool, false, cond, ◌&&◌, ◌==◌, nat_le, nat_lt, List, [], ◌∷◌, length, Option, None, Some, option_map, option_and_then}
use Rattle.std.specs.Char.{is_ascii_digit}
use Rattle.std.specs.List.{list_all}
use Rattle.std.specs.Str.{bytes_eq}
use Rattle.std.specs.Str.Parse.{digits_value}
use Rattle.std.specs.Fmt.{decimal}
use Rattle.json_spell.specs.Tree.{Tree, null, boolean, number, string, array, object, Trees, no_trees, tree, member_of}
use Rattle.entity_model.specs.declared.id.IdKind.{IdKind}
use Rattle.entity_model.specs.declared.id.IdKind.TheVariants.{P, Q, L}
use Rattle.entity_model.specs.declared.id.EntityId.{EntityId}
use Rattle.entity_model.specs.IdOf.{id_of}

infixl 10 ◌>>=◌
-- the rest of a reading, where there is something to go on with
abbrev pub ◌>>=◌ : {A B : Type 0} → Option A → (A → Option B) → Option B
o >>= f = option_and_then f o

-- a text
abbrev pub text_of : Tree → Option (List ℕ)
text_of null = None
text_of (boolean b) = None
text_of (number spelling) = None
text_of (string text) = Some text
text_of (array trees) = None
text_of (object members) = None

-- a number, as it is spelled
abbrev pub number_of : Tree → Option (List ℕ)
number_of null = None
number_of (boolean b) = None
number_of (number spelling) = Some spelling
number_of (string text) = None
number_of (array trees) = None
number_of (object members) = None

-- the values of an array
abbrev pub items_of : Trees → List Tree
items_of no_trees = []
items_of (tree t ts) = t ∷ items_of ts

-- a list of values
abbrev pub list_of : Tree → Option (List Tree)
list_of null = None
list_of (boolean b) = None
list_of (number spelling) = None
list_of (string text) = None
list_of (array trees) = Some (items_of trees)
list_of (object members) = None

-- a number, or null for none
abbrev pub number_or_null : Tree → Option (Option (List ℕ))
number_or_null null = Some None
number_or_null (boolean b) = None
number_or_null (number spelling) = Some (Some spelling)
number_or_null (string text) = None
number_or_null (array trees) = None
number_or_null (object members) = None

-- the member with the name that is a text
abbrev pub text_at : List ℕ → Tree → Option (List ℕ)
text_at name t = member_of name t >>= text_of

-- the member with the name that is a number
abbrev pub number_at : List ℕ → Tree → Option (List ℕ)
number_at name t = member_of name t >>= number_of

-- the member with the name that is the text of an id
abbrev pub id_at : List ℕ → Tree → Option EntityId
id_at name t = text_at name t >>= id_of

-- what may be missing; null is there
abbrev pub optional : {A : Type 0} → (Tree → Option A) → Option Tree → Option (Option A)
optional read None = Some None
optional read (Some t) = option_map Some (read t)

-- a text that may be missing
abbrev pub optional_text_at : List ℕ → Tree → Option (Option (List ℕ))
optional_text_at name t = optional text_of (member_of name t)

-- a number that may be missing or null
abbrev pub nullable_number_at : List ℕ → Tree → Option (Option (List ℕ))
nullable_number_at name t = nullable (member_of name t)
  where
    nullable : Option Tree → Option (Option (List ℕ))
    nullable None = Some None
    nullable (Some t) = number_or_null t

-- the values of a list that may be missing
abbrev pub optional_list_at : List ℕ → Tree → Option (List Tree)
optional_list_at name t = listed (member_of name t)
  where
    listed : Option Tree → Option (List Tree)
    listed None = Some []
    listed (Some t) = list_of t

-- an id of the kind, by the kind wanted and its own
abbrev pub of_same_kind : IdKind → IdKind → EntityId → Option EntityId
of_same_kind P P id = Some id
of_same_kind P Q id = None
of_same_kind P L id = None
of_same_kind Q P id = None
of_same_kind Q Q id = Some id
of_same_kind Q L id = None
of_same_kind L P id = None
of_same_kind L Q id = None
of_same_kind L L id = Some id

-- the id of the kind that a text is
abbrev pub id_of_kind : IdKind → List ℕ → Option EntityId
id_of_kind kind text = id_of text >>= λ id. of_same_kind kind id.kind id

-- the member with the name that is the text of an id of the kind
abbrev pub id_of_kind_at : IdKind → List ℕ → Tree → Option EntityId
id_of_kind_at kind name t = text_at name t >>= id_of_kind kind

-- 0, or digits that don't begin with 0
abbrev pub is_unsigned : List ℕ → Bool
is_unsigned [] = false
is_unsigned (x ∷ rest) = cond (x == 48) (length rest == 0) ((nat_le 49 x && nat_le x 57) && list_all is_ascii_digit rest)

-- a whole number's spelling
abbrev pub is_whole : List ℕ → Bool
is_whole [] = false
is_whole (x ∷ rest) = cond (x == 45) (is_unsigned rest) (is_unsigned (x ∷ rest))

-- the whole number from 0 to 255 that is spelled so
abbrev pub small_of : List ℕ → Option ℕ
small_of spelling = let n = digits_value 10 spelling in cond (nat_lt n 256 && bytes_eq (decimal n) spelling) (Some n) None
