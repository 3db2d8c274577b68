-- The items that the arguments after a command are.
use Rattle.std.specs.Prelude.{ℕ, ◌&&◌, ◌==◌, not, nat_lt, true, Bool, cond, List, [], ◌∷◌, length, find, Option, None, Some, is_some}
use Rattle.std.specs.Option.{option_and_then}
use Rattle.std.specs.List.{after_first, before_first, position_or_len}
use Rattle.std.specs.Str.{bytes_eq}
use Rattle.arguments.specs.Table.{Entry, fits, has_value, kind_in, number_of}
use Rattle.arguments.specs.declared.table.Command.{Command}

-- an item: its name, perhaps with a value
pub record Item : Type 0 where
  pub name : List ℕ
  pub value : Option (List ℕ)

-- this item
abbrev pub item : List ℕ → Option (List ℕ) → Item
item name value = record { name = name; value = value }

-- the byte that stands between a name and a value in one argument
abbrev pub is_equals_sign : ℕ → Bool
is_equals_sign b = b == 61

-- the item that one argument is: a name, or a name and a value around the first `=`
abbrev pub item_of_word : List ℕ → Item
item_of_word word =
    cond (nat_lt (position_or_len is_equals_sign word) (length word))
    (record { name = before_first is_equals_sign word; value = Some (after_first is_equals_sign word) })
    (record { name = word; value = None })

-- the items that the arguments are: if an argument is a name in the table that has a value, the next argument is this value
abbrev pub items_of : List Entry → List (List ℕ) → List Item
items_of table [] = []
items_of table (word ∷ []) = item_of_word word ∷ []
items_of table (word ∷ next ∷ others) =
    cond (has_value (kind_in table word)) (item word (Some next) ∷ items_of table others) (item_of_word word ∷ items_of table (next ∷ others))

-- the first item with this name
abbrev pub item_named : List ℕ → List Item → Option Item
item_named name items = find (λ (i : Item). bytes_eq i.name name) items

-- whether each item is in the table and fits it, and no name comes twice
abbrev pub are_items : List Entry → List Item → Bool
are_items table [] = true
are_items table (i ∷ items) = fits (kind_in table i.name) i.value && (not (is_some (item_named i.name items)) && are_items table items)

-- a command, and the items after it
pub record Request : Type 0 where
  pub command : Command
  pub items : List Item

-- the value of the item with this name
abbrev pub value_in : List ℕ → List Item → Option (List ℕ)
value_in name items = option_and_then (λ (i : Item). i.value) (item_named name items)

-- the number that the item with this name has, by the range in the table
abbrev pub number_in : List Entry → List ℕ → List Item → Option ℕ
number_in table name items = option_and_then (number_of (kind_in table name)) (value_in name items)

-- whether there is an item with this name
abbrev pub is_there : List ℕ → List Item → Bool
is_there name items = is_some (item_named name items)
