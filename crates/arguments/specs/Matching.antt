-- What clap gets of arguments that are a plan, and the items that it matches.
use Rattle.std.specs.Prelude.{◌≡◌, ℕ, Bool, true, false, cond, List, ◌∷◌, drop, filter, is_some, flat_map, fold, map, slice_get, string_bytes, None, Some, codes}
use Rattle.clap.specs.Facts.{explicit_source}
use Rattle.clap.specs.Words.{App, Row, Rule, first_of, found_of, new_app, new_rule, one_of, rows_of, with_rule}
use Rattle.clap.specs.declared.builder.action.ArgAction.TheVariants.{SetTrue}
use Rattle.arguments.specs.declared.table.Command.{Command}
use Rattle.arguments.specs.declared.table.ValueKind.{ValueKind}
use Rattle.arguments.specs.declared.table.ValueKind.TheVariants.{Flag}
use Rattle.arguments.specs.declared.items.Values.{Values}
use Rattle.arguments.specs.declared.items.Values.TheVariants.{Written, Matched}
use Rattle.arguments.specs.Grammar.{words_of_item}
use Rattle.arguments.specs.Items.{Item, are_items, is_there, item, items_of, value_in}
use Rattle.arguments.specs.Table.{Entry, has_value, kind_in, name_of, table_of}

-- ---- the command

-- an option that has a value, with its name as its id
abbrev pub option_rule : List ℕ → List ℕ → Rule
option_rule id long = record (new_rule id) { long = Some long }

-- a flag
abbrev pub flag_rule : List ℕ → List ℕ → Rule
flag_rule id long = record (new_rule id) { long = Some long; action = Some SetTrue }

-- the argument that clap has for an item with this name, this name without its hyphens, and a value of this kind
abbrev pub rule_of_row : List ℕ → List ℕ → ValueKind → Rule
rule_of_row name long kind = cond (has_value (Some kind)) (option_rule name long) (flag_rule name long)

-- the argument that clap has for an item: its long name is the item's without the two hyphens
abbrev pub rule_for : Entry → Rule
rule_for e = rule_of_row e.name (drop 2 e.name) e.kind

-- the command that clap has, with an argument for each item
abbrev pub app_for : Command → App
app_for command = fold with_rule (new_app (name_of command)) (map rule_for (table_of command))

-- ---- the words

-- one word for each item
abbrev pub joined_words : List Item → List (List ℕ)
joined_words items = flat_map (λ (i : Item). words_of_item i.name i.value true) items

-- the name of the command, and one word for each of these items
pub record AreItemWords (command : Command) (words : List (List ℕ)) : Type 0 where
  pub items : List Item
  pub are : words ≡ name_of command ∷ joined_words items
  pub fit : are_items (table_of command) items ≡ true

-- ---- the matches

-- the item that a row is
abbrev pub item_of_row : List Entry → Row → Item
item_of_row table r = item r.id (cond (has_value (kind_in table r.id)) (slice_get r.values 0) None)

-- the items that were matched: a row that is there by default is none
abbrev pub items_matched : List Entry → List Row → List Item
items_matched table rows = map (item_of_row table) (filter (λ (r : Row). explicit_source r.source) rows)

-- the text that a flag has as its value
abbrev pub flag_text : Bool → List ℕ
flag_text false = codes "false"
flag_text true = codes "true"

-- clap gives the values of these items, by the kind that the table has for a name
pub record HasValues (table : List Entry) (rows : List Row) (items : List Item) : Type 0 where
  pub texts : (name : List ℕ) → has_value (kind_in table name) ≡ true →
      (first_of name rows ≡ value_in name items) × (is_some (value_in name items) ≡ is_there name items)
  pub none : (name : List ℕ) → has_value (kind_in table name) ≡ false → value_in name items ≡ None
  pub flags : (name : List ℕ) → kind_in table name ≡ Some Flag → one_of name rows ≡ Some (flag_text (is_there name items))
  pub unknown : (name : List ℕ) → kind_in table name ≡ None → is_there name items ≡ false

-- ---- the items, from the one or the other

abbrev pub items_in : Command → Values → List Item
items_in command (Written words) = items_of (table_of command) (map (λ w. string_bytes w) words.now)
items_in command (Matched matches) = items_matched (table_of command) (rows_of (found_of matches))

abbrev pub AreReadable : Command → Values → Type 0
AreReadable command (Written words) = Unit {0}
AreReadable command (Matched matches) = HasValues (table_of command) (rows_of (found_of matches)) (items_in command (Matched matches))
