-- Which arguments are a plan: items in any order, each at most once, each with a fit value.
use Rattle.std.specs.Prelude.{◌≡◌, ℕ, Bool, true, false, List, [], ◌∷◌, ◌++◌, flat_map, map, Option, None, Some}
use Rattle.std.specs.Str.{bytes_eq}
use Rattle.std.specs.List.{AllByRecursion as Each}
use Rattle.arguments.specs.declared.plan.Plan.{Plan}
use Rattle.arguments.specs.declared.table.Command.{Command}
use Rattle.arguments.specs.Table.{Entry, fits, kind_in, name_of, table_of}
use Rattle.arguments.specs.Items.{Item}
use Rattle.arguments.specs.Plan.{asked}

-- an item as it is written: with a value in one argument or in two
pub record Written : Type 0 where
  pub item : Item
  pub joined : Bool

-- the arguments of an item: `--name`, `--name value` or `--name=value`
abbrev pub words_of_item : List ℕ → Option (List ℕ) → Bool → List (List ℕ)
words_of_item name None joined = name ∷ []
words_of_item name (Some value) false = name ∷ value ∷ []
words_of_item name (Some value) true = (name ++ 61 ∷ value) ∷ []

abbrev pub words_written : List Written → List (List ℕ)
words_written written = flat_map (λ w. words_of_item w.item.name w.item.value w.joined) written

abbrev pub items_in : List Written → List Item
items_in written = map (λ (w : Written). w.item) written

-- no two items have the same name
abbrev pub AreDistinct : List Item → Type 0
AreDistinct [] = Unit {0}
AreDistinct (i ∷ items) = Each (λ (other : Item). bytes_eq other.name i.name ≡ false) items × AreDistinct items

-- the arguments are these items, as they are written; each is in the table and fits it, and no two have the same name
pub record Spell (table : List Entry) (words : List (List ℕ)) (items : List Item) : Type 0 where
  pub written : List Written
  pub are : words ≡ words_written written
  pub items_are : items ≡ items_in written
  pub fit : Each (λ (i : Item). fits (kind_in table i.name) i.value ≡ true) items
  pub distinct : AreDistinct items

-- the arguments are the name of a command and such items of its table, in any order, which ask for this plan
pub record IsPlan (words : List (List ℕ)) (plan : Plan) : Type 0 where
  pub command : Command
  pub after : List (List ℕ)
  pub are : words ≡ name_of command ∷ after
  pub items : List Item
  pub spelled : Spell (table_of command) after items
  pub asks : asked command items ≡ Some plan
