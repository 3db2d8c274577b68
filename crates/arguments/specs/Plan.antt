-- What the arguments ask for.
use Rattle.std.specs.Prelude.{◌≡◌, ℕ, ◌≤◌, Bool, ◌||◌, false, not, cond, List, [], ◌∷◌, Option, None, Some, codes, option_map, IfSome}
use Rattle.std.specs.Option.{option_and_then}
use Rattle.arguments.specs.declared.table.Command.{Command}
use Rattle.arguments.specs.declared.table.Command.TheVariants.{Replay as ToReplay, Drill as ToDrill, Patches as ToPatches, Follow as ToFollow, Split as ToSplit}
use Rattle.arguments.specs.Table.{Entry, command_named, drill_table, patches_table, replay_table, table_of}
use Rattle.arguments.specs.Items.{Item, are_items, is_there, items_of, number_in, value_in}
use Rattle.arguments.specs.Options.{IsAllowed, IsBounded, choices_of, follow_choices_of, split_choices_of}
use Rattle.arguments.specs.declared.plan.Plan.{Plan}
use Rattle.arguments.specs.declared.plan.Plan.TheVariants.{Replay, Drill, Patches, Follow, Split}

-- the greatest size of a drill
abbrev pub greatest_size : ℕ
greatest_size = 200000

-- the items that the arguments are, if all are items of the table
abbrev pub understood : List Entry → List (List ℕ) → Option (List Item)
understood table words = cond (are_items table (items_of table words)) (Some (items_of table words)) None

-- whether a world that is saved on the way has a file to be saved to: `--every` comes only together with `--save`
abbrev pub has_file : List Item → Bool
has_file items = is_there (codes "--save") items || not (is_there (codes "--every") items)

-- what a command and its items ask for: only a patch stream may be lean, the size of a drill has to be there, and so has the text of the
-- routes of a split
abbrev pub asked_by : Command → List Item → Option Plan
asked_by ToReplay items = Some (Replay (choices_of replay_table false items))
asked_by ToDrill items = option_map Drill (number_in drill_table (codes "--size") items)
asked_by ToPatches items = Some (Patches (choices_of patches_table (is_there (codes "--lean") items) items))
asked_by ToFollow items = Some (Follow (follow_choices_of items))
asked_by ToSplit items = option_map (λ route. Split (split_choices_of items route)) (value_in (codes "--route") items)

-- the same, where a world that is saved on the way has a file
abbrev pub asked : Command → List Item → Option Plan
asked command items = cond (has_file items) (asked_by command items) None

-- the plan that the arguments are: a command, and then items of its table in any order, each at most once
abbrev pub plan_of : List (List ℕ) → Option Plan
plan_of [] = None
plan_of (word ∷ words) = option_and_then (λ command. option_and_then (asked command) (understood (table_of command) words)) (command_named word)

-- what a plan asks for lies in its range, and only a patch stream is lean
abbrev pub IsSized : Plan → Type 0
IsSized (Replay choices) = IsAllowed choices × (choices.lean ≡ false)
IsSized (Drill size) = (1 ≤ size) × (size ≤ greatest_size)
IsSized (Patches choices) = IsAllowed choices × IsBounded choices
IsSized (Follow choices) = IfSome choices.max_bytes (λ n. n ≤ 1099511627776)
IsSized (Split choices) = IsAllowed choices.replay × (choices.replay.lean ≡ false)
