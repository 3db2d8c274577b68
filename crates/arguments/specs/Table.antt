-- The commands, and the table of each: the names of its items, with the kinds of their values.
use Rattle.std.specs.Prelude.{◌≤◌, ℕ, Bool, true, false, not, cond, ◌==◌, List, [], ◌∷◌, Option, None, Some, find, is_some, codes}
use Rattle.std.specs.Str.{bytes_eq}
use Rattle.arguments.specs.Numbers.{number_between}
use Rattle.arguments.specs.declared.table.ValueKind.{ValueKind}
use Rattle.arguments.specs.declared.table.ValueKind.TheVariants.{Flag, Text, Number}
use Rattle.arguments.specs.declared.table.Command.{Command}
use Rattle.arguments.specs.declared.table.Command.TheVariants.{Replay, Drill, Patches, Follow, Split}

-- an item that a command has: its name, and the kind of its value
pub record Entry : Type 0 where
  pub name : List ℕ
  pub kind : ValueKind

-- this entry
abbrev pub entry : List ℕ → ValueKind → Entry
entry name kind = record { name = name; kind = kind }

-- the commands
abbrev pub commands : List Command
commands = Replay ∷ Drill ∷ Patches ∷ Follow ∷ Split ∷ []

-- the name of a command
abbrev pub name_of : Command → List ℕ
name_of Replay = codes "replay"
name_of Drill = codes "drill"
name_of Patches = codes "patches"
name_of Follow = codes "follow"
name_of Split = codes "split"

-- the command with this name
abbrev pub command_named : List ℕ → Option Command
command_named word = find (λ command. bytes_eq word (name_of command)) commands

-- the items of a replay
abbrev pub replay_table : List Entry
replay_table =
    entry (codes "--from") Text
    ∷ entry (codes "--max-bytes") (Number 0 1099511627776)
    ∷ entry (codes "--max-terms") (Number 1 4294967295)
    ∷ entry (codes "--horizon") (Number 0 9223372036854775807)
    ∷ entry (codes "--save") Text
    ∷ entry (codes "--every") (Number 1 4294967295)
    ∷ entry (codes "--resume") Text
    ∷ entry (codes "--export") Flag
    ∷ entry (codes "--state") Flag
    ∷ entry (codes "--side") Flag
    ∷ []

-- the items of a drill
abbrev pub drill_table : List Entry
drill_table = entry (codes "--size") (Number 1 200000) ∷ []

-- the items of a patch stream: it numbers its records in 64 bits, so it reads fewer bytes
abbrev pub patches_table : List Entry
patches_table =
    entry (codes "--from") Text
    ∷ entry (codes "--max-bytes") (Number 0 4294967295)
    ∷ entry (codes "--max-terms") (Number 1 4294967295)
    ∷ entry (codes "--horizon") (Number 0 9223372036854775807)
    ∷ entry (codes "--save") Text
    ∷ entry (codes "--every") (Number 1 4294967295)
    ∷ entry (codes "--resume") Text
    ∷ entry (codes "--lean") Flag
    ∷ []

-- the items of a follower
abbrev pub follow_table : List Entry
follow_table = entry (codes "--max-bytes") (Number 0 1099511627776) ∷ entry (codes "--export") Flag ∷ []

-- the items of a split
abbrev pub split_table : List Entry
split_table =
    entry (codes "--from") Text
    ∷ entry (codes "--max-bytes") (Number 0 1099511627776)
    ∷ entry (codes "--max-terms") (Number 1 4294967295)
    ∷ entry (codes "--horizon") (Number 0 9223372036854775807)
    ∷ entry (codes "--save") Text
    ∷ entry (codes "--every") (Number 1 4294967295)
    ∷ entry (codes "--resume") Text
    ∷ entry (codes "--route") Text
    ∷ []

-- the items of a command
abbrev pub table_of : Command → List Entry
table_of Replay = replay_table
table_of Drill = drill_table
table_of Patches = patches_table
table_of Follow = follow_table
table_of Split = split_table

-- the kind of the value of the item with this name, if the table has one
abbrev pub kind_in : List Entry → List ℕ → Option ValueKind
kind_in [] name = None
kind_in (e ∷ table) name = cond (bytes_eq name e.name) (Some e.kind) (kind_in table name)

-- whether an item of this kind has a value
abbrev pub has_value : Option ValueKind → Bool
has_value None = false
has_value (Some Flag) = false
has_value (Some Text) = true
has_value (Some (Number least greatest)) = true

-- whether a text may be a value: it isn't empty and doesn't begin with `-`
abbrev pub is_value : List ℕ → Bool
is_value [] = false
is_value (b ∷ bs) = not (b == 45)

-- whether a text is a value of this kind
abbrev pub is_of_kind : ValueKind → List ℕ → Bool
is_of_kind Flag text = false
is_of_kind Text text = is_value text
is_of_kind (Number least greatest) text = is_some (number_between least greatest text)

-- whether an item of this kind may have this value, or none
abbrev pub fits : Option ValueKind → Option (List ℕ) → Bool
fits None value = false
fits (Some Flag) None = true
fits (Some Text) None = false
fits (Some (Number least greatest)) None = false
fits (Some kind) (Some text) = is_of_kind kind text

-- the number that a text of this kind is
abbrev pub number_of : Option ValueKind → List ℕ → Option ℕ
number_of None text = None
number_of (Some Flag) text = None
number_of (Some Text) text = None
number_of (Some (Number least greatest)) text = number_between least greatest text

-- the number lies in the range of this kind
abbrev pub IsInRange : Option ValueKind → ℕ → Type 0
IsInRange None n = ⊥
IsInRange (Some Flag) n = ⊥
IsInRange (Some Text) n = ⊥
IsInRange (Some (Number least greatest)) n = (least ≤ n) × (n ≤ greatest)
