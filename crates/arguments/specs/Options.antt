-- What a replay, a patch stream, a follower and a split are asked for.
use Rattle.std.specs.Prelude.{ℕ, ◌≤◌, Bool, false, List, Option, IfSome, is_none, unwrap_or, codes}
use Rattle.arguments.specs.Items.{Item, is_there, number_in, value_in}
use Rattle.arguments.specs.Table.{Entry, IsInRange, follow_table, kind_in, replay_table, split_table}
use Rattle.rdf_term.specs.Limits.{default_max_terms}

-- what is asked for; each option only if the arguments have it
pub record Choices : Type 0 where
  -- the folder of the revisions
  pub folder : Option (List ℕ)
  pub max_bytes : Option ℕ
  pub max_terms : Option ℕ
  -- in microseconds
  pub horizon : Option ℕ
  pub export : Bool
  pub state : Bool
  pub side : Bool
  -- the file that the snapshot is written to
  pub save : Option (List ℕ)
  -- after how many watermark lines the snapshot is written each time, if it is written on the way
  pub every : Option ℕ
  -- the file of the snapshot that the run goes on from
  pub resume : Option (List ℕ)
  -- whether only triples that two pages may share are stored
  pub lean : Bool

-- what items of this table ask for, where this says whether the run is lean; a patch stream has no sections
abbrev pub choices_of : List Entry → Bool → List Item → Choices
choices_of table lean items = record {
  folder = value_in (codes "--from") items;
  max_bytes = number_in table (codes "--max-bytes") items;
  max_terms = number_in table (codes "--max-terms") items;
  horizon = number_in table (codes "--horizon") items;
  export = is_there (codes "--export") items;
  state = is_there (codes "--state") items;
  side = is_there (codes "--side") items;
  save = value_in (codes "--save") items;
  every = number_in table (codes "--every") items;
  resume = value_in (codes "--resume") items;
  lean = lean;
}

-- the folder of the revisions: without `--from` the current folder
abbrev pub folder_of : Choices → List ℕ
folder_of c = unwrap_or c.folder (codes ".")

-- the most bytes of the input: without `--max-bytes` 1,073,741,824
abbrev pub max_bytes_of : Choices → ℕ
max_bytes_of c = unwrap_or c.max_bytes 1073741824

-- for how many terms there is room: without `--max-terms` the default
abbrev pub max_terms_of : Choices → ℕ
max_terms_of c = unwrap_or c.max_terms default_max_terms

-- whether the end of the input is the end of the deliveries: where the world is saved, more may come in a later run
abbrev pub closes : Choices → Bool
closes c = is_none c.save

-- the number that an item has, if it has one, is in the range that the table gives it
abbrev pub IsItemInRange : List ℕ → Option ℕ → Type 0
IsItemInRange name value = IfSome value (IsInRange (kind_in replay_table name))

-- the numbers that are there are in their ranges
abbrev pub IsAllowed : Choices → Type 0
IsAllowed c =
    IsItemInRange (codes "--max-bytes") c.max_bytes × IsItemInRange (codes "--max-terms") c.max_terms
    × IsItemInRange (codes "--horizon") c.horizon × IsItemInRange (codes "--every") c.every

-- the most bytes are no more than a patch stream may read, which numbers its records in 64 bits
abbrev pub IsBounded : Choices → Type 0
IsBounded c = max_bytes_of c ≤ 4294967295

-- what a follower is asked for: the most bytes of the input, if the arguments have them, and whether its triples are printed
pub record FollowChoices : Type 0 where
  pub max_bytes : Option ℕ
  pub export : Bool

-- what its items ask for
abbrev pub follow_choices_of : List Item → FollowChoices
follow_choices_of items = record { max_bytes = number_in follow_table (codes "--max-bytes") items; export = is_there (codes "--export") items }

-- the most bytes of a follower's input: without `--max-bytes` 1,073,741,824
abbrev pub follow_max_bytes_of : FollowChoices → ℕ
follow_max_bytes_of c = unwrap_or c.max_bytes 1073741824

-- what a split is asked for: the text of its routes, and what a replay of the same lines would be asked for, which prints no section
pub record SplitChoices : Type 0 where
  pub route : List ℕ
  pub replay : Choices

-- what its items ask for, where this is the text of the routes
abbrev pub split_choices_of : List Item → List ℕ → SplitChoices
split_choices_of items route = record {
  route = route;
  replay = record {
    folder = value_in (codes "--from") items;
    max_bytes = number_in split_table (codes "--max-bytes") items;
    max_terms = number_in split_table (codes "--max-terms") items;
    horizon = number_in split_table (codes "--horizon") items;
    export = false;
    state = false;
    side = false;
    save = value_in (codes "--save") items;
    every = number_in split_table (codes "--every") items;
    resume = value_in (codes "--resume") items;
    lean = false;
  };
}
