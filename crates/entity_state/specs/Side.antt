-- The side output as a list.
use Rattle.std.specs.Prelude.{ℕ, List}
use Rattle.entity_state.specs.declared.entry.Entry.{Entry}

-- the entries in order, and how many more go in without memory
pub record SideList : Type 0 where
  pub entries : List Entry
  pub free : ℕ
