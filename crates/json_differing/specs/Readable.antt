-- Texts that have something in front which can be read, nested no more levels than so many.
use Rattle.std.specs.Prelude.{◌≡◌, ℕ, List, Some}
use Rattle.json_spell.specs.Tree.{Tree, Pairs, no_pairs}
use Rattle.json_spell.specs.Reading.{list_by, member_by, members_at, spaced, value_at}
use Rattle.json_spell.specs.Nesting.{Nests, MembersNest}

-- a value with white space around it
pub record HasValue (levels : ℕ) (bytes : List ℕ) : Type 0 where
  pub tree : Tree
  pub rest : List ℕ
  pub read : spaced value_at bytes ≡ Some (tree, rest)
  pub nests : Nests levels tree

-- a member
pub record HasMember (levels : ℕ) (bytes : List ℕ) : Type 0 where
  pub name : List ℕ
  pub tree : Tree
  pub rest : List ℕ
  pub read : member_by value_at bytes ≡ Some ((name, tree), rest)
  pub nests : Nests levels tree

-- members and the closing brace
pub record HasMore (levels : ℕ) (bytes : List ℕ) : Type 0 where
  pub members : Pairs
  pub rest : List ℕ
  pub read : members_at bytes ≡ Some (members, rest)
  pub nest : MembersNest levels members

-- the same, where there may be no members
pub record HasMembers (levels : ℕ) (bytes : List ℕ) : Type 0 where
  pub members : Pairs
  pub rest : List ℕ
  pub read : list_by no_pairs 0x7D members_at bytes ≡ Some (members, rest)
  pub nest : MembersNest levels members
