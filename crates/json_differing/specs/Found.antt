-- What a reader of two texts finds.
use Rattle.std.specs.Prelude.{◌≡◌, ℕ, List, Some}
use Rattle.json_differing.specs.declared.differing.Texts.{Texts}
use Rattle.json_differing.specs.declared.differing.Found.{Found}
use Rattle.json_differing.specs.declared.differing.Paired.{Paired}
use Rattle.json_differing.specs.declared.differing.Named.{Named}
use Rattle.json_differing.specs.declared.differing.Differing.{Differing}
use Rattle.json_spell.specs.Tree.{Tree, object, Pairs, no_pairs}
use Rattle.json_spell.specs.View.{json_view, member_view}
use Rattle.json_spell.specs.Grammar.{Reads}
use Rattle.json_spell.specs.Deep.{IsDeep}
use Rattle.json_spell.specs.Reading.{key_at, list_by, member_by, members_at, spaced, value_at}
use Rattle.json_spell.specs.Nesting.{Nests, MembersNest}
use Rattle.json_differing.specs.Differing.{Differ}

-- both texts have a value with white space around it in front, and this is what the two have of their own
pub record AreFound (depth levels : ℕ) (texts : Texts) (found : Found) : Type 0 where
  pub old : Tree
  pub new : Tree
  pub old_read : spaced value_at texts.old.now ≡ Some (old, found.rests.old.now)
  pub new_read : spaced value_at texts.new.now ≡ Some (new, found.rests.new.now)
  pub differ : Differ depth old new (json_view found.old) (json_view found.new)
  pub nests : Nests levels new

-- the same of the members of two objects, after their opening braces
pub record MembersFound (P : Pairs → Pairs → Pairs → Pairs → Type 0) (levels : ℕ) (texts : Texts) (found : Found) : Type 0 where
  pub olds : Pairs
  pub news : Pairs
  pub gones : Pairs
  pub comes : Pairs
  pub old_read : list_by no_pairs 0x7D members_at texts.old.now ≡ Some (olds, found.rests.old.now)
  pub new_read : list_by no_pairs 0x7D members_at texts.new.now ≡ Some (news, found.rests.new.now)
  pub gone_is : json_view found.old ≡ object gones
  pub come_is : json_view found.new ≡ object comes
  pub holds : P olds news gones comes
  pub nests : MembersNest levels news

-- the texts have one name in front, and a colon after it
pub record AreNamed (texts : Texts) (named : Named) : Type 0 where
  pub old_key : key_at texts.old.now ≡ Some (named.name.now, named.rests.old.now)
  pub new_key : key_at texts.new.now ≡ Some (named.name.now, named.rests.new.now)

-- the texts have members of one name in front
pub record MemberFound (depth levels : ℕ) (texts : Texts) (paired : Paired) : Type 0 where
  pub name : List ℕ
  pub old : Tree
  pub new : Tree
  pub gone : Tree
  pub come : Tree
  pub old_read : member_by value_at texts.old.now ≡ Some ((name, old), paired.rests.old.now)
  pub new_read : member_by value_at texts.new.now ≡ Some ((name, new), paired.rests.new.now)
  pub gone_is : member_view paired.old ≡ (name, gone)
  pub come_is : member_view paired.new ≡ (name, come)
  pub differ : Differ depth old new gone come
  pub nests : Nests levels new

-- the trees of two whole texts, the second of which isn't deep, and what they have of their own
pub record AreDiffering (depth : ℕ) (old_bytes new_bytes : List ℕ) (differing : Differing) : Type 0 where
  pub old : Tree
  pub new : Tree
  pub old_reads : Reads old_bytes old
  pub new_reads : Reads new_bytes new
  pub not_deep : ¬ (IsDeep new_bytes)
  pub differ : Differ depth old new (json_view differing.old) (json_view differing.new)
