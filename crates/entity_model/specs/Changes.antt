-- What two documents of an entity have of their own.
use Rattle.std.specs.Prelude.{◌≡◌, ◌≢◌, List}
use Rattle.sorted_sets.specs.Rising.{In}
use Rattle.sorted_sets.specs.Merging.{Merges, Changes}
use Rattle.entity_model.specs.declared.statement.Statement.{Statement}
use Rattle.entity_model.specs.declared.entity.Entity.{Entity}

-- no property has statements in both lists
abbrev pub AreSeparate : List Statement → List Statement → Type 0
AreSeparate xs ys = (s other : Statement) → In s xs → In other ys → other.property ≢ s.property

-- statements that are gone and that came, with all others of their properties
pub record StatementChanges (old new gone come : List Statement) : Type 0 where
  pub common : List Statement
  pub was : Merges common gone old
  pub is : Merges common come new
  pub from_gone : AreSeparate common gone
  pub from_come : AreSeparate common come

-- the parts that are gone from the first document and those that came to the second, each with the rest of its own document; of lists,
-- both documents have all other parts in the same order
pub record EntityChanges (old new gone come : Entity) : Type 0 where
  pub old_datatype : gone.datatype ≡ old.datatype
  pub new_datatype : come.datatype ≡ new.datatype
  pub old_modified : gone.modified ≡ old.modified
  pub new_modified : come.modified ≡ new.modified
  pub labels : Changes old.labels new.labels gone.labels come.labels
  pub descriptions : Changes old.descriptions new.descriptions gone.descriptions come.descriptions
  pub aliases : Changes old.aliases new.aliases gone.aliases come.aliases
  pub statements : StatementChanges old.statements new.statements gone.statements come.statements
  pub links : Changes old.links new.links gone.links come.links
