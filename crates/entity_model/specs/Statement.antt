-- Which statements are small: those that a page of the allowed size can have.
use Rattle.std.specs.Prelude.{◌≡◌, ◌≤◌, true, length}
use Rattle.std.specs.List.{All}
use Rattle.entity_model.specs.declared.statement.Reference.{Reference}
use Rattle.entity_model.specs.declared.statement.Statement.{Statement}
use Rattle.entity_model.specs.Reference.{is_hash}
use Rattle.entity_model.specs.Snak.{IsSmallSnak}

-- the hash is one, and the snaks are small
pub record IsSmallReference (reference : Reference) : Type 0 where
  pub hash : is_hash reference.hash ≡ true
  pub snaks : All IsSmallSnak reference.snaks

-- the id has at most 8 MiB, and the snaks and references are small
pub record IsSmallStatement (statement : Statement) : Type 0 where
  pub id : length statement.id ≤ 8388608
  pub main : IsSmallSnak statement.main
  pub qualifiers : All IsSmallSnak statement.qualifiers
  pub references : All IsSmallReference statement.references
