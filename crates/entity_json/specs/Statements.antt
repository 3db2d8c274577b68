-- Rules 5 and 6: statements and their references.
use Rattle.std.specs.Prelude.{◌≡◌, ◌≢◌, ℕ, List, [], true, Some, codes}
use Rattle.json_spell.specs.Tree.{Tree, member_of}
use Rattle.entity_model.specs.declared.id.EntityId.{EntityId}
use Rattle.entity_model.specs.declared.statement.Rank.{Rank}
use Rattle.entity_model.specs.declared.statement.Rank.TheVariants.{Deprecated, Normal, Preferred}
use Rattle.entity_model.specs.declared.statement.Reference.{Reference}
use Rattle.entity_model.specs.declared.statement.Statement.{Statement}
use Rattle.entity_model.specs.declared.snak.Snak.{Snak}
use Rattle.entity_model.specs.Reference.{is_hash}
use Rattle.entity_json.specs.Leaves.{text_at}
use Rattle.entity_json.specs.Joined.{InMap, InOptionalList}
use Rattle.entity_json.specs.Properties.{UnderProperty}
use Rattle.entity_json.specs.Snaks.{IsSnak, AreSnaks}

-- a reference: its hash, and the map of its snaks
pub record IsReference (t : Tree) (x : Reference) : Type 0 where
  pub hash : text_at (codes "hash") t ≡ Some x.hash
  pub is_hash : is_hash x.hash ≡ true
  pub snaks : AreSnaks (codes "snaks") t x.snaks

-- the name of a rank
abbrev pub rank_name : Rank → List ℕ
rank_name Deprecated = codes "deprecated"
rank_name Normal = codes "normal"
rank_name Preferred = codes "preferred"

-- the main snak, whose place is 0
pub record HasMain (p : EntityId) (t : Tree) (x : Snak) : Type 0 where
  pub main : Tree
  pub is_main : member_of (codes "mainsnak") t ≡ Some main
  pub holds : IsSnak p 0 main x

-- a statement of the property p
pub record IsStatement (p : EntityId) (t : Tree) (x : Statement) : Type 0 where
  pub property : x.property ≡ p
  pub main : HasMain p t x.main
  pub rank : text_at (codes "rank") t ≡ Some (rank_name x.rank)
  pub id : text_at (codes "id") t ≡ Some x.id
  pub id_not_empty : x.id ≢ []
  pub qualifiers : AreSnaks (codes "qualifiers") t x.qualifiers
  pub references : InOptionalList (λ value y. IsReference value.1 y) (member_of (codes "references") t) x.references

-- claims: a map from properties to lists of statements
abbrev pub AreStatements : Tree → List Statement → Type 0
AreStatements t xs = InMap (UnderProperty (λ p value x. IsStatement p value.1 x)) (codes "claims") t xs
