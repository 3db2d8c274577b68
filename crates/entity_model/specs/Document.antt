-- Which documents are small, as those that a page of the allowed size can have are, and which are of an entity.
use Rattle.std.specs.Prelude.{◌≡◌, ◌+◌, ◌≤◌, true, [], None, is_some, length}
use Rattle.std.specs.List.{All}
use Rattle.entity_model.specs.declared.id.EntityId.{EntityId}
use Rattle.entity_model.specs.declared.id.IdKind.{IdKind}
use Rattle.entity_model.specs.declared.id.IdKind.TheVariants.{P, Q, L}
use Rattle.entity_model.specs.declared.entity.Link.{Link}
use Rattle.entity_model.specs.declared.entity.Entity.{Entity}
use Rattle.entity_model.specs.declared.document.Document.{Document}
use Rattle.entity_model.specs.declared.document.Document.TheVariants.{Entity as AnEntity, Redirect, Lexeme as ALexeme}
use Rattle.entity_model.specs.declared.lexeme.Lexeme.{Lexeme}
use Rattle.entity_model.specs.Lexeme.{IsSmallLexeme}
use Rattle.entity_model.specs.Value.{IsSmallTagged, optional_length}
use Rattle.entity_model.specs.Statement.{IsSmallStatement}

-- a site and a title have at most 8 MiB together
abbrev pub IsSmallLink : Link → Type 0
IsSmallLink link = length link.site + length link.title ≤ 8388608

-- each text has at most 8 MiB, and the parts are small
pub record IsSmallEntity (entity : Entity) : Type 0 where
  pub datatype : optional_length entity.datatype ≤ 8388608
  pub modified : optional_length entity.modified ≤ 8388608
  pub labels : All IsSmallTagged entity.labels
  pub descriptions : All IsSmallTagged entity.descriptions
  pub aliases : All IsSmallTagged entity.aliases
  pub statements : All IsSmallStatement entity.statements
  pub links : All IsSmallLink entity.links

-- a redirect has an id alone, and is small
abbrev pub IsSmall : Document → Type 0
IsSmall (AnEntity entity) = IsSmallEntity entity
IsSmall (Redirect target) = Unit {0}
IsSmall (ALexeme lexeme) = IsSmallLexeme lexeme

-- the entity has what its kind has and no other does: a property a datatype, and an item perhaps links. A lexeme isn't an entity of this
-- type
abbrev pub HasPartsOf : IdKind → Entity → Type 0
HasPartsOf P entity = (is_some entity.datatype ≡ true) × (entity.links ≡ [])
HasPartsOf Q entity = entity.datatype ≡ None
HasPartsOf L entity = ⊥

-- the entity is x, with the parts that the letter of x wants
pub record IsEntityOf (x : EntityId) (entity : Entity) : Type 0 where
  pub id : entity.id ≡ x
  pub parts : HasPartsOf x.kind entity

-- the lexeme is x, whose letter is that of lexemes
pub record IsLexemeOf (x : EntityId) (lexeme : Lexeme) : Type 0 where
  pub id : lexeme.id ≡ x
  pub letter : x.kind ≡ L

-- the document is one of x; that of a redirect may name an entity of any kind
abbrev pub IsDocumentOf : EntityId → Document → Type 0
IsDocumentOf x (AnEntity entity) = IsEntityOf x entity
IsDocumentOf x (Redirect target) = Unit {0}
IsDocumentOf x (ALexeme lexeme) = IsLexemeOf x lexeme
