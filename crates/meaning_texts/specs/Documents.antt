-- Documents whose texts are UTF-8: those that terms are made of.
use Rattle.std.specs.Prelude.{IfSome}
use Rattle.std.specs.List.{All}
use Rattle.std.specs.Str.{IsUtf8}
use Rattle.entity_model.specs.declared.value.Tagged.{Tagged}
use Rattle.entity_model.specs.declared.value.TimeParts.{TimeParts}
use Rattle.entity_model.specs.declared.value.QuantityParts.{QuantityParts}
use Rattle.entity_model.specs.declared.value.GlobeParts.{GlobeParts}
use Rattle.entity_model.specs.declared.value.Value.{Value}
use Rattle.entity_model.specs.declared.value.Value.TheVariants.{Entity, Str, Time, Quantity, Globe, Mono, Other}
use Rattle.entity_model.specs.declared.snak.Content.{Content}
use Rattle.entity_model.specs.declared.snak.Content.TheVariants.{Value as AValue, NoValue, SomeValue}
use Rattle.entity_model.specs.declared.snak.Snak.{Snak}
use Rattle.entity_model.specs.declared.statement.Reference.{Reference}
use Rattle.entity_model.specs.declared.statement.Statement.{Statement}
use Rattle.entity_model.specs.declared.entity.Link.{Link}
use Rattle.entity_model.specs.declared.entity.Entity.{Entity as AnyEntity}
use Rattle.entity_model.specs.declared.lexeme.Part.{Part}
use Rattle.entity_model.specs.declared.lexeme.Lexeme.{Lexeme}
use Rattle.entity_model.specs.declared.document.Document.{Document}
use Rattle.entity_model.specs.declared.document.Document.TheVariants.{Entity as AnEntity, Redirect, Lexeme as ALexeme}

-- a text and its language
pub record IsUtf8Tagged (tagged : Tagged) : Type 0 where
  pub text : IsUtf8 tagged.text
  pub language : IsUtf8 tagged.language

-- the parts of a time
pub record IsUtf8Time (parts : TimeParts) : Type 0 where
  pub time : IsUtf8 parts.time
  pub precision : IsUtf8 parts.precision_text
  pub timezone : IsUtf8 parts.timezone
  pub calendar : IsUtf8 parts.calendar

-- the parts of a quantity
pub record IsUtf8Quantity (quantity : QuantityParts) : Type 0 where
  pub amount : IsUtf8 quantity.amount
  pub unit : IsUtf8 quantity.unit
  pub upper : IfSome quantity.upper IsUtf8
  pub lower : IfSome quantity.lower IsUtf8

-- the parts of a point on a globe
pub record IsUtf8Globe (parts : GlobeParts) : Type 0 where
  pub latitude : IsUtf8 parts.latitude
  pub longitude : IsUtf8 parts.longitude
  pub precision : IfSome parts.precision IsUtf8
  pub globe : IsUtf8 parts.globe

-- a value
abbrev pub IsUtf8Value : Value → Type 0
IsUtf8Value (Entity id) = IsUtf8 id
IsUtf8Value (Str text) = IsUtf8 text
IsUtf8Value (Time time) = IsUtf8Time time
IsUtf8Value (Quantity quantity) = IsUtf8Quantity quantity
IsUtf8Value (Globe globe) = IsUtf8Globe globe
IsUtf8Value (Mono tagged) = IsUtf8Tagged tagged
IsUtf8Value Other = Unit {0}

-- what a snak says of its property
abbrev pub IsUtf8Content : Content → Type 0
IsUtf8Content (AValue value) = IsUtf8Value value
IsUtf8Content NoValue = Unit {0}
IsUtf8Content SomeValue = Unit {0}

abbrev pub IsUtf8Snak : Snak → Type 0
IsUtf8Snak snak = IsUtf8Content snak.content

-- a reference
pub record IsUtf8Reference (reference : Reference) : Type 0 where
  pub hash : IsUtf8 reference.hash
  pub snaks : All IsUtf8Snak reference.snaks

-- a statement
pub record IsUtf8Statement (statement : Statement) : Type 0 where
  pub main : IsUtf8Snak statement.main
  pub qualifiers : All IsUtf8Snak statement.qualifiers
  pub references : All IsUtf8Reference statement.references

-- a link
abbrev pub IsUtf8Link : Link → Type 0
IsUtf8Link link = IsUtf8 link.title

-- an item or a property
pub record IsUtf8Entity (entity : AnyEntity) : Type 0 where
  pub modified : IfSome entity.modified IsUtf8
  pub labels : All IsUtf8Tagged entity.labels
  pub descriptions : All IsUtf8Tagged entity.descriptions
  pub aliases : All IsUtf8Tagged entity.aliases
  pub statements : All IsUtf8Statement entity.statements
  pub links : All IsUtf8Link entity.links

-- a form or a sense
pub record IsUtf8Part (part : Part) : Type 0 where
  pub id : IsUtf8 part.id
  pub texts : All IsUtf8Tagged part.texts
  pub statements : All IsUtf8Statement part.statements

-- a lexeme
pub record IsUtf8Lexeme (lexeme : Lexeme) : Type 0 where
  pub modified : IfSome lexeme.modified IsUtf8
  pub lemmas : All IsUtf8Tagged lexeme.lemmas
  pub statements : All IsUtf8Statement lexeme.statements
  pub forms : All IsUtf8Part lexeme.forms
  pub senses : All IsUtf8Part lexeme.senses

-- a document; a redirect has no text
abbrev pub IsUtf8Document : Document → Type 0
IsUtf8Document (AnEntity entity) = IsUtf8Entity entity
IsUtf8Document (Redirect target) = Unit {0}
IsUtf8Document (ALexeme lexeme) = IsUtf8Lexeme lexeme
