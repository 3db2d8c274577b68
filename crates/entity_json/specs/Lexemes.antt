-- Rule 10: lexemes, their forms and their senses.
use Rattle.std.specs.Prelude.{◌≡◌, ℕ, List, [], Some, codes}
use Rattle.json_spell.specs.Tree.{Tree, member_of}
use Rattle.entity_model.specs.declared.id.EntityId.{EntityId}
use Rattle.entity_model.specs.declared.id.IdKind.TheVariants.{L}
use Rattle.entity_model.specs.declared.lexeme.Lexeme.{Lexeme}
use Rattle.entity_model.specs.declared.lexeme.Part.{Part}
use Rattle.entity_model.specs.Lexeme.{IsPartId, form_mark, sense_mark}
use Rattle.entity_json.specs.declared.lexeme.PartKind.{PartKind}
use Rattle.entity_json.specs.declared.lexeme.PartKind.TheVariants.{Form, Sense}
use Rattle.entity_json.specs.Items.{AreItemIds, HasItemId}
use Rattle.entity_json.specs.Joined.{InOptionalList}
use Rattle.entity_json.specs.Leaves.{text_at}
use Rattle.entity_json.specs.Members.{HasId, HasOptionalText}
use Rattle.entity_json.specs.Statements.{AreStatements}
use Rattle.entity_json.specs.Tagged.{AreLabels}

-- the name of the list of parts of a kind
abbrev pub list_name : PartKind → List ℕ
list_name Form = codes "forms"
list_name Sense = codes "senses"

-- what stands in their ids between the lexeme's id and the number
abbrev pub mark_of : PartKind → List ℕ
mark_of Form = form_mark
mark_of Sense = sense_mark

-- the name of the map of their texts
abbrev pub texts_name : PartKind → List ℕ
texts_name Form = codes "representations"
texts_name Sense = codes "glosses"

-- a form has grammatical features, whose list may be missing, and a sense has none
abbrev pub HasFeatures : PartKind → Tree → List EntityId → Type 0
HasFeatures Form t xs = AreItemIds (codes "grammaticalFeatures") t xs
HasFeatures Sense t xs = xs ≡ []

-- a part of x: its id, its texts, its features and its claims
pub record IsPart (x : EntityId) (kind : PartKind) (t : Tree) (part : Part) : Type 0 where
  pub id : text_at (codes "id") t ≡ Some part.id
  pub is_id : IsPartId x (mark_of kind) part.id
  pub texts : AreLabels (texts_name kind) t part.texts
  pub features : HasFeatures kind t part.features
  pub statements : AreStatements t part.statements

-- the list of the parts of a kind, which may be missing
abbrev pub AreParts : EntityId → PartKind → Tree → List Part → Type 0
AreParts x kind t parts = InOptionalList (λ value part. IsPart x kind value.1 part) (member_of (list_name kind) t) parts

-- a lexeme
pub record IsLexeme (t : Tree) (x : Lexeme) : Type 0 where
  pub type : text_at (codes "type") t ≡ Some (codes "lexeme")
  pub id : HasId (codes "id") t x.id
  pub letter : x.id.kind ≡ L
  pub modified : HasOptionalText (codes "modified") t x.modified
  pub lemmas : AreLabels (codes "lemmas") t x.lemmas
  pub category : HasItemId (codes "lexicalCategory") t x.category
  pub language : HasItemId (codes "language") t x.language
  pub statements : AreStatements t x.statements
  pub forms : AreParts x.id Form t x.forms
  pub senses : AreParts x.id Sense t x.senses
