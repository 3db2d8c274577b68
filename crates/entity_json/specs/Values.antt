-- Rule 9: data values.
use Rattle.std.specs.Prelude.{◌≡◌, ◌≢◌, ◌⊎◌, ℕ, ◌<◌, ◌≤◌, ◌^◌, List, ◌∷◌, true, Option, None, Some, codes}
use Rattle.std.specs.Fmt.{decimal}
use Rattle.json_spell.specs.Tree.{Tree, null, member_of}
use Rattle.entity_model.specs.declared.value.Value.{Value}
use Rattle.entity_model.specs.declared.value.Value.TheVariants.{Entity, Str, Time, Quantity, Globe, Mono, Other}
use Rattle.entity_model.specs.declared.value.TimeParts.{TimeParts}
use Rattle.entity_model.specs.declared.value.QuantityParts.{QuantityParts}
use Rattle.entity_model.specs.declared.value.GlobeParts.{GlobeParts}
use Rattle.entity_model.specs.Value.{is_entity_text}
use Rattle.entity_json.specs.declared.values.NumberedType.{NumberedType}
use Rattle.entity_json.specs.declared.values.NumberedType.TheVariants.{Property, Item}
use Rattle.entity_json.specs.Leaves.{text_of, text_at, number_at, is_whole}
use Rattle.entity_json.specs.Members.{HasOptionalText}
use Rattle.entity_json.specs.Tagged.{IsTagged}

-- the word for a type of entities that a value may name by number; a page's type has words of its own
abbrev pub numbered_word : NumberedType → List ℕ
numbered_word Property = codes "property"
numbered_word Item = codes "item"

-- the letter of their ids, in ASCII
abbrev pub numbered_letter : NumberedType → ℕ
numbered_letter Property = 80
numbered_letter Item = 81

-- an entity that is named by its type and its number, from 1 to 4,294,967,295
pub record IsNumericId (t : Tree) (text : List ℕ) : Type 0 where
  pub type : NumberedType
  pub number : ℕ
  pub positive : 0 < number
  pub small : number < 2 ^ 32
  pub has_type : text_at (codes "entity-type") t ≡ Some (numbered_word type)
  pub has_number : number_at (codes "numeric-id") t ≡ Some (decimal number)
  pub is : text ≡ numbered_letter type ∷ decimal number

-- an entity: by its `id`, a text of 1 to 64 ASCII letters, digits and `-`, or where there is none by type and number
abbrev pub IsEntityValue : Option Tree → Tree → List ℕ → Type 0
IsEntityValue None t text = IsNumericId t text
IsEntityValue (Some id) t text = (text_of id ≡ Some text) × (is_entity_text text ≡ true)

-- a point in time: the precision is a whole number from 0 to 255 without a minus sign
pub record IsTime (t : Tree) (x : TimeParts) : Type 0 where
  pub time : text_at (codes "time") t ≡ Some x.time
  pub precision_text : number_at (codes "precision") t ≡ Some x.precision_text
  pub precision : x.precision_text ≡ decimal x.precision
  pub precision_most : x.precision ≤ 255
  pub timezone : number_at (codes "timezone") t ≡ Some x.timezone
  pub timezone_whole : is_whole x.timezone ≡ true
  pub calendar : text_at (codes "calendarmodel") t ≡ Some x.calendar

-- a quantity, perhaps with bounds
pub record IsQuantity (t : Tree) (x : QuantityParts) : Type 0 where
  pub amount : text_at (codes "amount") t ≡ Some x.amount
  pub unit : text_at (codes "unit") t ≡ Some x.unit
  pub upper : HasOptionalText (codes "upperBound") t x.upper
  pub lower : HasOptionalText (codes "lowerBound") t x.lower

-- the precision of a coordinate, which may be missing or null
abbrev pub HasPrecision : Tree → Option (List ℕ) → Type 0
HasPrecision t None = (member_of (codes "precision") t ≡ None) ⊎ (member_of (codes "precision") t ≡ Some null)
HasPrecision t (Some spelling) = number_at (codes "precision") t ≡ Some spelling

-- a point on a globe
pub record IsGlobe (t : Tree) (x : GlobeParts) : Type 0 where
  pub latitude : number_at (codes "latitude") t ≡ Some x.latitude
  pub longitude : number_at (codes "longitude") t ≡ Some x.longitude
  pub precision : HasPrecision t x.precision
  pub globe : text_at (codes "globe") t ≡ Some x.globe

-- the type is none of those that are read
pub record IsOtherType (type : List ℕ) : Type 0 where
  pub no_entity : type ≢ codes "wikibase-entityid"
  pub no_string : type ≢ codes "string"
  pub no_time : type ≢ codes "time"
  pub no_quantity : type ≢ codes "quantity"
  pub no_globe : type ≢ codes "globecoordinate"
  pub no_mono : type ≢ codes "monolingualtext"

-- the data value that a tree is by the type
abbrev pub IsValue : List ℕ → Tree → Value → Type 0
IsValue type t (Entity text) = (type ≡ codes "wikibase-entityid") × IsEntityValue (member_of (codes "id") t) t text
IsValue type t (Str text) = (type ≡ codes "string") × (text_of t ≡ Some text)
IsValue type t (Time x) = (type ≡ codes "time") × IsTime t x
IsValue type t (Quantity x) = (type ≡ codes "quantity") × IsQuantity t x
IsValue type t (Globe x) = (type ≡ codes "globecoordinate") × IsGlobe t x
IsValue type t (Mono x) = (type ≡ codes "monolingualtext") × IsTagged (codes "text") t x
IsValue type t Other = IsOtherType type
