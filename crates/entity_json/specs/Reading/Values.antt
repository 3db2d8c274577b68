-- Data values, by their type.
use Rattle.std.specs.Prelude.{ℕ, cond, List, ◌∷◌, Option, None, Some, option_map, codes}
use Rattle.std.specs.Str.{bytes_eq}
use Rattle.json_spell.specs.Tree.{Tree, member_of}
use Rattle.entity_model.specs.declared.value.Value.{Value}
use Rattle.entity_model.specs.declared.value.Value.TheVariants.{Entity, Str, Time, Quantity, Globe, Mono, Other}
use Rattle.entity_model.specs.declared.value.TimeParts.{TimeParts}
use Rattle.entity_model.specs.declared.value.QuantityParts.{QuantityParts}
use Rattle.entity_model.specs.declared.value.GlobeParts.{GlobeParts}
use Rattle.entity_model.specs.IdOf.{id_of}
use Rattle.entity_model.specs.Value.{is_entity_text}
use Rattle.entity_json.specs.Leaves.{◌>>=◌, text_of, text_at, number_at, optional_text_at, nullable_number_at, is_whole, small_of}
use Rattle.entity_json.specs.declared.values.NumberedType.{NumberedType}
use Rattle.entity_json.specs.declared.values.NumberedType.TheVariants.{Property, Item}
use Rattle.entity_json.specs.Values.{numbered_letter}
use Rattle.entity_json.specs.Reading.Terms.{tagged_under}

-- the type with the word
abbrev pub numbered_type : List ℕ → Option NumberedType
numbered_type word = cond (bytes_eq word (codes "item")) (Some Item) (cond (bytes_eq word (codes "property")) (Some Property) None)

-- the id with the type's letter and a number as it is spelled
unfoldable pub numeric_id : NumberedType → List ℕ → Option (List ℕ)
numeric_id type spelling = id_of (numbered_letter type ∷ spelling) >>= λ id. Some (numbered_letter type ∷ spelling)

-- the id of an entity that is given by its type and number
unfoldable pub numbered_entity : Tree → Option (List ℕ)
numbered_entity t = do
  word ← text_at (codes "entity-type") t
  type ← numbered_type word
  spelling ← number_at (codes "numeric-id") t
  numeric_id type spelling

-- the id of an entity, by its text where that is there
abbrev pub entity_by : Option Tree → Tree → Option (List ℕ)
entity_by None t = numbered_entity t
entity_by (Some id) t = text_of id >>= λ text. cond (is_entity_text text) (Some text) None

unfoldable pub entity_value : Tree → Option (List ℕ)
entity_value t = entity_by (member_of (codes "id") t) t

-- a time; its timezone is a whole number, and its precision one from 0 to 255
unfoldable pub time_of : Tree → Option TimeParts
time_of t = do
  time ← text_at (codes "time") t
  calendar ← text_at (codes "calendarmodel") t
  spelling ← number_at (codes "precision") t
  precision ← small_of spelling
  timezone ← number_at (codes "timezone") t
  cond (is_whole timezone)
      (Some (record { time = time; precision = precision; precision_text = spelling; timezone = timezone; calendar = calendar }))
      None

-- a number with its unit and bounds
unfoldable pub quantity_of : Tree → Option QuantityParts
quantity_of t = do
  amount ← text_at (codes "amount") t
  unit ← text_at (codes "unit") t
  upper ← optional_text_at (codes "upperBound") t
  lower ← optional_text_at (codes "lowerBound") t
  Some (record { amount = amount; unit = unit; upper = upper; lower = lower })

-- a point on a globe
unfoldable pub globe_of : Tree → Option GlobeParts
globe_of t = do
  latitude ← number_at (codes "latitude") t
  longitude ← number_at (codes "longitude") t
  precision ← nullable_number_at (codes "precision") t
  globe ← text_at (codes "globe") t
  Some (record { latitude = latitude; longitude = longitude; precision = precision; globe = globe })

-- a value of the type; one of a type that isn't named here may be anything
unfoldable pub value_of_type : List ℕ → Tree → Option Value
value_of_type type t =
    cond (bytes_eq type (codes "string")) (option_map Str (text_of t))
    (cond (bytes_eq type (codes "wikibase-entityid")) (option_map Entity (entity_value t))
    (cond (bytes_eq type (codes "time")) (option_map Time (time_of t))
    (cond (bytes_eq type (codes "quantity")) (option_map Quantity (quantity_of t))
    (cond (bytes_eq type (codes "globecoordinate")) (option_map Globe (globe_of t))
    (cond (bytes_eq type (codes "monolingualtext")) (option_map Mono (tagged_under (codes "text") t))
    (Some Other))))))

-- the same of a type whose values have parts
unfoldable pub value_of_parts : List ℕ → Tree → Option Value
value_of_parts type t =
    cond (bytes_eq type (codes "time")) (option_map Time (time_of t))
    (cond (bytes_eq type (codes "quantity")) (option_map Quantity (quantity_of t))
    (cond (bytes_eq type (codes "globecoordinate")) (option_map Globe (globe_of t))
    (cond (bytes_eq type (codes "monolingualtext")) (option_map Mono (tagged_under (codes "text") t))
    (Some Other))))

-- a data value
unfoldable pub value_of : Tree → Option Value
value_of t = do
  type ← text_at (codes "type") t
  value ← member_of (codes "value") t
  value_of_type type value
