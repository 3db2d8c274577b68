-- Which data values are small: those that a document of the allowed size can have.
use Rattle.std.specs.Prelude.{◌≡◌, ℕ, ◌+◌, ◌≤◌, Bool, true, ◌&&◌, ◌||◌, ◌==◌, nat_le, List, length, Option, Some, None}
use Rattle.std.specs.Char.{is_ascii_alphanumeric}
use Rattle.std.specs.List.{list_all}
use Rattle.entity_model.specs.declared.value.Tagged.{Tagged}
use Rattle.entity_model.specs.declared.value.Value.{Value}
use Rattle.entity_model.specs.declared.value.Value.TheVariants.{Entity, Str, Time, Quantity, Globe, Mono, Other}

-- 1 to 64 ASCII letters, digits and dashes: the id of an entity of any type
abbrev pub is_entity_text : List ℕ → Bool
is_entity_text text =
    nat_le 1 (length text) && nat_le (length text) 64 && list_all (λ c. is_ascii_alphanumeric c || (c == 45)) text

-- how long a text is that may be missing
abbrev pub optional_length : Option (List ℕ) → ℕ
optional_length None = 0
optional_length (Some text) = length text

-- how many bytes a value's texts have together
abbrev pub text_length : Value → ℕ
text_length (Entity id) = length id
text_length (Str text) = length text
text_length (Time time) =
    length time.time + length time.precision_text + length time.timezone + length time.calendar
text_length (Quantity quantity) =
    length quantity.amount + length quantity.unit + optional_length quantity.upper + optional_length quantity.lower
text_length (Globe globe) =
    length globe.latitude + length globe.longitude + optional_length globe.precision + length globe.globe
text_length (Mono tagged) = length tagged.text + length tagged.language
text_length Other = 0

-- a text and its language have at most 8 MiB together
abbrev pub IsSmallTagged : Tagged → Type 0
IsSmallTagged tagged = length tagged.text + length tagged.language ≤ 8388608

-- where the value is an entity, its id is one
abbrev pub HasEntityText : Value → Type 0
HasEntityText (Entity id) = is_entity_text id ≡ true
HasEntityText (Str text) = Unit {0}
HasEntityText (Time time) = Unit {0}
HasEntityText (Quantity quantity) = Unit {0}
HasEntityText (Globe globe) = Unit {0}
HasEntityText (Mono tagged) = Unit {0}
HasEntityText Other = Unit {0}

-- the value's texts have at most 8 MiB together, and the id of an entity is one
pub record IsSmallValue (value : Value) : Type 0 where
  pub texts : text_length value ≤ 8388608
  pub id : HasEntityText value
