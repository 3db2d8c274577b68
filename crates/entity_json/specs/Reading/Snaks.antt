-- Snaks, and maps of lists of them.
use Rattle.std.specs.Prelude.{ℕ, cond, List, [], Option, None, Some, option_map, codes}
use Rattle.std.specs.Str.{bytes_eq}
use Rattle.json_spell.specs.Tree.{Tree, member_of}
use Rattle.entity_model.specs.declared.id.IdKind.TheVariants.{P}
use Rattle.entity_model.specs.declared.id.EntityId.{EntityId}
use Rattle.entity_model.specs.declared.snak.Content.{Content}
use Rattle.entity_model.specs.declared.snak.Content.TheVariants.{Value, NoValue, SomeValue}
use Rattle.entity_model.specs.declared.snak.Snak.{Snak}
use Rattle.entity_json.specs.Leaves.{◌>>=◌, text_of, text_at, list_of, id_of_kind}
use Rattle.entity_json.specs.Maps.{map_at}
use Rattle.entity_json.specs.Joined.{numbered}
use Rattle.entity_json.specs.Snaks.{value_type}
use Rattle.entity_json.specs.Reading.Steps.{steps, put}
use Rattle.entity_json.specs.Reading.Values.{value_of}

-- a text, or another where it is missing
abbrev pub text_or : List ℕ → Option Tree → Option (List ℕ)
text_or other None = Some other
text_or other (Some t) = text_of t

-- the datatype, which may be missing
unfoldable pub datatype_of : Tree → Option (List ℕ)
datatype_of t = text_or (value_type t) (member_of (codes "datatype") t)

-- what is said, by the name of the snak's type
abbrev pub content_named : List ℕ → Tree → Option Content
content_named type t =
    cond (bytes_eq type (codes "value")) (member_of (codes "datavalue") t >>= λ value. option_map Value (value_of value))
    (cond (bytes_eq type (codes "novalue")) (Some NoValue)
    (cond (bytes_eq type (codes "somevalue")) (Some SomeValue) None))

unfoldable pub snak_content : Tree → Option Content
snak_content t = text_at (codes "snaktype") t >>= λ type. content_named type t

-- the snak under a property, at its place
unfoldable pub snak_of : List ℕ → EntityId → ℕ → Tree → Option Snak
snak_of key property place t = do
  named ← text_at (codes "property") t
  cond (bytes_eq named key) (do
    datatype ← datatype_of t
    content ← snak_content t
    Some (record { property = property; place = place; datatype = datatype; content = content }))
      None

-- one snak of a property, by its place
abbrev pub snak_step : List ℕ → EntityId → ℕ × Tree → List Snak → Option (List Snak)
snak_step key property item out = put out (snak_of key property item.0 item.1)

-- the snaks of one property
unfoldable pub snaks_step : List ℕ × Tree → List Snak → Option (List Snak)
snaks_step member out = do
  property ← id_of_kind P member.0
  items ← list_of member.1
  steps (snak_step member.0 property) (numbered 0 items) out

-- a map from properties to lists of snaks
unfoldable pub snaks_at : List ℕ → Tree → Option (List Snak)
snaks_at name t = map_at name t >>= λ members. steps snaks_step members []
