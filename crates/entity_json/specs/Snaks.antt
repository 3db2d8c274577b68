-- Rule 7: snaks, and maps from properties to lists of them.
use Rattle.std.specs.Prelude.{◌≡◌, ℕ, List, [], Option, None, Some, codes}
use Rattle.std.specs.Option.{unwrap_or}
use Rattle.json_spell.specs.Tree.{Tree, member_of}
use Rattle.entity_model.specs.declared.id.EntityId.{EntityId}
use Rattle.entity_model.specs.EntityId.{id_text}
use Rattle.entity_model.specs.declared.value.Value.{Value}
use Rattle.entity_model.specs.declared.snak.Content.{Content}
use Rattle.entity_model.specs.declared.snak.Content.TheVariants.{Value as AValue, NoValue, SomeValue}
use Rattle.entity_model.specs.declared.snak.Snak.{Snak}
use Rattle.entity_json.specs.Leaves.{◌>>=◌, text_of, text_at}
use Rattle.entity_json.specs.Joined.{InMap}
use Rattle.entity_json.specs.Properties.{UnderProperty}
use Rattle.entity_json.specs.Values.{IsValue}

-- the object `datavalue` has the text `type`, and the value under `value`
pub record HasValue (t : Tree) (x : Value) : Type 0 where
  pub datavalue : Tree
  pub type : List ℕ
  pub value : Tree
  pub is_datavalue : member_of (codes "datavalue") t ≡ Some datavalue
  pub is_type : text_at (codes "type") datavalue ≡ Some type
  pub is_value : member_of (codes "value") datavalue ≡ Some value
  pub holds : IsValue type value x

-- what a snak says of its property, by its `snaktype`
abbrev pub IsContent : Tree → Content → Type 0
IsContent t (AValue x) = (text_at (codes "snaktype") t ≡ Some (codes "value")) × HasValue t x
IsContent t NoValue = text_at (codes "snaktype") t ≡ Some (codes "novalue")
IsContent t SomeValue = text_at (codes "snaktype") t ≡ Some (codes "somevalue")

-- the type of the `datavalue`, or the empty text where there is none
unfoldable pub value_type : Tree → List ℕ
value_type t = unwrap_or (member_of (codes "datavalue") t >>= text_at (codes "type")) []

-- the datatype: where it is missing, the type of the value stands for it
abbrev pub IsDatatype : Option Tree → Tree → List ℕ → Type 0
IsDatatype None t datatype = datatype ≡ value_type t
IsDatatype (Some u) t datatype = text_of u ≡ Some datatype

-- a snak of the property p, at the place n
pub record IsSnak (p : EntityId) (n : ℕ) (t : Tree) (x : Snak) : Type 0 where
  pub under_key : text_at (codes "property") t ≡ Some (id_text p)
  pub property : x.property ≡ p
  pub place : x.place ≡ n
  pub content : IsContent t x.content
  pub datatype : IsDatatype (member_of (codes "datatype") t) t x.datatype

-- the snaks in the map under a name, from properties to lists
abbrev pub AreSnaks : List ℕ → Tree → List Snak → Type 0
AreSnaks name t xs = InMap (UnderProperty (λ p value x. IsSnak p value.0 value.1 x)) name t xs
