-- Which snaks are small: those that a page of the allowed size can have.
use Rattle.std.specs.Prelude.{◌≤◌, length}
use Rattle.entity_model.specs.declared.snak.Content.{Content}
use Rattle.entity_model.specs.declared.snak.Content.TheVariants.{Value, NoValue, SomeValue}
use Rattle.entity_model.specs.declared.snak.Snak.{Snak}
use Rattle.entity_model.specs.Value.{IsSmallValue}

-- a value is small
abbrev pub IsSmallContent : Content → Type 0
IsSmallContent (Value value) = IsSmallValue value
IsSmallContent NoValue = Unit {0}
IsSmallContent SomeValue = Unit {0}

-- the datatype has at most 8 MiB, and the value is small
pub record IsSmallSnak (snak : Snak) : Type 0 where
  pub datatype : length snak.datatype ≤ 8388608
  pub content : IsSmallContent snak.content
