-- Whether brackets open too deep, computed by the scan.
use Rattle.std.specs.Prelude.{ℕ, List, Bool}
use Rattle.json_spell.specs.declared.deep.Position.TheVariants.{Outside}
use Rattle.json_spell.specs.Deep.{deep_from}

-- the scan from the front of a text
unfoldable pub is_deep_text : List ℕ → Bool
is_deep_text bytes = deep_from Outside 0 0 bytes
