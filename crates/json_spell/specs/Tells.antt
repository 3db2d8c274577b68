-- What the reader of a whole text tells before the brackets are counted. It stands in clauses of private functions alone.
use Rattle.std.specs.Prelude.{ℕ, List, Result, Ok, Err}
use Rattle.json_spell.specs.declared.json.Json.{Json}
use Rattle.json_spell.specs.declared.fault.JsonFault.{JsonFault}
use Rattle.json_spell.specs.declared.fault.JsonFault.TheVariants.{Deep, NotJson, OutOfMemory}
use Rattle.json_spell.specs.Tree.{Tree}
use Rattle.json_spell.specs.View.{json_view}
use Rattle.json_spell.specs.Grammar.{Reads}
use Rattle.json_spell.specs.Deep.{IsDeep}

-- a fault where it isn't known yet whether the text is deep
abbrev pub Excuses : List ℕ → JsonFault → Type 0
Excuses bytes Deep = Unit {0}
Excuses bytes NotJson = (t : Tree) → ¬ (Reads bytes t)
Excuses bytes OutOfMemory = Unit {0}

-- the value of the bytes, or why they weren't read
abbrev pub Tells : List ℕ → Result Json JsonFault → Type 0
Tells bytes (Ok json) = ¬ (IsDeep bytes) × Reads bytes (json_view json)
Tells bytes (Err fault) = Excuses bytes fault
