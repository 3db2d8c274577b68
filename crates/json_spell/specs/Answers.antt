-- What a reader answers, and to which bytes.
use Rattle.std.specs.Prelude.{ℕ, List, Result, Ok, Err}
use Rattle.json_spell.specs.declared.json.Json.{Json}
use Rattle.json_spell.specs.declared.fault.JsonFault.{JsonFault}
use Rattle.json_spell.specs.declared.fault.JsonFault.TheVariants.{Deep, NotJson, OutOfMemory}
use Rattle.json_spell.specs.Tree.{Tree}
use Rattle.json_spell.specs.View.{json_view}
use Rattle.json_spell.specs.Grammar.{Reads}
use Rattle.json_spell.specs.Deep.{IsDeep}

-- Deep comes first, and NotJson where no tree is read from the bytes. Any bytes that are not deep may want more memory than there is.
abbrev pub Faults : List ℕ → JsonFault → Type 0
Faults bytes Deep = IsDeep bytes
Faults bytes NotJson = ¬ (IsDeep bytes) × ((t : Tree) → ¬ (Reads bytes t))
Faults bytes OutOfMemory = ¬ (IsDeep bytes)

-- the value of the bytes, or the fault that they have
abbrev pub Answers : List ℕ → Result Json JsonFault → Type 0
Answers bytes (Ok json) = ¬ (IsDeep bytes) × Reads bytes (json_view json)
Answers bytes (Err fault) = Faults bytes fault
