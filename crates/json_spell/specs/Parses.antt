-- What a reader of a part answers: what is there at the front of the bytes, NotJson if nothing is, or Deep or OutOfMemory at any time.
use Rattle.std.specs.Prelude.{Option, Some, None, Result, Ok, Err, ◌≡◌}
use Rattle.json_spell.specs.declared.fault.JsonFault.{JsonFault}
use Rattle.json_spell.specs.declared.fault.JsonFault.TheVariants.{Deep, NotJson, OutOfMemory}

-- a fault of a reader; where it stops at a level that is too deep, the brackets of the whole text are counted
abbrev pub Refuses : {A : Type 0} → JsonFault → Option A → Type 0
Refuses Deep there = Unit {0}
Refuses NotJson there = there ≡ None
Refuses OutOfMemory there = Unit {0}

abbrev pub Parses : {A B : Type 0} → (A → B) → Result A JsonFault → Option B → Type 0
Parses view (Ok a) there = there ≡ Some (view a)
Parses view (Err fault) there = Refuses fault there
