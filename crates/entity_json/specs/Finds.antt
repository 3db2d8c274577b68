-- What a reader of a part answers: the part, Shape if there is none, or OutOfMemory at any time.
use Rattle.std.specs.Prelude.{◌≡◌, Option, Some, None, Result, Ok, Err}
use Rattle.entity_json.specs.declared.part.PartFault.{PartFault}
use Rattle.entity_json.specs.declared.part.PartFault.TheVariants.{Shape, OutOfMemory}

-- a fault of a reader
abbrev pub FindsNone : {A : Type 0} → PartFault → Option A → Type 0
FindsNone Shape there = there ≡ None
FindsNone OutOfMemory there = Unit {0}

-- the part, as seen by the function
abbrev pub FindsBy : {A B : Type 0} → (A → B) → Result A PartFault → Option B → Type 0
FindsBy view (Ok part) there = there ≡ Some (view part)
FindsBy view (Err fault) there = FindsNone fault there

-- the part itself
abbrev pub Finds : {A : Type 0} → Result A PartFault → Option A → Type 0
Finds (Ok part) there = there ≡ Some part
Finds (Err fault) there = FindsNone fault there

-- the list that is left behind
abbrev pub Makes : {A B : Type 0} → Result B PartFault → A → Option A → Type 0
Makes (Ok done) new there = there ≡ Some new
Makes (Err fault) new there = FindsNone fault there
