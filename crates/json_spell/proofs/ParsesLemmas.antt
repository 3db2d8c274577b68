-- A fault that is passed on.
use Rattle.std.proofs.Common.{◌≡◌, Option, None}
use Rattle.json_spell.specs.declared.fault.JsonFault.{JsonFault}
use Rattle.json_spell.specs.declared.fault.JsonFault.TheVariants.{Deep, NotJson, OutOfMemory}
use Rattle.json_spell.specs.Parses.{Refuses}

pub Refuses-passed : {A B : Type 0} (fault : JsonFault) (o : Option A) (o' : Option B) → (o ≡ None → o' ≡ None) → Refuses fault o → Refuses fault o'
Refuses-passed Deep o o' none h = tt
Refuses-passed NotJson o o' none h = none h
Refuses-passed OutOfMemory o o' none h = tt
