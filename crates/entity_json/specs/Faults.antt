-- What the faults of a text and of a part are of a document.
use Rattle.json_spell.specs.declared.fault.JsonFault.{JsonFault}
use Rattle.json_spell.specs.declared.fault.JsonFault.TheVariants.{Deep as TooDeep, NotJson as NoJson, OutOfMemory as JsonOutOfMemory}
use Rattle.entity_model.specs.declared.unfit.Unfit.TheVariants.{Deep, NotJson, Shape}
use Rattle.entity_json.specs.declared.part.PartFault.{PartFault}
use Rattle.entity_json.specs.declared.part.PartFault.TheVariants.{Shape as NoShape, OutOfMemory as PartOutOfMemory}
use Rattle.entity_json.specs.declared.fault.DocumentFault.{DocumentFault}
use Rattle.entity_json.specs.declared.fault.DocumentFault.TheVariants.{Unfit as NoDocument, OutOfMemory}

-- of a text that isn't read
abbrev pub of_json : JsonFault → DocumentFault
of_json TooDeep = NoDocument Deep
of_json NoJson = NoDocument NotJson
of_json JsonOutOfMemory = OutOfMemory

-- of a part that isn't read
abbrev pub of_part : PartFault → DocumentFault
of_part NoShape = NoDocument Shape
of_part PartOutOfMemory = OutOfMemory
