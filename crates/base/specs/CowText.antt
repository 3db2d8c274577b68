-- The bytes of a text that is borrowed or owned.
use Rattle.std.specs.Prelude.{ℕ, List}
use Rattle.base.specs.declared.cow_text.Part.{Part}
use Rattle.base.specs.declared.cow_text.Part.TheVariants.{Source, Own}

abbrev pub part_bytes : Part → List ℕ
part_bytes (Source text) = text.now
part_bytes (Own text) = text
