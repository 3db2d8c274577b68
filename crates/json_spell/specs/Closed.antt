-- Values whose texts end by themselves, whatever follows: what stands in brackets or in quotation marks.
use Rattle.std.specs.Prelude.{Bool, true, false}
use Rattle.json_spell.specs.Tree.{Tree, null, boolean, number, string, array, object}

abbrev pub ends_itself : Tree → Bool
ends_itself null = false
ends_itself (boolean b) = false
ends_itself (number spelling) = false
ends_itself (string content) = true
ends_itself (array values) = true
ends_itself (object members) = true
