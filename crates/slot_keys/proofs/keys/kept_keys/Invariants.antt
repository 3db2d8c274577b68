use Rattle.std.proofs.Common.{◌≡◌, take}
use Rattle.slot_keys.specs.Marks.{marked}
use Rattle.slot_keys.proofs.keys.kept_keys.Given as goal

abbrev pub invariant-loop-index : goal.invariant-loop-index
invariant-loop-index l = l.keys.items ≡ marked (take l.index l.old) l.kept
