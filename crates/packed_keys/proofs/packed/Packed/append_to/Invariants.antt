use Rattle.std.proofs.Common.{◌≡◌, ◌++◌, take}
use Rattle.packed_keys.proofs.packed.Packed.append_to.Given as goal

abbrev pub invariant-loop-cell : goal.invariant-loop-cell
invariant-loop-cell g l = l.keys.items ≡ l.initial.keys.items ++ take l.cell-index l.self
